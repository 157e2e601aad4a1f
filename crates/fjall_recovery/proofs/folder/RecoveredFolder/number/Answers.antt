use Rattle.std.proofs.Common.{rules, ◌^◌, ◌≤◌, arith, subst, sym}
use Rattle.fjall_recovery.proofs.Numbers.{number_is_low}
use Rattle.fjall_recovery.proofs.folder.RecoveredFolder.number.Goals as goal

pub returns-clause-number : goal.returns-clause-number
returns-clause-number c = search rules

pub returns-clause-sound : goal.returns-clause-sound
returns-clause-sound c image contents sound shows =
    let low = number_is_low image contents sound in
    let same = returns-clause-number c contents shows (omega (arith, low)) in
    (same, subst (λ n. n ≤ 2 ^ 63) (sym same) low)
