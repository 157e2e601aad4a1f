use Rattle.std.proofs.Common.{inr, refl, sym}
use Rattle.std.proofs.lemmas.Bool.{true≢false}
use Rattle.fjall_recovery.proofs.Homing.{clear_beyond, same_id}
use Rattle.fjall_recovery.proofs.homes.read_keyspace.Goals as goal

pub returns-then-not-clears_are_within-clause-cause : goal.returns-then-not-clears_are_within-clause-cause
returns-then-not-clears_are_within-clause-cause g c honest folders =
    let has = c.if-not-contains.ensures.cases in
    let there = (folders.each c.args.id).0 (has.0, has.1, same_id _ _ (has.2 c.args.id)) in
    (there.1, inr (refl, clear_beyond _ c.args.id c.in_ok-home.home (c.in_ok-home.ensures.loaded honest) (λ clears. true≢false (sym (c.if-not-clears_are_within.ensures.1 clears)))))
