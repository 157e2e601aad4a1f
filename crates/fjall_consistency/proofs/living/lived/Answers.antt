use Rattle.fjall_base.specs.Disk.{standing, state_in}
use Rattle.fjall_recovery.specs.Refusals.{HasTornTail}
use Rattle.fjall_consistency.proofs.Lasting.{opening_runs_out, some_folder, used_up}
use Rattle.fjall_consistency.proofs.WildTurns.{opened_passes, refused_passes, unopened_passes}
use Rattle.fjall_consistency.proofs.living.lived.Goals as goal

pub returns-in-Ok-open : goal.returns-in-Ok-open
returns-in-Ok-open g c = λ h.
    opened_passes (g.D.Disk.meaning c.args.disk) c.in-Ok-open.core.engine c.in-Ok-open.core.transactions c.args.life c.served.result.0 (g.D.Disk.meaning c.served.result.1) (c.in-Ok-open.ensures.amid h) (c.in-Ok-open.ensures.any_bytes h) c.in-Ok-open.ensures.none (c.served.ensures h)

pub returns-in-Err-open : goal.returns-in-Err-open
returns-in-Err-open g c = λ h.
    let old = g.D.Disk.meaning c.args.disk in
    let e = c.in-Err-open.refused.error in
    refused_passes c.in-Ok.config.journal_recovery_mode c.args.life e old (g.D.Disk.meaning c.in-Err-open.refused.value) (c.in-Err-open.ensures.due h) (λ base pending holds.
    let (folder, opens) = some_folder (state_in old) base pending holds in (
      opening_runs_out c.in-Ok.config.journal_recovery_mode (HasTornTail (standing (state_in old))) e c.in-Ok.ensures.mode (c.in-Err-open.ensures.opens_or_torn h folder opens),
      c.in-Err-open.ensures.amid_err h base pending holds,
    ))

pub returns-in-Err : goal.returns-in-Err
returns-in-Err g c = λ h. unopened_passes (g.D.Disk.meaning c.args.disk) c.args.life c.in-Err.error (used_up c.in-Err.error c.in-Err.ensures.only)
