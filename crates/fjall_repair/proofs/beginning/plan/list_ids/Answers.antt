use Rattle.std.proofs.Common.{sym, subst}
use Rattle.fjall_base.specs.Disk.{Lists, state_in}
use Rattle.fjall_recovery.proofs.Listed.{journal_ids_ok}
use Rattle.fjall_repair.proofs.beginning.plan.list_ids.Goals as goal

pub returns-clause-ids : goal.returns-clause-ids
returns-clause-ids g c honest =
    let state = state_in (g.D.Disk.meaning c.args.disk.now) in
    journal_ids_ok state c.journals.result _ (subst (Lists state _) (sym c.deref.ensures.value) (c.in_ok-listed.ensures.found honest)) c.journals.ensures.ids
