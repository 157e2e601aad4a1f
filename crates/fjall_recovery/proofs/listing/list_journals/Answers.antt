use Rattle.std.proofs.Common.{sym, subst}
use Rattle.fjall_base.specs.Disk.{Lists, state_in}
use Rattle.fjall_recovery.proofs.Listed.{journal_ids_ok, journals_named_ok, journals_refused}
use Rattle.fjall_recovery.proofs.listing.list_journals.Goals as goal

pub returns-clause-ids : goal.returns-clause-ids
returns-clause-ids g c honest =
    let state = state_in (g.D.Disk.meaning c.args.disk.now) in
    journal_ids_ok state c.journals.result _ (subst (Lists state _) (sym c.deref.ensures.value) (c.in_ok-listed.ensures.found honest)) c.journals.ensures.ids

pub returns-clause-named : goal.returns-clause-named
returns-clause-named g c honest =
    let state = state_in (g.D.Disk.meaning c.args.disk.now) in
    journals_named_ok state c.journals.result _ _ (subst (Lists state _) (sym c.deref.ensures.value) (c.in_ok-listed.ensures.found honest)) c.journals.ensures.refused.1

pub returns-clause-cause : goal.returns-clause-cause
returns-clause-cause g c honest =
    let state = state_in (g.D.Disk.meaning c.args.disk.now) in
    journals_refused state c.journals.result _ _ (subst (Lists state _) (sym c.deref.ensures.value) (c.in_ok-listed.ensures.found honest)) c.journals.ensures.refused.0 c.journals.ensures.only
