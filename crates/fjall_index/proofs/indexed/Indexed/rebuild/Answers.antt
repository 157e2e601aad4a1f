use Rattle.std.proofs.Common.{rules, Result, Ok, Err, IfErr, refl, subst}
use Rattle.fjall_base.specs.declared.error.Error.{Error}
use Rattle.fjall_history.specs.declared.ticket.Ticket.{Ticket}
use Rattle.fjall_machine.specs.Shapes.{Open}
use Rattle.fjall_core.specs.Commits.{begun_reply}
use Rattle.fjall_core.specs.Holding.{Held}
use Rattle.fjall_index_entries.specs.declared.error.IndexError.{IndexError}
use Rattle.fjall_index_entries.specs.declared.error.IndexError.TheVariants.{SameKeyspace}
use Rattle.fjall_index.specs.Refusing.{HasRebuilt, IsNotBegun, IsRebuildRefusal, IsRepairRefusal}
use Rattle.fjall_index.proofs.Beginning.{ticket_goes}
use Rattle.fjall_index.proofs.Refusing.{of_engine_or_same, once_cause, rebuilt_writes}
use Rattle.fjall_index.proofs.Repairs.{err_told, rebuild_answers, rebuild_keeps, rebuild_refused, rebuild_rests, rebuilt_as}
use Rattle.fjall_index.proofs.indexed.Indexed.rebuild.Goals as goal

pub returns-then-self-clause-rebuilt : goal.returns-then-self-clause-rebuilt
returns-then-self-clause-rebuilt g c = λ h. rebuild_rests (g.E.Extract.field_of c.args.self.now.extract) c.args.self.now.main c.args.self.now.index c.args.core.now.engine c.args.core.now.transactions (Err SameKeyspace) refl

pub returns-in_err-transaction-clause-rebuilt : goal.returns-in_err-transaction-clause-rebuilt
returns-in_err-transaction-clause-rebuilt g c = λ h.
    rebuild_refused (g.E.Extract.field_of c.args.self.now.extract) c.args.self.now.main c.args.self.now.index c.args.core.now.engine c.begin_optimistic.new.self.engine c.args.core.now.transactions c.begin_optimistic.new.self.transactions
    (begun_reply c.begin_optimistic.result) c.from_residual.result (c.begin_optimistic.ensures.steps h) c.from_residual.ensures.0

pub returns-in_err-transaction-clause-keeps : goal.returns-in_err-transaction-clause-keeps
returns-in_err-transaction-clause-keeps g c = λ h since t d all.
    let (next, e, goes, step) = ticket_goes (g.E.Extract.field_of c.args.self.now.extract) c.args.self.now.main c.args.self.now.index since c.args.core.now.engine c.begin_optimistic.new.self.engine c.args.core.now.transactions
    c.begin_optimistic.new.self.transactions t d Open (begun_reply c.begin_optimistic.result) all (c.begin_optimistic.ensures.steps h t all.stands all.reads) in
    (next, e, goes)

pub returns-in_err-transaction-clause-cause : goal.returns-in_err-transaction-clause-cause
returns-in_err-transaction-clause-cause g c = λ h t stands reads.
    of_engine_or_same (IsRebuildRefusal g.D.Disk.honest (g.E.Extract.field_of c.args.self.now.extract) c.args.self.now.main c.args.self.now.index c.args.core.now.engine t)
    c.from_residual.result c.in_err-transaction.field-0.0 c.from_residual.ensures.1 (IsNotBegun c.begin_optimistic.new.self.engine c.in_err-transaction.ensures.owes)

pub returns-in_err-end-clause-rebuilt : goal.returns-in_err-end-clause-rebuilt
returns-in_err-end-clause-rebuilt g c = λ h.
    let of = g.E.Extract.field_of c.args.self.now.extract in
    let told = err_told _ c.end.result c.from_residual-in_err-end.result (search rules) c.from_residual-in_err-end.ensures.0 in
    rebuilt_as of c.args.self.now.main c.args.self.now.index c.args.core.now.engine c.end.new.core.engine c.args.core.now.transactions c.end.new.core.transactions c.end.result c.from_residual-in_err-end.result told.0 told.1
    (rebuild_answers of c.args.self.now.main c.args.self.now.index g.D.Disk.honest c.args.core.now.engine c.begin_optimistic.new.self.engine c.deref_mut.result.now c.rebuild_in-done.new.engine _ c.end.new.core.engine
    c.args.core.now.transactions c.begin_optimistic.new.self.transactions c.end.new.core.transactions c.in_ok-transaction.transaction c.rebuild_in-done.new.transaction c.rebuild_in-done.result c.end.result
    c.own_writes_grow.ensures.many c.repairs_leave_the_others.ensures h (λ e. search (rules, e)) (c.in_ok-transaction.ensures.steps h) c.in_ok-transaction.ensures.begun c.deref_mut.ensures.value (search rules)
    c.rebuild_in-done.ensures.stand c.rebuild_in-done.ensures.repaired (c.end.ensures.ends h) c.end.ensures.refused)

pub returns-in_err-end-clause-keeps : goal.returns-in_err-end-clause-keeps
returns-in_err-end-clause-keeps g c = λ h since t d all.
    let of = g.E.Extract.field_of c.args.self.now.extract in
    rebuild_keeps of c.args.self.now.main c.args.self.now.index since g.D.Disk.honest c.args.core.now.engine c.begin_optimistic.new.self.engine c.deref_mut.result.now c.rebuild_in-done.new.engine _ c.end.new.core.engine
    c.args.core.now.transactions c.begin_optimistic.new.self.transactions c.end.new.core.transactions t d c.in_ok-transaction.transaction c.rebuild_in-done.new.transaction c.rebuild_in-done.result c.end.result
    c.a_right_index_is_left_alone.ensures h all (c.in_ok-transaction.ensures.steps h t all.stands all.reads) c.in_ok-transaction.ensures.begun c.deref_mut.ensures.value (search rules)
    c.rebuild_in-done.ensures.stand c.rebuild_in-done.ensures.repaired (c.end.ensures.keeps h) c.end.ensures.refused

pub returns-in_err-end-clause-cause : goal.returns-in_err-end-clause-cause
returns-in_err-end-clause-cause g c = λ h t stands reads.
    let of = g.E.Extract.field_of c.args.self.now.extract in
    of_engine_or_same (IsRebuildRefusal g.D.Disk.honest of c.args.self.now.main c.args.self.now.index c.args.core.now.engine t)
    c.from_residual-in_err-end.result c.in_err-end.field-0.0 c.from_residual-in_err-end.ensures.1
    (subst (λ (r : Result Unit Error). IfErr r (IsRebuildRefusal g.D.Disk.honest of c.args.self.now.main c.args.self.now.index c.args.core.now.engine t)) c.in_err-end.was
    (once_cause g.D.Disk.honest c.args.core.now.engine c.begin_optimistic.new.self.engine c.deref_mut.result.now c.rebuild_in-done.new.engine _ c.args.core.now.transactions c.begin_optimistic.new.self.transactions
    c.in_ok-transaction.transaction c.rebuild_in-done.new.transaction c.rebuild_in-done.result c.end.result
    (λ (mid : Held) (ticket : Ticket) (left : Held) (e : Error). IsRepairRefusal g.D.Disk.honest of c.args.self.now.main c.args.self.now.index mid ticket left e) (HasRebuilt of c.args.self.now.main c.args.self.now.index)
    h (c.in_ok-transaction.ensures.steps h) c.in_ok-transaction.ensures.owes c.deref_mut.ensures.value (search rules) c.rebuild_in-done.ensures.stand c.rebuild_in-done.ensures.ticket c.rebuild_in-done.ensures.cause
    (rebuilt_writes of c.args.self.now.main c.args.self.now.index g.D.Disk.honest c.begin_optimistic.new.self.engine c.deref_mut.result.now c.begin_optimistic.new.self.transactions c.in_ok-transaction.transaction c.rebuild_in-done.new.transaction
    c.rebuild_in-done.result h c.deref_mut.ensures.value c.in_ok-transaction.ensures.begun c.rebuild_in-done.ensures.ticket c.rebuild_in-done.ensures.repaired)
    c.end.ensures.cause t stands reads))

pub returns-clause-rebuilt : goal.returns-clause-rebuilt
returns-clause-rebuilt g c = λ h.
    let of = g.E.Extract.field_of c.args.self.now.extract in
    rebuilt_as {E = Error} {F = IndexError} of c.args.self.now.main c.args.self.now.index c.args.core.now.engine c.end.new.core.engine c.args.core.now.transactions c.end.new.core.transactions c.end.result (Ok tt) c.in_ok-end.was tt
    (rebuild_answers of c.args.self.now.main c.args.self.now.index g.D.Disk.honest c.args.core.now.engine c.begin_optimistic.new.self.engine c.deref_mut.result.now c.rebuild_in-done.new.engine _ c.end.new.core.engine
    c.args.core.now.transactions c.begin_optimistic.new.self.transactions c.end.new.core.transactions c.in_ok-transaction.transaction c.rebuild_in-done.new.transaction c.rebuild_in-done.result c.end.result
    c.own_writes_grow.ensures.many c.repairs_leave_the_others.ensures h (λ e. search (rules, e)) (c.in_ok-transaction.ensures.steps h) c.in_ok-transaction.ensures.begun c.deref_mut.ensures.value (search rules)
    c.rebuild_in-done.ensures.stand c.rebuild_in-done.ensures.repaired (c.end.ensures.ends h) c.end.ensures.refused)

pub returns-clause-keeps : goal.returns-clause-keeps
returns-clause-keeps g c = λ h since t d all.
    let of = g.E.Extract.field_of c.args.self.now.extract in
    rebuild_keeps of c.args.self.now.main c.args.self.now.index since g.D.Disk.honest c.args.core.now.engine c.begin_optimistic.new.self.engine c.deref_mut.result.now c.rebuild_in-done.new.engine _ c.end.new.core.engine
    c.args.core.now.transactions c.begin_optimistic.new.self.transactions c.end.new.core.transactions t d c.in_ok-transaction.transaction c.rebuild_in-done.new.transaction c.rebuild_in-done.result c.end.result
    c.a_right_index_is_left_alone.ensures h all (c.in_ok-transaction.ensures.steps h t all.stands all.reads) c.in_ok-transaction.ensures.begun c.deref_mut.ensures.value (search rules)
    c.rebuild_in-done.ensures.stand c.rebuild_in-done.ensures.repaired (c.end.ensures.keeps h) c.end.ensures.refused
