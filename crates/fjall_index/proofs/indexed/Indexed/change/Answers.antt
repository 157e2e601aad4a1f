use Rattle.std.proofs.Common.{rules, Result, IfErr, subst}
use Rattle.fjall_base.specs.declared.error.Error.{Error}
use Rattle.fjall_history.specs.declared.ticket.Ticket.{Ticket}
use Rattle.fjall_core.specs.Durables.{Durable}
use Rattle.fjall_core.specs.Holding.{Held}
use Rattle.fjall_core.specs.Standing.{CoreState}
use Rattle.fjall_core.specs.Commits.{begun_reply}
use Rattle.fjall_index.proofs.Putting.{change_goes, passed_goes, refused_goes}
use Rattle.fjall_index.proofs.Refusing.{of_engine, once_cause, put_writes}
use Rattle.fjall_index.specs.Refusing.{HasPut, IsNotBegun, IsPutRefusal, IsWriteRefusal}
use Rattle.fjall_index.specs.Standing.{GoesOnIndexed, putting, where_done}
use Rattle.fjall_index.proofs.indexed.Indexed.change.Goals as goal

pub returns-in_err-transaction : goal.returns-in_err-transaction
returns-in_err-transaction g c = record {
  keeps = λ h since t d all.
      let of = g.E.Extract.field_of c.args.self.now.extract in
      refused_goes of c.args.self.now.main c.args.self.now.index since c.args.core.now.engine c.begin_optimistic.new.self.engine c.args.core.now.transactions c.begin_optimistic.new.self.transactions t d (begun_reply c.begin_optimistic.result)
      c.from_residual.result (putting of c.args.self.now.main c.args.self.now.index c.args.key c.args.new) c.from_residual.ensures.0 all (c.begin_optimistic.ensures.steps h t all.stands all.reads);
  cause = λ h t stands reads.
      of_engine (IsPutRefusal g.D.Disk.honest (g.E.Extract.field_of c.args.self.now.extract) c.args.self.now.main c.args.self.now.index c.args.core.now.engine t c.args.key c.args.new)
      c.from_residual.result c.in_err-transaction.field-0.0 c.from_residual.ensures.1 (IsNotBegun c.begin_optimistic.new.self.engine c.in_err-transaction.ensures.owes);
}

pub returns-in_err-end : goal.returns-in_err-end
returns-in_err-end g c = record {
  keeps = λ h since t d all.
      let of = g.E.Extract.field_of c.args.self.now.extract in
      passed_goes of c.args.self.now.main c.args.self.now.index since c.end.new.core.engine c.end.new.core.transactions t d c.end.result c.from_residual-in_err-end.result (putting of c.args.self.now.main c.args.self.now.index c.args.key c.args.new)
      (search rules) c.from_residual-in_err-end.ensures.0
      (change_goes of c.args.self.now.main c.args.self.now.index since g.D.Disk.honest c.args.core.now.engine c.begin_optimistic.new.self.engine c.deref_mut.result.now c.write_in-done.new.engine _ c.end.new.core.engine
      c.args.core.now.transactions c.begin_optimistic.new.self.transactions c.end.new.core.transactions t d c.in_ok-transaction.transaction c.write_in-done.new.transaction c.args.key c.args.new c.write_in-done.result c.end.result
      c.own_writes_keep_the_index.ensures.keeps c.own_writes_keep_the_index.ensures.reads c.own_writes_grow.ensures.many h all
      (c.in_ok-transaction.ensures.steps h t all.stands all.reads) c.in_ok-transaction.ensures.begun c.deref_mut.ensures.value (search rules) c.write_in-done.ensures.stand c.write_in-done.ensures.written (c.end.ensures.keeps h) c.end.ensures.refused);
  cause = λ h t stands reads.
      let of = g.E.Extract.field_of c.args.self.now.extract in
      of_engine (IsPutRefusal g.D.Disk.honest of c.args.self.now.main c.args.self.now.index c.args.core.now.engine t c.args.key c.args.new)
      c.from_residual-in_err-end.result c.in_err-end.field-0.0 c.from_residual-in_err-end.ensures.1
      (subst (λ (r : Result Unit Error). IfErr r (IsPutRefusal g.D.Disk.honest of c.args.self.now.main c.args.self.now.index c.args.core.now.engine t c.args.key c.args.new)) c.in_err-end.was
      (once_cause g.D.Disk.honest c.args.core.now.engine c.begin_optimistic.new.self.engine c.deref_mut.result.now c.write_in-done.new.engine _ c.args.core.now.transactions c.begin_optimistic.new.self.transactions
      c.in_ok-transaction.transaction c.write_in-done.new.transaction c.write_in-done.result c.end.result
      (λ (mid : Held) (ticket : Ticket) (left : Held) (e : Error). IsWriteRefusal g.D.Disk.honest of c.args.self.now.main c.args.self.now.index mid ticket c.args.key c.args.new left e)
      (HasPut of c.args.self.now.main c.args.self.now.index c.args.key c.args.new)
      h (c.in_ok-transaction.ensures.steps h) c.in_ok-transaction.ensures.owes c.deref_mut.ensures.value (search rules) c.write_in-done.ensures.stand c.write_in-done.ensures.ticket c.write_in-done.ensures.cause
      (put_writes of c.args.self.now.main c.args.self.now.index c.args.key c.args.new g.D.Disk.honest c.begin_optimistic.new.self.engine c.deref_mut.result.now c.begin_optimistic.new.self.transactions c.in_ok-transaction.transaction
      c.write_in-done.new.transaction c.write_in-done.result h c.deref_mut.ensures.value c.in_ok-transaction.ensures.begun c.write_in-done.ensures.ticket c.write_in-done.ensures.written)
      c.end.ensures.cause t stands reads));
}

pub returns : goal.returns
returns g c = record {
  keeps = λ h since t d all.
      let of = g.E.Extract.field_of c.args.self.now.extract in
      let items = putting of c.args.self.now.main c.args.self.now.index c.args.key c.args.new in
      subst (λ (r : Result Unit Error). (next : CoreState) × (e : Durable) × GoesOnIndexed of c.args.self.now.main c.args.self.now.index since (where_done r items t.state) t d next e c.end.new.core.engine c.end.new.core.transactions) c.in_ok-end.was
      (change_goes of c.args.self.now.main c.args.self.now.index since g.D.Disk.honest c.args.core.now.engine c.begin_optimistic.new.self.engine c.deref_mut.result.now c.write_in-done.new.engine _ c.end.new.core.engine
      c.args.core.now.transactions c.begin_optimistic.new.self.transactions c.end.new.core.transactions t d c.in_ok-transaction.transaction c.write_in-done.new.transaction c.args.key c.args.new c.write_in-done.result c.end.result
      c.own_writes_keep_the_index.ensures.keeps c.own_writes_keep_the_index.ensures.reads c.own_writes_grow.ensures.many h all
      (c.in_ok-transaction.ensures.steps h t all.stands all.reads) c.in_ok-transaction.ensures.begun c.deref_mut.ensures.value (search rules) c.write_in-done.ensures.stand c.write_in-done.ensures.written (c.end.ensures.keeps h) c.end.ensures.refused);
  cause = λ h t stands reads. tt;
}
