use Rattle.std.proofs.Common.{ℕ, inl, inr, rules, refl, sym, subst}
use Rattle.fjall_base.specs.Pairs.{Pairs}
use Rattle.fjall_history.specs.declared.ticket.Ticket.{Ticket}
use Rattle.fjall_history.specs.declared.ticket.View.TheVariants.{At}
use Rattle.fjall_core.specs.Shown.{Shows}
use Rattle.fjall_index.specs.Refusing.{IsRepairReadRefusal, IsRepairRefusal}
use Rattle.fjall_index.proofs.Refusing.{on_ok, same_error, wrong_items}
use Rattle.fjall_index.proofs.indexed.Indexed.rebuild_in.Goals as goal

pub returns-in_err-items-clause-cause : goal.returns-in_err-items-clause-cause
returns-in_err-items-clause-cause g c =
    let of = g.E.Extract.field_of c.args.self.now.extract in
    same_error (IsRepairRefusal g.D.Disk.honest of c.args.self.now.main c.args.self.now.index c.args.engine.now c.args.transaction.now.ticket c.repairs_in.new.engine)
    c.from_residual.result c.in_err-items.field-0.0 c.from_residual.ensures.1
    (inr (subst (λ (k : Ticket). IsRepairReadRefusal g.D.Disk.honest of c.args.self.now.main c.args.self.now.index c.args.engine.now (At k) c.repairs_in.new.engine c.in_err-items.field-0.0) c.ticket.ensures c.in_err-items.ensures.cause))

pub returns-clause-repaired : goal.returns-clause-repaired
returns-clause-repaired g c = λ pairs found main index.
    let shown = λ (id : ℕ) (m : Pairs) (is : Shows g.D.Disk.honest c.args.engine.now (At c.args.transaction.now.ticket) id m).
    subst (λ (k : Ticket). Shows g.D.Disk.honest c.args.engine.now (At k) id m) (sym c.ticket.ensures) is in
    on_ok c.write_all.result (λ is. record {
      batch = c.in_ok-items.items.items;
      repairs = c.in_ok-items.ensures.ok pairs found (shown c.args.self.now.main pairs main) (shown c.args.self.now.index found index);
      is = search (rules, is);
    }) c.write_all.ensures.ok

pub returns-clause-cause : goal.returns-clause-cause
returns-clause-cause g c =
    let of = g.E.Extract.field_of c.args.self.now.extract in
    let shown = λ (id : ℕ) (m : Pairs) (is : Shows g.D.Disk.honest c.args.engine.now (At c.args.transaction.now.ticket) id m).
    subst (λ (k : Ticket). Shows g.D.Disk.honest c.args.engine.now (At k) id m) (sym c.ticket.ensures) is in
    wrong_items (IsRepairRefusal g.D.Disk.honest of c.args.self.now.main c.args.self.now.index c.args.engine.now c.args.transaction.now.ticket c.repairs_in.new.engine)
    c.in_ok-items.items.items c.write_all.result (inr (inl (inl (inl refl))))
    (λ error is. inl (c.in_ok-items.items.items, (λ pairs found main index. c.in_ok-items.ensures.ok pairs found (shown c.args.self.now.main pairs main) (shown c.args.self.now.index found index)), is))
    c.write_all.ensures.refused
