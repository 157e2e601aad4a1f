use Rattle.std.proofs.Common.{◌≡◌, inl, inr, rules, true, Option, refl, sym, ◌∙◌, ap, subst}
use Rattle.fjall_base.specs.Pairs.{Bytes}
use Rattle.fjall_history.specs.declared.ticket.Ticket.{Ticket}
use Rattle.fjall_history.specs.declared.ticket.View.TheVariants.{At}
use Rattle.fjall_core.specs.Shown.{Shows}
use Rattle.fjall_index_entries.specs.Index.{field_in}
use Rattle.fjall_index_entries.specs.Putting.{has_long_entry, put_items}
use Rattle.fjall_index.specs.Refusing.{IsWriteRefusal}
use Rattle.fjall_index.proofs.Refusing.{on_ok, same_error, wrong_items}
use Rattle.fjall_index.proofs.indexed.Indexed.write_in.Goals as goal

pub returns-clause-written : goal.returns-clause-written
returns-clause-written g c = λ map shown.
    let old = c.in_ok-old.ensures.found map (subst (λ (k : Ticket). Shows g.D.Disk.honest c.args.engine.now (At k) c.args.self.now.main map) (sym c.ticket.ensures) shown) in
    on_ok c.write_all.result (λ is. record { batch = c.in_ok-items.items.items; of = search (rules, old); is = search (rules, is) }) c.write_all.ensures.ok

pub returns-in_err-items-clause-cause : goal.returns-in_err-items-clause-cause
returns-in_err-items-clause-cause g c =
    let of = g.E.Extract.field_of c.args.self.now.extract in
    same_error (IsWriteRefusal g.D.Disk.honest of c.args.self.now.main c.args.self.now.index c.args.engine.now c.args.transaction.now.ticket c.args.key c.args.new c.value_in.new.engine)
    c.from_residual-in_err-items.result c.in_err-items.field-0.0 c.from_residual-in_err-items.ensures.1
    (elim c.in_err-items.ensures.cause [
      | inl memory ↦ inr (inr (inr memory))
      | inr (long, is) ↦ inr (inr (inl (
        long,
        λ pairs shown.
            subst (λ (o : Option Bytes). has_long_entry c.args.key (field_in of c.args.key o) (field_in of c.args.key c.args.new) ≡ true)
            (let found = c.in_ok-old.ensures.found pairs (subst (λ (k : Ticket). Shows g.D.Disk.honest c.args.engine.now (At k) c.args.self.now.main pairs) (sym c.ticket.ensures) shown) in search (rules, found)) is,
      )))
    ])

pub returns-clause-cause : goal.returns-clause-cause
returns-clause-cause g c =
    let of = g.E.Extract.field_of c.args.self.now.extract in
    wrong_items (IsWriteRefusal g.D.Disk.honest of c.args.self.now.main c.args.self.now.index c.args.engine.now c.args.transaction.now.ticket c.args.key c.args.new c.value_in.new.engine)
    c.in_ok-items.items.items c.write_all.result (inr (inr (inr refl)))
    (λ error is. inl (
      c.in_ok-items.items.items,
      (λ pairs shown.
          c.in_ok-items.ensures.ok ∙ ap (λ (o : Option Bytes). put_items of c.args.self.now.main c.args.self.now.index c.args.key o c.args.new)
          (let found = c.in_ok-old.ensures.found pairs (subst (λ (k : Ticket). Shows g.D.Disk.honest c.args.engine.now (At k) c.args.self.now.main pairs) (sym c.ticket.ensures) shown) in search (rules, found))),
      is,
    ))
    c.write_all.ensures.refused
