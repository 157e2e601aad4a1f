use Rattle.std.proofs.Common.{◌≡◌, inl, inr, rules, true, Option, sym, subst}
use Rattle.fjall_base.specs.Pairs.{Bytes}
use Rattle.fjall_history.specs.declared.ticket.Ticket.{Ticket}
use Rattle.fjall_history.specs.declared.ticket.View.TheVariants.{At}
use Rattle.fjall_core.specs.Shown.{Shows}
use Rattle.fjall_index_entries.specs.Index.{field_in}
use Rattle.fjall_index_entries.specs.Putting.{has_long_entry}
use Rattle.fjall_index.specs.Refusing.{IsChangeRefusal}
use Rattle.fjall_index.proofs.Refusing.{of_engine}
use Rattle.fjall_index.proofs.indexed.Indexed.keep_in.Goals as goal

pub returns-clause-kept : goal.returns-clause-kept
returns-clause-kept g c = λ map shown.
    let old = c.in_ok-old.ensures.found map (subst (λ (k : Ticket). Shows g.D.Disk.honest c.args.engine.now (At k) c.args.self.now.main map) (sym c.ticket.ensures) shown) in
    record { batch = c.in_ok-items.items; of = search (rules, old); is = search rules; kept = search rules }

pub returns-in_err-items-clause-cause : goal.returns-in_err-items-clause-cause
returns-in_err-items-clause-cause g c =
    let of = g.E.Extract.field_of c.args.self.now.extract in
    of_engine (IsChangeRefusal g.D.Disk.honest of c.args.self.now.main c.args.engine.now c.args.tx.now.transaction.ticket c.args.key c.args.new c.value_in.new.engine)
    c.from_residual-in_err-items.result c.in_err-items.field-0.0 c.from_residual-in_err-items.ensures.1
    (elim c.in_err-items.ensures.cause [
      | inl memory ↦ inr (inr (inr memory))
      | inr (long, is) ↦ inr (inr (inl (
        long,
        λ pairs shown.
            subst (λ (o : Option Bytes). has_long_entry c.args.key (field_in of c.args.key o) (field_in of c.args.key c.args.new) ≡ true)
            (let found = c.in_ok-old.ensures.found pairs (subst (λ (k : Ticket). Shows g.D.Disk.honest c.args.engine.now (At k) c.args.self.now.main pairs) (sym c.ticket.ensures) shown) in search (rules, found))
            (subst (λ (k : Bytes). has_long_entry k (field_in of k c.in_ok-old.old) (field_in of k c.args.new) ≡ true) (search rules) is),
      )))
    ])
