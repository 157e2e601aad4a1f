use Rattle.std.proofs.Common.{◌≡◌, ◌∙◌, true, None, sym, ap}
use Rattle.fjall_meta.specs.declared.living.LivingKeyspace.{LivingKeyspace}
use Rattle.fjall_meta.specs.Keyspaces.{Keyspaces, id_of, is_name}
use Rattle.fjall_meta.proofs.Changes.{one_more_are, none_named}
use Rattle.fjall_meta.proofs.meta_keyspace.MetaKeyspace.create_keyspace.Goals as goal

pub invariant_of-self-2 : goal.invariant_of-self-2
invariant_of-self-2 c =
    let living = c.self.inside.living.items in
    let k : LivingKeyspace = record { id = c.self.inside.next; number = c.args.number; name = c.args.name; options = c.args.options } in
    let at : living ≡ c.args.self.now.living = ap (λ (s : Keyspaces). s.living) c.self.view_is in
    let named : is_name c.args.name ≡ true = rw (← c.deref.ensures) (sym c.is_name.ensures ∙ c.if-not-is_name.false) in
    let none : id_of c.args.name living ≡ None = rw (at, ← c.deref-2.ensures) (sym c.resolve_id.ensures ∙ c.in_default.is) in
    rw (c.in_ok-push.ensures.items, c.in-Some-checked_add.ensures.1) (one_more_are living k c.self.invariant c.in-Some-checked_add.ensures.0 named (none_named c.args.name living none) (rw c.options.view_is at c.options.invariant))

pub returns-clause-lawful : goal.returns-clause-lawful
returns-clause-lawful c =
    let living = c.self.inside.living.items in
    let k : LivingKeyspace = record { id = c.self.inside.next; number = c.args.number; name = c.args.name; options = c.args.options } in
    let at : living ≡ c.args.self.now.living = ap (λ (s : Keyspaces). s.living) c.self.view_is in
    let named : is_name c.args.name ≡ true = rw (← c.deref.ensures) (sym c.is_name.ensures ∙ c.if-not-is_name.false) in
    let none : id_of c.args.name living ≡ None = rw (at, ← c.deref-2.ensures) (sym c.resolve_id.ensures ∙ c.in_default.is) in
    rw (c.in_ok-push.ensures.items, c.in-Some-checked_add.ensures.1) (one_more_are living k c.self.invariant c.in-Some-checked_add.ensures.0 named (none_named c.args.name living none) (rw c.options.view_is at c.options.invariant))
