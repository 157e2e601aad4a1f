use Rattle.std.proofs.Common.{rules, ◌≡◌, length, subst, sym, ap, ◌∙◌}
use Rattle.fjall_meta.specs.Keyspaces.{AreKeyspaces, Keyspaces}
use Rattle.fjall_meta.proofs.Changes.{none_taken, one_less_are, taken_back}
use Rattle.fjall_meta.proofs.meta_keyspace.MetaKeyspace.take_back.Goals as goal

pub invariant_of-self : goal.invariant_of-self
invariant_of-self c =
    one_less_are c.pop.new.self.items c.in-Some.keyspace c.self.inside.next (subst (λ l. AreKeyspaces (record { living = l; next = c.self.inside.next })) c.in-Some.ensures.items c.self.invariant)

pub returns-in-Some : goal.returns-in-Some
returns-in-Some c = λ s name options number all made.
    taken_back c.pop.new.self.items c.in-Some.keyspace name options number s c.args.self.now (sym (ap (λ (t : Keyspaces). t.living) c.self.view_is) ∙ c.in-Some.ensures.items) made

pub returns-in_default : goal.returns-in_default
returns-in_default c = λ s name options number all made.
    let none : length c.args.self.now.living ≡ 0 = sym (ap (λ (t : Keyspaces). length t.living) c.self.view_is) ∙ (search rules) in
    absurd (none_taken name options number s c.args.self.now none made)
