use Rattle.std.proofs.Common.{◌≡◌, ◌==◌, not, filter, refl, rules}
use Rattle.std.proofs.lemmas.Fn.{filter_same}
use Rattle.fjall_meta.specs.declared.living.LivingKeyspace.{LivingKeyspace}
use Rattle.fjall_meta.proofs.Changes.{some_are}
use Rattle.fjall_meta.proofs.meta_keyspace.MetaKeyspace.remove_keyspace.Goals as goal

pub invariant_of-self : goal.invariant_of-self
invariant_of-self c =
    let left : c.retain.new.self.items ≡ filter (λ (k : LivingKeyspace). not (k.id == c.args.id)) c.self.inside.living.items = filter_same _ _ _ (λ x b f' k. search rules) _ _ c.retain.ensures.filtered in
    rw left (some_are c.self.inside.living.items c.self.inside.next (λ k. not (k.id == c.args.id)) c.self.invariant)

pub returns : goal.returns
returns c =
    let left : c.retain.new.self.items ≡ filter (λ (k : LivingKeyspace). not (k.id == c.args.id)) c.self.inside.living.items = filter_same _ _ _ (λ x b f' k. search rules) _ _ c.retain.ensures.filtered in
    rw (← c.self.view_is, left) refl
