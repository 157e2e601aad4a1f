use Rattle.std.proofs.Common.{◌≡◌, ◌==◌, ◌∙◌, ap}
use Rattle.std.specs.Prelude.{position}
use Rattle.fjall_meta.proofs.Without.{left_without, left_whole}
use Rattle.fjall_meta.proofs.meta_keyspace.MetaKeyspace.place.Goals as goal

pub returns-clause-left : goal.returns-clause-left
returns-clause-left c =
    let at : c.place_of.result ≡ position (λ k. k.id == c.args.id) c.self.inside.living.items = c.place_of.ensures ∙ ap (position (λ k. k.id == c.args.id)) c.deref.ensures.value in
    rw (← c.self.view_is) (left_without c.self.inside.living.items c.args.id c.self.invariant.ascending c.place_of.result at)

pub returns-clause-none : goal.returns-clause-none
returns-clause-none c =
    let at : c.place_of.result ≡ position (λ k. k.id == c.args.id) c.self.inside.living.items = c.place_of.ensures ∙ ap (position (λ k. k.id == c.args.id)) c.deref.ensures.value in
    rw (← c.self.view_is) (left_whole c.self.inside.living.items c.args.id c.self.invariant.ascending c.place_of.result at)
