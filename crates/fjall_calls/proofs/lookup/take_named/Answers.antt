use Rattle.std.proofs.Common.{sym, ◌∙◌, ap, subst}
use Rattle.std.specs.List.{position}
use Rattle.fjall_calls.specs.Names.{Takes, is_wanted}
use Rattle.fjall_calls.proofs.Names.{none_taken, one_taken}
use Rattle.fjall_calls.proofs.lookup.take_named.Goals as goal

pub returns-in_err-place-clause-takes : goal.returns-in_err-place-clause-takes
returns-in_err-place-clause-takes g c =
    let listed = c.args.listed.now.items in
    let is = is_wanted c.args.core.now.engine.memory.tickets c.args.name c.args.kind in
    let found = c.place_of.ensures ∙ ap (position is) c.deref.ensures.value in
    subst (λ left. Takes is listed left listed) (sym c.from_residual.ensures) (none_taken is listed (sym found ∙ c.in_err-place.was))

pub returns-clause-takes : goal.returns-clause-takes
returns-clause-takes g c =
    let listed = c.args.listed.now.items in
    let is = is_wanted c.args.core.now.engine.memory.tickets c.args.name c.args.kind in
    let found = c.place_of.ensures ∙ ap (position is) c.deref.ensures.value in
    one_taken is listed c.remove.new.self.items c.in_ok-place.place c.remove.result (sym found ∙ c.in_ok-place.was) c.remove.ensures.value c.remove.ensures.by_index.2
