use Rattle.std.proofs.Common.{◌≡◌, ◌-◌, ◌∙◌, ◌==◌, ap, sym, subst, arith, refl, unwrap_or, IsSome}
use Rattle.std.proofs.lemmas.Bool.{ne_eqb}
use Rattle.fjall_machine.specs.Machine.{handles_of}
use Rattle.fjall_machine.proofs.Counting.{last_gone, map_of, one_gone, same_get}
use Rattle.fjall_state.proofs.engine_state.count_less.Goals as goal

pub returns-then-count-eq1 : goal.returns-then-count-eq1
returns-then-count-eq1 c =
    last_gone c.args.handles.now c.remove.new.self c.args.id c.count_of-count.result c.count_of-count.ensures (ap (λ k. k == 1) c.if-count-eq1.true) c.remove.ensures.updates.0

pub returns-in-Some : goal.returns-in-Some
returns-in-Some c =
    let there = subst IsSome c.in-Some.ensures.value refl in
    one_gone c.args.handles.now (c.get_mut.follows.lender (c.count_of-count.result - 1)) c.args.id c.count_of-count.result c.count_of-count.ensures (ne_eqb c.count_of-count.result 1 c.if-count-eq1.false)
    ((c.get_mut.follows.holds (c.count_of-count.result - 1)).3 there).0

pub returns-in_default : goal.returns-in_default
returns-in_default c =
    let none : handles_of (map_of c.args.handles.now) c.args.id ≡ 0 = ap (λ o. unwrap_or o 0) (same_get c.args.handles.now c.args.id ∙ sym c.in_default.ensures.value) in
    let counted = c.requires in
    absurd (omega (arith, none, counted))
