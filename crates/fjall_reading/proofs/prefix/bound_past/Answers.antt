use Rattle.std.proofs.Common.{rules, ◌≡◌, ◌+◌, ◌++◌, ◌∷◌, [], sym, ◌∙◌, ap}
use Rattle.std.specs.declared.ops.Bound.TheVariants.{Excluded}
use Rattle.fjall_base.specs.Pairs.{Bytes}
use Rattle.fjall_reading.specs.Prefixes.{raised, up_to}
use Rattle.fjall_reading.proofs.Raising.{raised_ff, raised_last}
use Rattle.fjall_reading.proofs.prefix.bound_past.Goals as goal

pub returns-then-last-clause-ok : goal.returns-then-last-clause-ok
returns-then-last-clause-ok c =
    let front = c.in-Some.front.now in
    let last = c.in-Some.last.now in
    let whole : c.loop-last.rest.now ≡ front ++ last ∷ [] = search rules in
    let end : ◌≡◌ {A = Bytes} c.in_ok-new.field-0 (front ++ (last + 1) ∷ []) = search rules in
    ap Excluded end ∙ ap up_to (sym (raised_last front last c.if-last.true) ∙ ap raised (sym whole) ∙ c.loop-last.invariant)

pub loop-last-preserved : goal.loop-last-preserved
loop-last-preserved c =
    let front = c.in-Some.front.now in
    let last = c.in-Some.last.now in
    let whole : c.loop-last.rest.now ≡ front ++ last ∷ [] = search rules in
    sym (raised_ff front last c.if-last.false) ∙ ap raised (sym whole) ∙ c.loop-last.invariant
