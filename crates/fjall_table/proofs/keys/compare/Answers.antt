use Rattle.std.proofs.Common.{arith, sym, ◌∙◌}
use Rattle.fjall_table.proofs.Words.{IsParted, by_fronts}
use Rattle.fjall_table.proofs.keys.compare.Goals as goal

pub returns-then-is_ne : goal.returns-then-is_ne
returns-then-is_ne c =
    let key = c.args.key.now in
    let other = c.args.other.now in
    let one = c.in-Some.ensures.cases in
    let two = c.in-Some-split_first_chunk.ensures.cases in
    let rest = c.in-Some.field-0-1.now in
    let other_rest = c.in-Some-split_first_chunk.field-0-1.now in
    let p : IsParted 16 key c.in-Some.front.now rest = record { front_is = one.0; rest_is = one.1; long = let long = one.2 in omega (arith, long) } in
    let q : IsParted 16 other c.in-Some-split_first_chunk.other_front.now other_rest = record { front_is = two.0; rest_is = two.1; long = let long = two.2 in omega (arith, long) } in
    by_fronts 16 key c.in-Some.front.now rest other c.in-Some-split_first_chunk.other_front.now other_rest c.compare_fronts-order.result p q c.compare_fronts-order.ensures (sym c.is_ne.ensures ∙ c.if-is_ne.true)
