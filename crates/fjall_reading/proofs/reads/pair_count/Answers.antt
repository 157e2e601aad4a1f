use Rattle.std.proofs.Common.{◌≡◌, ◌+◌, ◌-◌, ◌^◌, ◌<◌, min, length, sym, ◌∙◌, ap, subst, arith}
use Rattle.fjall_reading.specs.Readers.{count_of}
use Rattle.fjall_reading.specs.Rests.{middle}
use Rattle.fjall_reading.proofs.Counting.{all_counted, as_many, fewer, left_to_count, most_counted, page_counted}
use Rattle.fjall_reading.proofs.reads.pair_count.Goals as goal

pub returns-clause-ok : goal.returns-clause-ok
returns-clause-ok g c = λ map shown.
    let invariant = c.loop-rest.invariant in
    all_counted c.loop-rest.count (length (middle c.loop-rest.rest map)) _ _ (ap (λ rest. length (middle rest map)) c.in_default.is) invariant.fits (invariant.counted map shown)

pub returns-then-count-clause-ok : goal.returns-then-count-clause-ok
returns-then-count-clause-ok g c = λ map shown.
    most_counted c.loop-rest.count (length (middle c.loop-rest.rest map)) _ _ c.if-count.true (c.loop-rest.invariant.counted map shown)

pub loop-rest-smaller : goal.loop-rest-smaller
loop-rest-smaller g c =
    let fits = c.loop-rest.invariant.fits in
    let some_left = c.if-count.false in
    let below : c.loop-rest.count < 2 ^ 64 - 1 = omega (arith, fits, some_left) in
    let next : c.saturating_add-count.result ≡ min (c.loop-rest.count + length c.deref.result.now) (2 ^ 64 - 1) =
    as_many c.loop-rest.count c.len.result (length c.deref.result.now) (2 ^ 64 - 1) c.saturating_add-count.result c.saturating_add-count.ensures (c.len.ensures ∙ sym c.deref.ensures.len) in
    subst (λ from. left_to_count c.saturating_add-count.result c.in_ok-rest.rest < left_to_count c.loop-rest.count from) (sym c.in-Some.is)
    (fewer c.deref.result.now c.in-Some.range c.in_ok-rest.rest c.loop-rest.count c.saturating_add-count.result below next c.in_ok-rest.ensures.none)

pub loop-rest-preserved : goal.loop-rest-preserved
loop-rest-preserved g c =
    let invariant = c.loop-rest.invariant in
    let next : c.saturating_add-count.result ≡ min (c.loop-rest.count + length c.deref.result.now) (2 ^ 64 - 1) =
    as_many c.loop-rest.count c.len.result (length c.deref.result.now) (2 ^ 64 - 1) c.saturating_add-count.result c.saturating_add-count.ensures (c.len.ensures ∙ sym c.deref.ensures.len) in record {
      counted = λ map shown.
          let page = c.in_ok-found.ensures.ok map (invariant.same c.args.id map shown) in
          let parts = c.in_ok-rest.ensures.left map (c.deref.ensures.value ∙ page) in
          let so_far = subst (λ from. min (c.loop-rest.count + length (middle from map)) (2 ^ 64 - 1) ≡ count_of map) c.in-Some.is (invariant.counted map shown) in
          page_counted c.deref.result.now c.in-Some.range c.in_ok-rest.rest map c.loop-rest.count c.saturating_add-count.result (2 ^ 64 - 1) (count_of map) next parts so_far;
      fits = omega (arith, next);
      same = λ i map shown. c.page.ensures.same i map (invariant.same i map shown);
      read = g.met.P.Pages.paging_on c.args.pages.now c.loop-rest.pages c.page.new.self c.args.id c.args.id _ invariant.read c.in_ok-found.ensures.paging;
    }
