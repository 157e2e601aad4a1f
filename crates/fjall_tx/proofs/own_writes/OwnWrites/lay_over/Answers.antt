use Rattle.std.proofs.Common.{rules, ◌≡◌, ◌<◌, ◌^◌, ◌++◌, [], ◌∷◌, List, ap, sym, ◌∙◌, arith, length, map}
use Rattle.std.proofs.lemmas.List.{append-nil}
use Rattle.std.specs.FinMap.{entries, entries_sorted}
use Rattle.std.specs.declared.cmp.Ordering.TheVariants.{Less}
use Rattle.fjall_base.specs.Pairs.{Bytes, byte_order, page}
use Rattle.fjall_journal.specs.Ops.{value_in}
use Rattle.fjall_journal.specs.declared.op.Op.{Op}
use Rattle.fjall_tx.specs.declared.key.Key.{Key}
use Rattle.fjall_tx.proofs.Fronts.{front, front_is}
use Rattle.fjall_tx.proofs.Keys.{no_entries}
use Rattle.fjall_tx.proofs.Layers.{keyed, laid_over}
use Rattle.fjall_tx.proofs.Merges.{is_below, merge, pair_done, removal_done, step, write_done}
use Rattle.fjall_tx.proofs.own_writes.OwnWrites.lay_over.Goals as goal

pub loop-key-init : goal.loop-key-init
loop-key-init c =
    let own = c.args.self.now in
    let range = c.args.range.now in
    let rest = c.into_iter-key-iterator.ensures.into_iter_gives ∙ c.in_ok-items.ensures.ok in
    let read = ap (λ (es : List (Key × Op)). front c.args.id range.1 es) rest ∙ front_is c.args.id range (entries own) (entries_sorted own) in
    λ i. c.new-seen.ensures.items i ++ merge byte_order value_in (map keyed (read i)) (c.from_vec-found.ensures.items i)

pub loop-pair-preserved-in_ok-push : goal.loop-pair-preserved-in_ok-push
loop-pair-preserved-in_ok-push c =
    let l = c.loop-pair in
    let b = c.in-Some-pop_up_to.pair in
    let left = c.pop_up_to.new.pairs.items in
    let w : Bytes × Op = (c.in-Some.key.now.key, c.in-Some.op.now) in
    let rest = merge byte_order value_in (map keyed (front c.args.id c.args.range.now.1 c.next.new.self)) in
    let before : byte_order b.0 w.0 ≡ Less = is_below (byte_order b.0 w.0) (sym c.lt.ensures ∙ c.if-lt.true) in
    ap (λ (seen : List (Bytes × Bytes)). seen ++ step byte_order value_in w rest left) c.in_ok-push.ensures.items
    ∙ pair_done byte_order value_in w rest l.seen.items l.found.items left b _ c.in-Some-pop_up_to.ensures.taken.0 before l.invariant

pub loop-key-preserved-in_ok-push-2 : goal.loop-key-preserved-in_ok-push-2
loop-key-preserved-in_ok-push-2 c =
    let l = c.loop-pair in
    let left = c.pop_up_to.new.pairs.items in
    let w : Bytes × Op = (c.in-Some.key.now.key, c.in-Some.op.now) in
    let rest = merge byte_order value_in (map keyed (front c.args.id c.args.range.now.1 c.next.new.self)) in
    let key : c.in_ok-clone.field-0 ≡ w.0 = search rules in
    ap (λ (seen : List (Bytes × Bytes)). seen ++ rest left) (c.in_ok-push-2.ensures.items ∙ ap (λ (k : Bytes). l.seen.items ++ (k, c.in-Some-2.value) ∷ []) key)
    ∙ write_done byte_order value_in w rest l.seen.items l.found.items left _ c.in-Some-2.value c.in_default.ensures.rest c.in_default.ensures.above (sym c.in_ok-value.ensures.ok ∙ c.in-Some-2.is) l.invariant

pub loop-key-preserved : goal.loop-key-preserved
loop-key-preserved c =
    let l = c.loop-pair in
    let w : Bytes × Op = (c.in-Some.key.now.key, c.in-Some.op.now) in
    let rest = merge byte_order value_in (map keyed (front c.args.id c.args.range.now.1 c.next.new.self)) in
    removal_done byte_order value_in w rest l.seen.items l.found.items c.pop_up_to.new.pairs.items _ c.in_default.ensures.rest c.in_default.ensures.above (sym c.in_ok-value.ensures.ok ∙ c.in_default-2.is) l.invariant

pub returns-clause-ok : goal.returns-clause-ok
returns-clause-ok c maps is =
    let a = c.args in
    let l = c.loop-pair-2 in
    let vec = a.found.ok in
    let small = a.found.small in
    let short : length a.found.items < 2 ^ 63 = omega (arith, vec, small) in
    let deque = l.found.ok in
    let last = c.in_default-pop_front.ensures.cases in
    let none : l.found.items ≡ [] = no_entries l.found.items (omega (arith, deque, last)) in
    let seen = sym (append-nil l.seen.items) ∙ ap (λ (xs : List (Bytes × Bytes)). l.seen.items ++ xs) (sym none) ∙ l.invariant in
    c.cut.ensures ∙ ap (page a.back a.max) seen ∙ laid_over a.self.now maps a.id a.range.now a.back a.max a.found.items short is
