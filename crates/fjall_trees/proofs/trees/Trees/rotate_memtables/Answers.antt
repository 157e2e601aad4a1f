use Rattle.std.proofs.Common.{◌∙◌, ◌<◌, Ok, ap, arith, length, refl}
use Rattle.std.proofs.lemmas.List.{length-set}
use Rattle.std.proofs.lemmas.Option.{slice_get_read}
use Rattle.fjall_tree.specs.Shapes.{shape_of}
use Rattle.fjall_trees.specs.Views.{forest_of}
use Rattle.fjall_trees.proofs.Places.{err_given, set_forest, set_same}
use Rattle.fjall_trees.proofs.Sealed.{rotated_once, sealed_more}
use Rattle.fjall_trees.proofs.trees.Trees.rotate_memtables.Goals as goal

pub invariant_of-self : goal.invariant_of-self
invariant_of-self c =
    let t = c.loop-place.self in
    let n = c.loop-place.place in
    let lt : n < length t.trees.items = omega (arith, c.loop-place-test.true, c.len-place-end.ensures, c.loop-place.invariant.count, c.args.self.now.trees.ok.0) in
    let here = slice_get_read t.trees.items (length t.trees.items) n c.index_mut.result.now refl lt c.index_mut.ensures.value in
    record { lawful = set_forest t.trees.items n c.index_mut.result.now c.rotate_memtable.new.self t.lawful here }

pub returns-in_err-rotate_memtable-clause-err : goal.returns-in_err-rotate_memtable-clause-err
returns-in_err-rotate_memtable-clause-err c =
    let t = c.loop-place.self in
    let n = c.loop-place.place in
    let lt : n < length t.trees.items = omega (arith, c.loop-place-test.true, c.len-place-end.ensures, c.loop-place.invariant.count, c.args.self.now.trees.ok.0) in
    let here = slice_get_read t.trees.items (length t.trees.items) n c.index_mut.result.now refl lt c.index_mut.ensures.value in
    err_given c.from_residual.result _ (n, set_same t.trees.items n c.index_mut.result.now c.rotate_memtable.new.self here c.in_err-rotate_memtable.ensures.err ∙ c.loop-place.invariant.sealed)

pub loop-place-preserved : goal.loop-place-preserved
loop-place-preserved c =
    let t = c.loop-place.self in
    let n = c.loop-place.place in
    let k = c.index_mut.result.now in
    let lt : n < length t.trees.items = omega (arith, c.loop-place-test.true, c.len-place-end.ensures, c.loop-place.invariant.count, c.args.self.now.trees.ok.0) in
    let here = slice_get_read t.trees.items (length t.trees.items) n k refl lt c.index_mut.ensures.value in
    let made = c.in_ok-rotate_memtable.ensures in
    let once = rotated_once c.in_ok-rotate_memtable.field-0 (shape_of k.tree) (shape_of c.rotate_memtable.new.self) made.ok (λ e. made.sealed (ap Ok e)) (λ e. made.empty (ap Ok e)) in
    record {
      sealed = sealed_more (forest_of c.args.self.now) t.trees.items n k c.rotate_memtable.new.self c.loop-place.invariant.sealed here once;
      count = length-set t.trees.items n (record { id = k.id; tree = c.rotate_memtable.new.self }) ∙ c.loop-place.invariant.count;
    }
