use Rattle.std.proofs.Common.{◌∙◌, ◌<◌, arith, length, refl}
use Rattle.std.proofs.lemmas.List.{length-map, length-set}
use Rattle.std.proofs.lemmas.Option.{slice_get_read}
use Rattle.fjall_tree.specs.Trees.{aged_shape}
use Rattle.fjall_trees.specs.Lists.{planted}
use Rattle.fjall_trees.specs.Views.{forest_of}
use Rattle.fjall_trees.proofs.Bounded.{changed_all, changed_more}
use Rattle.fjall_trees.proofs.Places.{set_forest}
use Rattle.fjall_trees.proofs.trees.Trees.let_older_go.Goals as goal

pub invariant_of-self : goal.invariant_of-self
invariant_of-self c =
    let t = c.loop-place.self in
    let n = c.loop-place.place in
    let lt : n < length t.trees.items = omega (arith, c.loop-place-test.true, c.len-place-end.ensures, c.loop-place.invariant.count, c.args.self.now.trees.ok.0) in
    let here = slice_get_read t.trees.items (length t.trees.items) n c.index_mut.result.now refl lt c.index_mut.ensures.value in
    record { lawful = set_forest t.trees.items n c.index_mut.result.now c.let_older_go.new.self t.lawful here }

pub loop-place-preserved : goal.loop-place-preserved
loop-place-preserved c =
    let t = c.loop-place.self in
    let n = c.loop-place.place in
    let k = c.index_mut.result.now in
    let lt : n < length t.trees.items = omega (arith, c.loop-place-test.true, c.len-place-end.ensures, c.loop-place.invariant.count, c.args.self.now.trees.ok.0) in
    let here = slice_get_read t.trees.items (length t.trees.items) n k refl lt c.index_mut.ensures.value in
    record {
      changed = changed_more aged_shape (forest_of c.args.self.now) t.trees.items n k c.let_older_go.new.self c.loop-place.invariant.changed here c.let_older_go.ensures.shape;
      count = length-set t.trees.items n (record { id = k.id; tree = c.let_older_go.new.self }) ∙ c.loop-place.invariant.count;
      bound = c.loop-place.invariant.bound;
    }

pub returns-clause-trees : goal.returns-clause-trees
returns-clause-trees c =
    let ks = c.args.self.now.trees.items in
    c.loop-place.invariant.changed
    ∙ changed_all aged_shape c.loop-place.place (forest_of c.args.self.now) (omega (arith, c.loop-place-test.false, c.len-place-end.ensures, c.args.self.now.trees.ok.0, length-map ks planted))
