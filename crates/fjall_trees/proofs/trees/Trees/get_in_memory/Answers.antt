use Rattle.std.proofs.Common.{◌≡◌, [], None, Option, sym, subst}
use Rattle.std.specs.Prelude.{MatchOption}
use Rattle.std.specs.Result.{IfOk}
use Rattle.fjall_memtable.specs.Views.{value_at}
use Rattle.fjall_tree.specs.Trees.{Shape, clears_of, versions_of}
use Rattle.fjall_trees.proofs.Places.{found_tree, tree_here}
use Rattle.fjall_trees.proofs.trees.Trees.get_in_memory.Goals as goal

pub returns-in-Some-clause-found : goal.returns-in-Some-clause-found
returns-in-Some-clause-found c =
    let t = c.args.self.now in
    let ks = t.trees.items in
    let k = c.index.result.now in
    let here = found_tree ks c.as_slice.result.now c.in-Some.place c.args.id k c.as_slice.ensures.value c.in-Some.ensures c.index.ensures in
    let tree = tree_here ks c.in-Some.place c.args.id k t.lawful here.0 here.1 in
    subst (λ (o : Option Shape). IfOk c.get_in_memory.result (λ value. MatchOption o (value ≡ None) (λ shape. value ≡ value_at c.args.key.now c.args.instant (clears_of shape) (versions_of shape [])))) (sym tree)
    c.get_in_memory.ensures.found
