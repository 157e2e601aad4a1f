use Rattle.std.proofs.Common.{◌≡◌, ℕ, List, [], Option, None, Some, ap, refl, sym, subst, ◌∙◌}
use Rattle.std.specs.Option.{option_map}
use Rattle.std.specs.Result.{IfOk}
use Rattle.fjall_table.specs.Blocks.{seen}
use Rattle.fjall_memtable.specs.SortedPages.{barrier}
use Rattle.fjall_tree.specs.Shapes.{shape_of}
use Rattle.fjall_tree.specs.Trees.{clears_of, versions_of}
use Rattle.fjall_tree.proofs.Shows.{value_told}
use Rattle.fjall_tree.proofs.tree.Tree.get_in_memory.Goals as goal

pub returns-in-Some-clause-found : goal.returns-in-Some-clause-found
returns-in-Some-clause-found c =
    let shape = shape_of c.args.self.now in
    let found = sym (ap (option_map seen) c.in-Some.is) ∙ c.in_ok-version.ensures in
    let told = value_told c.args.key.now c.args.instant c.barrier.result (clears_of shape) (versions_of shape []) (Some (seen c.in-Some.version)) c.barrier.ensures found in
    subst (λ (o : Option (List ℕ)). IfOk c.value_of.result (λ value. value ≡ o)) told c.value_of.ensures.value

pub returns-in-None-clause-found : goal.returns-in-None-clause-found
returns-in-None-clause-found c =
    let shape = shape_of c.args.self.now in
    let found = sym (ap (option_map seen) c.in-None.is) ∙ c.in_ok-version.ensures in
    value_told c.args.key.now c.args.instant (barrier c.args.instant (clears_of shape)) (clears_of shape) (versions_of shape []) None refl found
