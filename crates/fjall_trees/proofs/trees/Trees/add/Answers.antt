use Rattle.std.proofs.Common.{List, [], ◌∷◌, ◌++◌, ap, subst, sym, ◌∙◌}
use Rattle.fjall_trees.specs.declared.trees.KeyspaceTree.{KeyspaceTree}
use Rattle.fjall_trees.specs.Forests.{IsForest}
use Rattle.fjall_trees.specs.Lists.{forest_in}
use Rattle.fjall_trees.proofs.Places.{forest_push}
use Rattle.fjall_trees.proofs.trees.Trees.add.Goals as goal

pub invariant_of-self-2 : goal.invariant_of-self-2
invariant_of-self-2 c =
    let t = c.args.self.now in
    let k : KeyspaceTree = record { id = c.args.id; tree = c.args.tree } in
    let items = c.push_reserved.ensures.items ∙ ap (λ (ks : List KeyspaceTree). ks ++ k ∷ []) c.reserve.ensures.items in
    record { lawful = subst (λ (ks : List KeyspaceTree). IsForest (forest_in ks)) (sym items) (forest_push t.trees.items k t.lawful c.requires) }
