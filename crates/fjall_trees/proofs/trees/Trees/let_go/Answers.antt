use Rattle.std.proofs.Common.{rules, ◌≡◌, ◌==◌, not, List, subst, sym, ap, ◌∙◌}
use Rattle.std.specs.List.{filter}
use Rattle.std.proofs.lemmas.Fn.{filter_same}
use Rattle.fjall_trees.specs.declared.trees.KeyspaceTree.{KeyspaceTree}
use Rattle.fjall_trees.specs.Forests.{IsForest}
use Rattle.fjall_trees.specs.Lists.{forest_in}
use Rattle.fjall_trees.proofs.Places.{forest_without, kept_without}
use Rattle.fjall_trees.proofs.trees.Trees.let_go.Goals as goal

pub invariant_of-self : goal.invariant_of-self
invariant_of-self c =
    let t = c.args.self.now in
    let left : c.retain.new.self.items ≡ filter (λ (k : KeyspaceTree). not (k.id == c.args.id)) t.trees.items = filter_same _ _ _ (λ x b f' k. search rules) _ _ c.retain.ensures.filtered in
    record { lawful = subst (λ (ks : List KeyspaceTree). IsForest (forest_in ks)) (sym left) (forest_without c.args.id t.trees.items t.lawful) }

pub returns : goal.returns
returns c =
    let t = c.args.self.now in
    let left : c.retain.new.self.items ≡ filter (λ (k : KeyspaceTree). not (k.id == c.args.id)) t.trees.items = filter_same _ _ _ (λ x b f' k. search rules) _ _ c.retain.ensures.filtered in
    ap forest_in left ∙ kept_without c.args.id t.trees.items
