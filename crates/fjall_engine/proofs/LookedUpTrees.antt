-- The tree of a keyspace, as it is looked up.
use Rattle.std.proofs.Common.{◌≡◌, ◌∙◌, ℕ, Option, ap, unwrap_or}
use Rattle.fjall_tree.specs.Puts.{bare_tree}
use Rattle.fjall_tree.specs.Trees.{Shape}
use Rattle.fjall_trees.specs.Forests.{tree_at}
use Rattle.fjall_trees.specs.Tables.{shape_in}
use Rattle.fjall_engine.specs.Holding.{Held}

-- it is the keyspace's, and one of nothing stands for none
pub shape_looked_up : (view core : Held) (id : ℕ) (tree : Option Shape) → tree ≡ tree_at id view.memory.trees → view ≡ core → unwrap_or tree (bare_tree 0) ≡ shape_in id core.memory.trees
shape_looked_up view core id tree told same = ap (λ (o : Option Shape). unwrap_or o (bare_tree 0)) told ∙ ap (λ (h : Held). shape_in id h.memory.trees) same
