-- Trees that are the same but for what is kept of their tables: it goes on along reads, and is so of the tree of each keyspace.
use Rattle.std.proofs.Common.{◌≡◌, ℕ, ◌==◌, Bool, true, false, cond, List, [], ◌∷◌, Some, unwrap_or, ap, ◌∙◌}
use Rattle.fjall_table_reader.specs.Readers.{AreSameTables, Reader}
use Rattle.fjall_trees.specs.Forests.{Forest, tree_at}
use Rattle.fjall_tree.specs.Puts.{bare_tree}
use Rattle.fjall_trees.specs.Tables.{AreSameTrees, shape_in}
use Rattle.fjall_tree.specs.Trees.{IsSameShape, Shape}
use Rattle.fjall_trees.proofs.Same.{same_trees}

tables_along : (a b c : List Reader) → AreSameTables a b → AreSameTables b c → AreSameTables a c
tables_along [] [] [] one two = tt
tables_along [] [] (v ∷ c) one two = two
tables_along [] (u ∷ b) c one two = absurd one
tables_along (t ∷ a) [] c one two = absurd one
tables_along (t ∷ a) (u ∷ b) [] one two = two
tables_along (t ∷ a) (u ∷ b) (v ∷ c) one two = (
  record { name = two.0.name ∙ one.0.name; info = two.0.info ∙ one.0.info; handles = two.0.handles ∙ one.0.handles },
  tables_along a b c one.1 two.1,
)

shape_along : (a b c : Shape) → IsSameShape a b → IsSameShape b c → IsSameShape a c
shape_along a b c one two = record {
  tables = tables_along a.tables b.tables c.tables one.tables two.tables;
  clears = two.clears ∙ one.clears;
  memory = two.memory ∙ one.memory;
  flush = two.flush ∙ one.flush;
  merge = two.merge ∙ one.merge;
}

pub along : (a b c : Forest) → AreSameTrees a b → AreSameTrees b c → AreSameTrees a c
along [] [] [] one two = tt
along [] [] (l ∷ c) one two = two
along [] (k ∷ b) c one two = absurd one
along (j ∷ a) [] c one two = absurd one
along (j ∷ a) (k ∷ b) [] one two = two
along (j ∷ a) (k ∷ b) (l ∷ c) one two = (two.0 ∙ one.0, shape_along j.shape k.shape l.shape one.1 two.1, along a b c one.2 two.2)

-- the tree of a keyspace
pub same_in : (id : ℕ) (a b : Forest) → AreSameTrees a b → IsSameShape (shape_in id a) (shape_in id b)
same_in id [] [] same = (same_trees (record { id = id; shape = bare_tree 0 } ∷ [])).1
same_in id [] (k ∷ b) same = absurd same
same_in id (j ∷ a) [] same = absurd same
same_in id (j ∷ a) (k ∷ b) same = by (j.id == id) (k.id == id) (ap (λ (n : ℕ). n == id) same.0) (same_in id a b same.2)
  where
    by : (x y : Bool) → y ≡ x → IsSameShape (shape_in id a) (shape_in id b)
        → IsSameShape (unwrap_or (cond x (Some j.shape) (tree_at id a)) (bare_tree 0)) (unwrap_or (cond y (Some k.shape) (tree_at id b)) (bare_tree 0))
    by true true e rest = same.1
    by false false e rest = rest
    by true false e rest = let bad : ⊥ = cc in absurd bad
    by false true e rest = let bad : ⊥ = cc in absurd bad
