-- What writes make of trees.
use Rattle.std.specs.Prelude.{◌≡◌, ℕ, ◌<◌, ◌==◌, ◌^◌, None, List, [], ◌∷◌, ◌++◌, filter, map, All}
use Rattle.fjall_journal.specs.Ops.{BatchItem, items_refusal, value_in}
use Rattle.fjall_table.specs.Blocks.{Entry}
use Rattle.fjall_tree.specs.Puts.{bare_tree, put_all}
use Rattle.fjall_trees.specs.Forests.{AreBefore, Forest, IsForest}

-- the trees with one more behind all others, which holds nothing
abbrev pub with_tree : (id from : ℕ) → Forest → Forest
with_tree id from trees = trees ++ record { id = id; shape = bare_tree from } ∷ []

-- no tree has a table
abbrev pub AreBare : Forest → Type 0
AreBare trees = All (λ k. k.shape.tables ≡ []) trees

-- the version that an item of a batch of that number makes
abbrev pub version_of_item : ℕ → BatchItem → Entry
version_of_item number item = record { key = item.1; number = number; value = value_in item.2 }

-- the versions that the items make of a keyspace
abbrev pub versions_of_items : ℕ → ℕ → List BatchItem → List Entry
versions_of_items id number items = map (version_of_item number) (filter (λ item. item.0 == id) items)

-- the trees with the versions that the items of a batch of that number make
unfoldable pub pushed : ℕ → List BatchItem → Forest → Forest
pushed number items trees = map (λ k. record { id = k.id; shape = put_all (versions_of_items k.id number items) k.shape }) trees

-- The items are ones that a batch may have, and all that is in memory was changed under lesser numbers than this one.
pub record MayPush (number : ℕ) (items : List BatchItem) (trees : Forest) : Type 0 where
  pub forest : IsForest trees
  pub before : AreBefore number trees
  pub small : number < 2 ^ 63
  pub fits : items_refusal items ≡ None
