-- What loading many pairs makes of a map, and what a transaction keeps of them.
use Rattle.std.specs.Prelude.{◌≡◌, ◌≢◌, ◌++◌, ◌∷◌, ℕ, List, [], OnOk, Option, Result, Some, map}
use Rattle.std.specs.FinMap.{FinMap}
use Rattle.std.specs.List.{AllByRecursion}
use Rattle.std.specs.List.Sorted.{IsStrictlySortedBy}
use Rattle.std.specs.Ordering.{nat_cmp}
use Rattle.fjall_base.specs.Pairs.{Bytes, Pairs, altered, byte_order}
use Rattle.fjall_base.specs.Store.{map_at, written}
use Rattle.fjall_journal.specs.Ops.{item_in}
use Rattle.fjall_core.specs.Durables.{Durable}
use Rattle.fjall_core.specs.Holding.{Held}
use Rattle.fjall_core.specs.Standing.{CoreState}
use Rattle.fjall_core.specs.Transactions.{Kept}
use Rattle.fjall_index_entries.specs.Index.{FieldOf}
use Rattle.fjall_index_entries.specs.declared.error.IndexError.{IndexError}
use Rattle.fjall_index.specs.declared.indexed_tx.IndexedTx.{IndexedTx}
use Rattle.fjall_index.specs.Changes.{Change, IsIndexedTx, items_in}
use Rattle.fjall_index.specs.Standing.{GoesOnIndexed, StandsIndexed}

-- the map with each of these pairs put, one behind another
abbrev pub loaded : List (Bytes × Bytes) → Pairs → Pairs
loaded [] pairs = pairs
loaded (pair ∷ rest) pairs = loaded rest (altered pairs pair.0 (Some pair.1))

-- What a change writes gives its key a value, or none, in the main keyspace, whose other keys stay as they are, and so do all keyspaces but that and the index.
pub record IsOfItsKey (main index : ℕ) (change : Change) : Type 0 where
  pub value : Option Bytes
  pub alters : (maps : FinMap nat_cmp Pairs) → map_at (written maps (map item_in change.1.items)) main ≡ altered (map_at maps main) change.0 value
  pub spares : (maps : FinMap nat_cmp Pairs) (id : ℕ) → id ≢ main → id ≢ index → map_at (written maps (map item_in change.1.items)) id ≡ map_at maps id

-- Changes in the order of their keys, which make of the main keyspace's map, whatever it is, what these pairs make of it, put one behind another.
pub record AreLoads (main index : ℕ) (changes : List Change) (pairs : List (Bytes × Bytes)) : Type 0 where
  pub each : AllByRecursion (IsOfItsKey main index) changes
  pub sorted : IsStrictlySortedBy byte_order (map (λ change. change.0) changes)
  pub makes : (maps : FinMap nat_cmp Pairs) → map_at (written maps (items_in changes)) main ≡ loaded pairs (map_at maps main)

-- Keys are to get values within a transaction, one pair behind another: the core stays in whichever state the index was kept, the transaction stays one of the
-- index, and where it is done, what it keeps makes what these pairs make behind those of which it made that before.
abbrev pub KeepsPairs : FieldOf → ℕ → ℕ → List (Bytes × Bytes) → IndexedTx → Result Unit IndexError → IndexedTx → Held → Kept → Held → Kept → Type 0
KeepsPairs field main index pairs tx done next old before new after =
    (since : ℕ) (t : CoreState) (d : Durable) → StandsIndexed field main index since old before t d
    → (e : Durable) × GoesOnIndexed field main index since [] t d t e new after × (IsIndexedTx field main index t tx → IsIndexedTx field main index t next)
    × OnOk done ((earlier : List (Bytes × Bytes)) → AreLoads main index tx.changes.entries earlier → AreLoads main index next.changes.entries (earlier ++ pairs))
