-- How a change within an open transaction of an index goes.
use Rattle.std.specs.Prelude.{ℕ, [], OnOk, Option, Result}
use Rattle.fjall_base.specs.Pairs.{Bytes, lookup}
use Rattle.fjall_base.specs.Store.{map_at}
use Rattle.fjall_history.specs.declared.ticket.View.TheVariants.{At}
use Rattle.fjall_machine.specs.Machine.{maps_in}
use Rattle.fjall_core.specs.Durables.{Durable}
use Rattle.fjall_core.specs.Holding.{Held}
use Rattle.fjall_core.specs.Standing.{CoreState}
use Rattle.fjall_core.specs.Transactions.{Kept}
use Rattle.fjall_index_entries.specs.Index.{FieldOf}
use Rattle.fjall_index_entries.specs.Putting.{put_items}
use Rattle.fjall_index_entries.specs.declared.error.IndexError.{IndexError}
use Rattle.fjall_index.specs.declared.indexed_tx.IndexedTx.{IndexedTx}
use Rattle.fjall_index.specs.Changes.{HasKept, IsIndexedTx}
use Rattle.fjall_index.specs.Standing.{GoesOnIndexed, StandsIndexed}

-- A key is to get a value, or none, within a transaction: the core stays in whichever state the index was kept, the transaction stays one of the index, and
-- where it is done it keeps what the new value writes, where the key has had the one of the transaction's view.
abbrev pub KeepsChange : FieldOf → ℕ → ℕ → Bytes → Option Bytes → IndexedTx → Result Unit IndexError → IndexedTx → Held → Kept → Held → Kept → Type 0
KeepsChange field main index key value tx done next old before new after =
    (since : ℕ) (t : CoreState) (d : Durable) → StandsIndexed field main index since old before t d
    → (e : Durable) × GoesOnIndexed field main index since [] t d t e new after × (IsIndexedTx field main index t tx → IsIndexedTx field main index t next)
    × OnOk done (HasKept tx main key (put_items field main index key (lookup (map_at (maps_in t.state (At tx.transaction.ticket)) main) key) value) next)
