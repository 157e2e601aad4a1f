-- What keeps an index as the main keyspace changes.
use Rattle.std.specs.Prelude.{◌≡◌, ◌++◌, All, ℕ, List, Option}
use Rattle.std.specs.FinMap.{FinMap}
use Rattle.std.specs.Ordering.{nat_cmp}
use Rattle.fjall_base.specs.Pairs.{Bytes, Pairs, lookup}
use Rattle.fjall_base.specs.Store.{Command, Item, Store, fold, kept, map_at, written}
use Rattle.fjall_tx.specs.Marks.{IsCovered, Mark}
use Rattle.fjall_index_entries.specs.Index.{FieldOf, index_of}

-- The index keyspace's map is the index of the main keyspace's.
abbrev pub IsIndexed : FieldOf → ℕ → ℕ → FinMap nat_cmp Pairs → Type 0
IsIndexed field main index maps = map_at maps index ≡ index_of field (map_at maps main)

-- each key of the main keyspace that is written has in this map what was seen
abbrev pub AreSeen : List Item → ℕ → (Bytes → Option Bytes) → Pairs → Type 0
AreSeen items main seen map = All (λ one. one.id ≡ main → lookup map one.key ≡ seen one.key) items

-- Items that keep the index, over all maps in which the main keyspace's keys that they write have what was seen.
abbrev pub KeepsIndex : FieldOf → ℕ → ℕ → List Item → (Bytes → Option Bytes) → Type 0
KeepsIndex field main index items seen =
    (maps : FinMap nat_cmp Pairs) → AreSeen items main seen (map_at maps main) → IsIndexed field main index maps → IsIndexed field main index (written maps items)

-- each key of the main keyspace that is written was marked as read
abbrev pub AreRead : List Item → ℕ → List Mark → Type 0
AreRead items main reads = All (λ one. one.id ≡ main → IsCovered reads main one.key) items

-- Whatever beginning of the pending commands a crash leaves behind the base, what is kept then is indexed.
abbrev pub IsIndexedAmid : FieldOf → ℕ → ℕ → Store → List Command → Type 0
IsIndexedAmid field main index base pending = (front rest : List Command) → front ++ rest ≡ pending → IsIndexed field main index (kept (fold base front)).maps
