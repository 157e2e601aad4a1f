-- A core over which the index of a main keyspace is kept, and how its calls go on.
use Rattle.std.specs.Prelude.{◌≡◌, ◌≢◌, ◌≤◌, ◌++◌, ℕ, true, List, [], Option, Result, Ok, Err}
use Rattle.fjall_base.specs.Disk.{Image, LeavesOnly}
use Rattle.fjall_base.specs.Pairs.{Bytes, lookup}
use Rattle.fjall_base.specs.Store.{Item, Store, map_at, written}
use Rattle.fjall_recovery.specs.Folders.{ImageStandsFor}
use Rattle.fjall_history.specs.Histories.{Accepted, view}
use Rattle.fjall_history.specs.Moves.{MovesOn}
use Rattle.fjall_history.specs.Serial.{ChangesByTransactions}
use Rattle.fjall_machine.specs.Machine.{State, is_living, present, times}
use Rattle.fjall_core.specs.Durables.{Durable}
use Rattle.fjall_core.specs.Holding.{Held}
use Rattle.fjall_core.specs.CoreStanding.{ReadsOn, StandsOn}
use Rattle.fjall_core.specs.Standing.{StandFor, CoreState}
use Rattle.fjall_core.specs.Transactions.{Kept}
use Rattle.fjall_index_entries.specs.Index.{FieldOf}
use Rattle.fjall_index_entries.specs.Keeping.{IsIndexed, IsIndexedAmid}
use Rattle.fjall_index_entries.specs.Putting.{put_items}

-- The core may be in that state, on that base with what is pending, and the index of a main keyspace is kept there. The two keyspaces
-- are two, both live, and change through optimistic transactions alone. Each view at or above an instant shows the index, that of the present too; and
-- so does whatever a crash leaves.
pub record StandsIndexed (field : FieldOf) (main index since : ℕ) (core : Held) (kept : Kept) (t : CoreState) (d : Durable) : Type 0 where
  pub stands : StandFor core kept t
  pub reads : ReadsOn core t.state
  pub on : StandsOn core t.state.parts.entries d
  pub apart : index ≢ main
  pub main_lives : is_living (present t.state) main ≡ true
  pub index_lives : is_living (present t.state) index ≡ true
  pub main_alone : ChangesByTransactions t.state.history.opened t.accepted main
  pub index_alone : ChangesByTransactions t.state.history.opened t.accepted index
  pub views : (instant : ℕ) → since ≤ instant → IsIndexed field main index (view t.state.history instant).maps
  pub amid : IsIndexedAmid field main index d.base d.pending

-- an image that stands for a store which is indexed
abbrev pub IsIndexedImage : FieldOf → ℕ → ℕ → Image → Type 0
IsIndexedImage field main index image = (store : Store) × ImageStandsFor image store × IsIndexed field main index store.maps

-- From the first state, base and pending a call that writes these items has gone on to the others, over which the index is kept too. What was accepted
-- begins with what was accepted before; the present has the items behind what it had; and a crash at any moment of the call leaves an image that is indexed.
pub record GoesOnIndexed (field : FieldOf) (main index since : ℕ) (items : List Item) (t : CoreState) (d : Durable) (after : CoreState) (on : Durable) (core : Held) (kept : Kept) : Type 0 where
  pub keeps : StandsIndexed field main index since core kept after on
  pub moves : MovesOn (times t.state) (times after.state)
  pub more : List Accepted
  pub grown : after.accepted ≡ t.accepted ++ more
  pub wrote : (id : ℕ) → map_at (present after.state).maps id ≡ map_at (written (present t.state).maps items) id
  pub any_moment : LeavesOnly d.meaning on.meaning (IsIndexedImage field main index)

-- So a call goes on from whichever state, base and pending over which the index was kept; what it writes may rest on the state.
abbrev pub KeepsIndexed : FieldOf → ℕ → ℕ → (State → List Item) → Held → Kept → Held → Kept → Type 0
KeepsIndexed field main index items old before new after =
    (since : ℕ) (t : CoreState) (d : Durable) → StandsIndexed field main index since old before t d
    → (next : CoreState) × (e : Durable) × GoesOnIndexed field main index since (items t.state) t d next e new after

-- a call that writes nothing
abbrev pub nothing : State → List Item
nothing s = []

-- what a key's new value, or none, writes to both keyspaces, where the present has its old one
abbrev pub putting : FieldOf → ℕ → ℕ → Bytes → Option Bytes → State → List Item
putting field main index key new s = put_items field main index key (lookup (map_at (present s).maps main) key) new

-- that, where it is done, and nothing where it is refused
abbrev pub where_done : {T E : Type 0} → Result T E → (State → List Item) → State → List Item
where_done (Ok done) items = items
where_done (Err error) items = nothing

-- From the first state, base and pending a call has gone on to the others, over which the index is kept too; and a crash at any moment of the call leaves an
-- image that is indexed.
pub record StaysIndexed (field : FieldOf) (main index since : ℕ) (t : CoreState) (d : Durable) (after : CoreState) (on : Durable) (core : Held) (kept : Kept) : Type 0 where
  pub keeps : StandsIndexed field main index since core kept after on
  pub moves : MovesOn (times t.state) (times after.state)
  pub any_moment : LeavesOnly d.meaning on.meaning (IsIndexedImage field main index)
