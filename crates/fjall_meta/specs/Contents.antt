-- What a keyspace's files and the batches of journals hold of it, and the store that all of them stand for.
--
-- What is numbered at most a keyspace's persisted number lies in its tables and in its last record. Of the batches those
-- beyond that number count.
use Rattle.std.specs.Prelude.{◌≡◌, ℕ, ◌^◌, Bool, true, false, ◌&&◌, nat_lt, List, [], ◌++◌, map, filter, All, Option, Some, None}
use Rattle.std.specs.List.{flat_map}
use Rattle.fjall_base.specs.Pairs.{Pairs}
use Rattle.fjall_base.specs.Store.{Store, Command, Clear}
use Rattle.fjall_journal.specs.Batches.{Shown}
use Rattle.fjall_meta.specs.Keyspaces.{Keyspaces}
use Rattle.fjall_table.specs.Blocks.{Entry}
use Rattle.fjall_meta.specs.Replays.{bare, by_id, counts, item_of, writing}
use Rattle.fjall_meta.specs.Views.{clears_of, versions_of}
use Rattle.fjall_memtable.specs.Views.{view_of}

-- ---- one keyspace's files

-- What a keyspace's files hold of it: the versions of its tables and the clears of its last record, and the number up to
-- which the journals tell nothing more.
pub record Stored : Type 0 where
  pub persisted : Option ℕ
  pub versions : List Entry
  pub clears : List ℕ

-- nothing
abbrev pub nothing_stored : Stored
nothing_stored = record { persisted = None; versions = []; clears = [] }

-- whether a number is beyond the persisted one; where there is none, each is
abbrev pub is_beyond : Option ℕ → ℕ → Bool
is_beyond None number = true
is_beyond (Some persisted) number = nat_lt persisted number

-- No version and no clear that is stored is beyond the persisted number. So nothing is stored where there is none.
abbrev pub IsWithin : Stored → Type 0
IsWithin h = All (λ v. is_beyond h.persisted v.number ≡ false) h.versions × All (λ n. is_beyond h.persisted n ≡ false) h.clears

-- ---- one keyspace

-- the versions of an id: those that are stored, and those that batches make beyond the persisted number
abbrev pub versions_held : Keyspaces → Stored → ℕ → List Shown → List Entry
versions_held s h id batches = h.versions ++ filter (λ v. is_beyond h.persisted v.number) (versions_of s id batches)

-- and its clears
abbrev pub clears_held : Keyspaces → Stored → ℕ → List Shown → List ℕ
clears_held s h id batches = h.clears ++ filter (is_beyond h.persisted) (clears_of s id batches)

-- the map of an id: the view above all numbers of what is held of it
abbrev pub map_held : Keyspaces → Stored → ℕ → List Shown → Pairs
map_held s h id batches = view_of (2 ^ 63) (clears_held s h id batches) (versions_held s h id batches)

-- ---- all keyspaces

-- The store that keyspaces, files and batches stand for. `stored` tells of each id what its files hold.
abbrev pub store_held : Keyspaces → (ℕ → Stored) → List Shown → Store
store_held s stored batches = record {
  names = (bare s).names;
  maps = by_id (λ k. map_held s (stored k.id) k.id batches) s.living;
  options = (bare s).options;
  next = s.next;
}

-- what is stored of each living keyspace is within its persisted number
abbrev pub AreWithin : Keyspaces → (ℕ → Stored) → Type 0
AreWithin s stored = All (λ k. IsWithin (stored k.id)) s.living

-- whether what a batch of that number says of an id counts, and is beyond what is stored of it
abbrev pub counts_beyond : Keyspaces → (ℕ → Stored) → ℕ → ℕ → Bool
counts_beyond s stored number id = counts s number id && is_beyond (stored id).persisted number

-- what a batch commands of these keyspaces beyond what is stored: its clears, and then its items as one write
abbrev pub commands_beyond : Keyspaces → (ℕ → Stored) → Shown → List Command
commands_beyond s stored b =
    map Clear (filter (counts_beyond s stored b.number) b.clears)
    ++ writing (map item_of (filter (λ item. counts_beyond s stored b.number item.keyspace_id) b.items))

-- what batches command beyond what is stored
abbrev pub journal_beyond : Keyspaces → (ℕ → Stored) → List Shown → List Command
journal_beyond s stored batches = flat_map (commands_beyond s stored) batches
