-- The versions that batches make of keyspaces, and what they say.
use Rattle.std.specs.Prelude.{ℕ, ◌==◌, not, if◌then◌else◌, List, [], ◌∷◌, ◌++◌, map, filter, Option}
use Rattle.std.specs.List.{list_any}
use Rattle.fjall_base.specs.Pairs.{Bytes, Pairs, altered}
use Rattle.fjall_base.specs.Store.{Store, Command, Write, fold}
use Rattle.fjall_journal.specs.declared.batch.ReadBatchItem.{ReadBatchItem}
use Rattle.fjall_journal.specs.Batches.{Shown}
use Rattle.fjall_journal.specs.Ops.{BatchItem, value_in}
use Rattle.fjall_meta.specs.Keyspaces.{Keyspaces}
use Rattle.fjall_meta.specs.Replays.{bare, counts, emptied, value_of}

-- What the change of a number made of a keyspace's key: its value, or none where it was removed.
pub record Version : Type 0 where
  pub keyspace_id : ℕ
  pub seqno : ℕ
  pub key : Bytes
  pub value : Option Bytes

-- ---- what versions say

-- a version as the write that made it
abbrev pub command_of : Version → Command
command_of version = Write (record { id = version.keyspace_id; key = version.key; value = version.value } ∷ [])

-- the store that these versions make of these keyspaces
abbrev pub store_of : Keyspaces → List Version → Store
store_of s versions = fold (bare s) (map command_of versions)

-- what these versions make of a keyspace's map, the last of a key being the newest
abbrev pub pairs_after : Pairs → ℕ → List Version → Pairs
pairs_after pairs id [] = pairs
pairs_after pairs id (version ∷ versions) = pairs_after (if id == version.keyspace_id then altered pairs version.key version.value else pairs) id versions

-- ---- what batches make

-- the version that an item of a batch of that number makes
abbrev pub version_of : ℕ → ReadBatchItem → Version
version_of number item = record { keyspace_id = item.keyspace_id; seqno = number; key = item.key; value = value_of item.value_type item.value }

-- the version that an item of a batch of that number makes
abbrev pub version_made : ℕ → BatchItem → Version
version_made number item = record { keyspace_id = item.0; seqno = number; key = item.1; value = value_in item.2 }

-- the versions that the items make, of the keyspaces for which they count
abbrev pub versions_in : Keyspaces → ℕ → List ReadBatchItem → List Version
versions_in s number items = filter (λ version. counts s number version.keyspace_id) (map (version_of number) items)

-- the versions that a batch's clears leave
abbrev pub cleared : Keyspaces → Shown → List Version → List Version
cleared s batch versions = filter (λ version. not (list_any (λ id. id == version.keyspace_id) (emptied s batch))) versions

-- the versions after a batch
abbrev pub versions_after : Keyspaces → List Version → Shown → List Version
versions_after s versions batch = cleared s batch versions ++ versions_in s batch.number batch.items

-- and after all of these
abbrev pub versions_behind : Keyspaces → List Version → List Shown → List Version
versions_behind s versions [] = versions
versions_behind s versions (batch ∷ batches) = versions_behind s (versions_after s versions batch) batches
