-- A flush that is planned: all that is to be written of it, and for which trees.
use Rattle.std.specs.Prelude.{◌≡◌, ◌≢◌, ℕ, ◌+◌, ◌-◌, ◌<◌, ◌^◌, false, List, [], ◌∷◌, map, String, string_bytes, Option, Some, None}
use Rattle.std.specs.declared.alloc.Global.{Global}
use Rattle.fjall_base.specs.declared.error.Error.{Error}
use Rattle.fjall_base.specs.Disk.{DiskState, IsFile, Meaning, Name, state_in}
use Rattle.fjall_table_reader.specs.Readers.{AreRead, Reader}
use Rattle.fjall_files.specs.Names.{IsNameOf, current_name, keyspace_folder, table_name}
use Rattle.fjall_files.specs.Regions.{is_under}
use Rattle.fjall_table.specs.Blocks.{Entry}
use Rattle.fjall_table_reader.specs.Files.{bytes_in, entry_at}
use Rattle.fjall_jobs.specs.declared.flush_made.FlushMade.{FlushMade}
use Rattle.fjall_jobs.specs.declared.made_table.MadeTable.{MadeTable}
use Rattle.fjall_jobs.specs.Sequences.{AreMadeTables}
use Rattle.fjall_manifest.specs.Records.{Fields, Fits, record_text, view}
use Rattle.fjall_manifest.specs.Homes.{AreSafe, Home, Rests}
use Rattle.fjall_recovery.specs.Halves.{Tree}
use Rattle.fjall_recovery.specs.Places.{LiesInTree}
use Rattle.fjall_compaction.specs.declared.flush.plan.FlushPlan.{FlushPlan}
use Rattle.fjall_compaction.specs.Flushes.{Flush, Follows, HasAt, flush_of, flush_with, flushed_infos, record_after_flush, tree_after}
use Rattle.fjall_compaction.specs.Room.{IsRecordRefusal}

-- where a table was made, its file has the name of this id's, which isn't the greatest; where none was made, there is no name
abbrev pub IsNamed : (id next : ℕ) → List MadeTable → Option (String Global) → Type 0
IsNamed id next [] None = Unit {0}
IsNamed id next (t ∷ []) (Some name) = (next < 2 ^ 64 - 1) × (string_bytes name ≡ table_name id next)
IsNamed id next tables name = ⊥

-- What is planned of a flush of the keyspace of this id with that last record: the record after it with its text, and the names of
-- the keyspace's folder, of the file of its records, and of the new table's file.
pub record IsFlushPlan (id : ℕ) (last : Fields) (f : Flush) (plan : FlushPlan) : Type 0 where
  pub record_is : view plan.record ≡ record_after_flush f last
  pub folder : IsNameOf keyspace_folder (string_bytes plan.folder) id
  pub current : IsNameOf current_name (string_bytes plan.current) id
  pub table : IsNamed id last.next_table_id f.tables plan.table
  pub text : plan.record_text.items ≡ record_text (record_after_flush f last)
  pub fits : Fits (record_after_flush f last)

-- Why a flush can't be planned: the record after it is refused, as for its room, for ids, and for memory, in this order.
abbrev pub IsFlushPlanRefusal : Fields → Flush → Error → Type 0
IsFlushPlanRefusal last f error = IsRecordRefusal (record_after_flush f last) error

-- The home rests as before, and beside it the tables of the next one are safe.
pub record IsPut (state : DiskState) (id : ℕ) (records : List Fields) (h next : Home) : Type 0 where
  pub rests : Rests state id records h
  pub tables : AreSafe state id next.last.tables next.texts

-- ---- what stands in sight

-- On this disk the files of tables that were made have their bytes, under ids that follow one another from this one on.
abbrev pub HaveFiles : Meaning → (id next : ℕ) → List MadeTable → Type 0
HaveFiles disk id next [] = Unit {0}
HaveFiles disk id next (t ∷ tables) =
    IsFile (entry_at disk (table_name id next)) × (bytes_in (entry_at disk (table_name id next)) ≡ t.bytes.items) × HaveFiles disk id (next + 1) tables

-- Readers of tables that were made of the keyspace of this id: of the files that are to have them, under ids that follow one another
-- from this one on. On a disk that has these files they read what the tables hold.
pub record AreReadersOf (id next : ℕ) (tables : List MadeTable) (readers : List Reader) : Type 0 where
  pub names : map (λ t. t.name) readers ≡ map (λ t. table_name id t.id) (flushed_infos next tables)
  pub infos : map (λ t. t.info) readers ≡ flushed_infos next tables
  pub read : (disk : Meaning) (lists : List (List Entry)) → AreMadeTables tables lists → HaveFiles disk id next tables → AreRead disk readers lists

-- Nothing in sight changed, but of the keyspace of this id the file of records and the file of the table of this number.
abbrev pub KeepsBeside : (id next : ℕ) → Meaning → Meaning → Type 0
KeepsBeside id next old new = (q : Name) → is_under (current_name id) q ≡ false → is_under (table_name id next) q ≡ false → (state_in new q).now ≡ (state_in old q).now

-- Each table of the keyspace of this id stands in sight as it did, but the one of this number.
abbrev pub KeepsTables : (id next : ℕ) → Meaning → Meaning → Type 0
KeepsTables id next old new = (n : ℕ) → n < 2 ^ 64 → n ≢ next → (state_in new (table_name id n)).now ≡ (state_in old (table_name id n)).now

-- ---- of whatever a flush was planned

-- for the keyspace of which a plan is, whatever its last record is
abbrev pub ForPlan : FlushPlan → FlushMade → (ℕ → Type 0) → Type 0
ForPlan plan made Holds = (id number : ℕ) (last : Fields) → IsFlushPlan id last (flush_of number made) plan → Holds id

-- the same, of whatever tables were planned with whichever clears
abbrev pub ForPlanOf : FlushPlan → List MadeTable → (ℕ → Type 0) → Type 0
ForPlanOf plan tables Holds = (id number : ℕ) (clears : List ℕ) (last : Fields) → IsFlushPlan id last (flush_with number tables clears) plan → Holds id

-- for the keyspace of which a plan is, and the number of the table that is made next, whatever its last record is
abbrev pub ForPlanned : FlushPlan → FlushMade → ((id next : ℕ) → Type 0) → Type 0
ForPlanned plan made Holds = (id number : ℕ) (last : Fields) → IsFlushPlan id last (flush_of number made) plan → Holds id last.next_table_id

-- the same, of whatever tables were planned with whichever clears
abbrev pub ForPlannedOf : FlushPlan → List MadeTable → ((id next : ℕ) → Type 0) → Type 0
ForPlannedOf plan tables Holds = (id number : ℕ) (clears : List ℕ) (last : Fields) → IsFlushPlan id last (flush_with number tables clears) plan → Holds id last.next_table_id

-- for whichever tree lies on the disk, and the tree with these tables behind those of one of its keyspaces
abbrev pub ForTablesOn : Meaning → FlushPlan → List MadeTable → (List Fields → Tree → ℕ → Home → Tree → Type 0) → Type 0
ForTablesOn disk plan tables Holds = (records : List Fields) (t : Tree) (id number : ℕ) (clears : List ℕ) (h : Home) (versions : List Entry) (lists : List (List Entry))
    → LiesInTree (state_in disk) records t → HasAt t id h versions → IsFlushPlan id h.last (flush_with number tables clears) plan
    → Follows (flush_with number tables clears) lists h.last → Holds records t id h (tree_after id (flush_with number tables clears) lists h versions t)

-- for whichever tree lies on the disk, and the tree after a flush of one of its keyspaces
abbrev pub ForFlushOn : Meaning → FlushPlan → FlushMade → (List Fields → Tree → ℕ → Home → Tree → Type 0) → Type 0
ForFlushOn disk plan made Holds = (records : List Fields) (t : Tree) (id number : ℕ) (h : Home) (versions : List Entry) (lists : List (List Entry)) → LiesInTree (state_in disk) records t
    → HasAt t id h versions → IsFlushPlan id h.last (flush_of number made) plan → Follows (flush_of number made) lists h.last
    → Holds records t id h (tree_after id (flush_of number made) lists h versions t)
