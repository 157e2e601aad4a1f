-- What an ingestion makes of a home is right, and it is written as a flush without clears.
use Rattle.std.proofs.Common.{◌≡◌, ℕ, ◌<◌, ◌≤◌, ◌^◌, true, false, List, [], ◌∷◌, ◌++◌, All, None, Some, sym, subst, ◌∙◌, arith}
use Rattle.std.specs.FinMap.{insert}
use Rattle.std.specs.List.Sorted.{IsStrictlyIncreasing}
use Rattle.std.proofs.lemmas.List.{append-nil}
use Rattle.std.proofs.lemmas.List.Elements.{All-append, All-map, All-nil, All-weaker}
use Rattle.fjall_base.specs.Disk.{DiskState, Meaning, state_in}
use Rattle.fjall_meta.specs.Contents.{is_beyond}
use Rattle.fjall_compaction.specs.Flushes.{Follows, HasAt, raised, record_after_flush}
use Rattle.fjall_compaction.specs.FlushPlans.{ForTablesOn}
use Rattle.fjall_compaction.proofs.FlushAfterHomes as AfterHomes
use Rattle.fjall_compaction.proofs.FlushAfterRecords as AfterRecords
use Rattle.fjall_compaction.proofs.Composed.{is_home}
use Rattle.fjall_compaction.proofs.Once.{ordered_once}
use Rattle.fjall_manifest.specs.Homes.{Home}
use Rattle.fjall_manifest.proofs.Resting.{last_record}
use Rattle.fjall_jobs.specs.declared.made_table.MadeTable.{MadeTable}
use Rattle.fjall_jobs.specs.Sequences.{AreMadeTables, AreParted}
use Rattle.fjall_recovery.specs.Halves.{Tree, with_home_at}
use Rattle.fjall_recovery.specs.Homes.{ClearsAreWithin, HasVersions, HaveVersions}
use Rattle.fjall_recovery.specs.Places.{LiesInTree}
use Rattle.fjall_memtable.specs.Sorted.{flat}
use Rattle.fjall_table.specs.Blocks.{Entry}
use Rattle.fjall_table.specs.Tables.{entries_of}
use Rattle.fjall_manifest.specs.Records.{Fields, Fits, IsRecord}
use Rattle.fjall_memtable.specs.Jobs.{OnceEach}
use Rattle.fjall_memtable.proofs.Tests.{all_of}
use Rattle.fjall_reading.specs.Ingestions.{KeyOp}
use Rattle.fjall_compaction.specs.declared.ingestion.plan.IngestPlan.{IngestPlan}
use Rattle.fjall_compaction.specs.Ingests.{as_flush, home_with, tree_with, version_of, versions_made}
use Rattle.fjall_compaction.specs.IngestionPlans.{AreIngestionTables, ForIngestOn}

-- its versions have its number
numbered : (P : ℕ → Type 0) (number : ℕ) (items : List KeyOp) → P number → All (λ v. P v.number) (versions_made number items)
numbered P number items is = All-map (λ (v : Entry). P v.number) (version_of number) items (all_of (λ (item : KeyOp). P number) items (λ item. is))

-- in the one table that is made each of them stands once
pub once_made : (tables : List MadeTable) (lists : List (List Entry)) → AreMadeTables tables lists → AreParted None lists → OnceEach (flat lists)
once_made tables [] made parted = tt
once_made [] (l ∷ lists) made parted = absurd made
once_made (t ∷ tables) (l ∷ []) made parted =
    let table = made.0.table in
    subst OnceEach (sym (append-nil l ∙ table.all)) (ordered_once (entries_of table.blocks) table.are.ordered)
once_made (t ∷ tables) (l ∷ k ∷ lists) made parted = absurd parted

-- no clear comes
ascend : (last : Fields) → IsRecord last → IsStrictlyIncreasing (last.clears ++ [])
ascend last is = subst IsStrictlyIncreasing (sym (append-nil last.clears)) is.consistent.ascending

-- as a flush, it follows the record
pub follows : (number : ℕ) (items : List KeyOp) (tables : List MadeTable) (last : Fields) → number < 2 ^ 63 → is_beyond last.persisted number ≡ true → (are : AreIngestionTables number items tables) → IsRecord last
    → Follows (as_flush number tables) are.0 last
follows number items tables last small beyond are is = record {
  small = small;
  made = are.1;
  versions = subst (All (λ (v : Entry). v.number ≤ number)) (sym are.3) (numbered (λ n. n ≤ number) number items (omega arith));
  beyond = subst (All (λ (v : Entry). is_beyond last.persisted v.number ≡ true)) (sym are.3) (numbered (λ n. is_beyond last.persisted n ≡ true) number items beyond);
  once = once_made tables are.0 are.1 are.2;
  clears = All-nil (λ n. n ≤ number);
  ascend = ascend last is;
}

pub is_record : (number : ℕ) (items : List KeyOp) (tables : List MadeTable) (last : Fields) → number < 2 ^ 63 → AreIngestionTables number items tables → Fits (record_after_flush (as_flush number tables) last)
    → IsRecord last → IsRecord (record_after_flush (as_flush number tables) last)
is_record number items tables last small are fits is = AfterRecords.record_with (as_flush number tables) last small (All-nil (λ n. n ≤ number)) (ascend last is) fits is

pub clears_within : (number : ℕ) (tables : List MadeTable) (last : Fields) → ClearsAreWithin last → ClearsAreWithin (record_after_flush (as_flush number tables) last)
clears_within number tables last within =
    let P = λ (n : ℕ). is_beyond (Some (raised last.persisted number)) n ≡ false in
    All-append P last.clears [] (All-weaker (λ n. is_beyond last.persisted n ≡ false) P (λ n is. AfterRecords.still_within last.persisted number n is) last.clears within) (All-nil P)

pub has_versions : (number : ℕ) (items : List KeyOp) (tables : List MadeTable) (h : Home) (versions : List Entry) → number < 2 ^ 63 → is_beyond h.last.persisted number ≡ true
    → AreIngestionTables number items tables → IsRecord h.last → HasVersions h versions → HasVersions (home_with number tables h) (versions ++ versions_made number items)
has_versions number items tables h versions small beyond are is has =
    subst (λ (l : List Entry). HasVersions (home_with number tables h) (versions ++ l)) are.3
    (AfterHomes.has_versions (as_flush number tables) are.0 h versions (follows number items tables h.last small beyond are is) has)

pub have_versions : (t : Tree) (id number : ℕ) (items : List KeyOp) (tables : List MadeTable) (h : Home) (versions : List Entry) → HasAt t id h versions → number < 2 ^ 63
    → is_beyond h.last.persisted number ≡ true → AreIngestionTables number items tables → IsRecord h.last → HaveVersions t.homes t.versions
    → HaveVersions (tree_with id number items tables h versions t).homes (tree_with id number items tables h versions t).versions
have_versions t id number items tables h versions at small beyond are is have =
    subst (λ (l : List Entry). HaveVersions (insert t.homes id (home_with number tables h)) (insert t.versions id (versions ++ l))) are.3
    (AfterHomes.have_versions t id (as_flush number tables) are.0 h versions at (follows number items tables h.last small beyond are is) have)

-- ---- as it is written

-- the last record of a keyspace's home is one
record_at : (state : DiskState) (records : List Fields) (t : Tree) (id : ℕ) (h : Home) (versions : List Entry) → LiesInTree state records t → HasAt t id h versions → IsRecord h.last
record_at state records t id h versions lies at = let home = is_home state records t id h versions lies at in last_record state id home.safe.records h home.safe.rests

-- what holds of whatever tables are written holds of an ingestion
pub on_ingest : (disk : Meaning) (plan : IngestPlan) (tables : List MadeTable) (read : tables ≡ plan.tables.items) (Holds : List Fields → Tree → ℕ → Home → Tree → Type 0)
    → ForTablesOn disk plan.writes tables Holds → ForIngestOn disk plan Holds
on_ingest disk plan tables read Holds written records t id number items h versions lies at small beyond is =
    let last = record_at (state_in disk) records t id h versions lies at in
    let all : ForTablesOn disk plan.writes plan.tables.items Holds = subst (λ (l : List MadeTable). ForTablesOn disk plan.writes l Holds) read written in
    subst (λ (l : List Entry). Holds records t id h (with_home_at id (home_with number plan.tables.items h) (versions ++ l) t)) is.tables.3
    (all records t id number [] h versions is.tables.0 lies at is.planned (follows number items plan.tables.items h.last small beyond is.tables last))
