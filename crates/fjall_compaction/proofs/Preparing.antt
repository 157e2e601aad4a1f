-- A whole ingestion as it is planned.
use Rattle.std.proofs.Common.{◌≡◌, ℕ, ◌+◌, ◌-◌, ◌<◌, ◌≤◌, ◌^◌, ◌==◌, ◌&&◌, not, nat_lt, Bool, true, false, cond, List, [], ◌∷◌, ◌++◌, length, length-append, map, min, Some, None, refl, sym, ap, subst, ◌∙◌, arith}
use Rattle.std.proofs.lemmas.Bool.{or_parts, true≢false}
use Rattle.std.proofs.lemmas.Bool.Decides.{nat_tests}
use Rattle.fjall_base.specs.declared.error.Error.{Error}
use Rattle.fjall_base.specs.declared.error.Error.TheVariants.{NumbersUsedUp, OutOfMemory, TooManyItems}
use Rattle.fjall_table_reader.specs.Readers.{Reader}
use Rattle.fjall_compaction.specs.declared.flush.plan.FlushPlan.{FlushPlan}
use Rattle.fjall_compaction.specs.Flushes.{Flush, flush_with, flushed_infos, record_after_flush}
use Rattle.fjall_compaction.specs.FlushPlans.{AreReadersOf, IsFlushPlan, IsNamed}
use Rattle.fjall_compaction.specs.Ingests.{as_flush}
use Rattle.fjall_compaction.specs.Room.{HasPlace, IsPlaceRefusal, IsRecordRefusal, body_len}
use Rattle.fjall_compaction.proofs.FlushAfterHomes.{infos_count}
use Rattle.fjall_compaction.proofs.NewTables.{few_made}
use Rattle.fjall_compaction.proofs.FlushReading.{readers_both}
use Rattle.fjall_compaction.proofs.Refusing.{as_counted}
use Rattle.fjall_compaction.proofs.Room.{flush_len, refused_by_count}
use Rattle.fjall_jobs.specs.declared.made_table.MadeTable.{MadeTable}
use Rattle.fjall_jobs.specs.Tasks.{IsFlushed, Task}
use Rattle.fjall_tree.specs.Ingestions.{has_memory, memory_task}
use Rattle.fjall_tree.specs.Trees.{Shape}
use Rattle.fjall_memtable.specs.Parts.{HeldPart, Memory, clears_in, holds_nothing, parts_of}
use Rattle.fjall_memtable.specs.Sorted.{flat}
use Rattle.fjall_table.specs.Blocks.{Entry}
use Rattle.fjall_manifest.specs.Records.{Fields, Fits, body, view}
use Rattle.fjall_memtable.specs.Jobs.{Same}
use Rattle.fjall_memtable.specs.Jobs as jobs
use Rattle.fjall_reading.specs.Ingestions.{KeyOp}
use Rattle.fjall_compaction.specs.declared.ingestion.plan.IngestPlan.{IngestPlan}
use Rattle.fjall_compaction.specs.IngestionPlans.{IsIngestPlan, IsIngestRefusal, OnceIngested}
use Rattle.fjall_compaction.specs.Planned.{IsIngestionRefusal, IsMemoryPlan}
use Rattle.fjall_compaction.specs.Whole.{last_flushed, last_ingested, memory_flush}

-- ---- memory of nothing

empty_of : {X : Type 0} (xs : List X) → length xs ≡ 0 → xs ≡ []
empty_of [] none = refl
empty_of (x ∷ xs) none = absurd (omega (arith, none))

both_true : (a b : Bool) → (a && b) ≡ true → (a ≡ true) × (b ≡ true)
both_true true b e = (refl, e)
both_true false b e = absurd (true≢false (sym e))

not_not : (b : Bool) → not b ≡ false → b ≡ true
not_not true e = refl
not_not false e = absurd (true≢false e)

none_under : {X : Type 0} (xs : List X) → (length xs == 0) ≡ true → length xs ≡ 0
none_under xs e = grind (arith, nat_tests)

none_over : {X : Type 0} (xs : List X) → nat_lt 0 (length xs) ≡ false → length xs ≡ 0
none_over xs e = grind (arith, nat_tests)

-- where nothing is in memory there is no version, and no clear
pub nothing_there : (memory : Memory) → has_memory memory ≡ false → (flat (map (λ h. h.versions) (parts_of memory)) ≡ []) × (clears_in (parts_of memory) ≡ [])
nothing_there memory none =
    let ors = or_parts (nat_lt 0 (length memory.sealed)) (not (holds_nothing memory.active)) none in
    let sealed = empty_of memory.sealed (none_over memory.sealed ors.0) in
    let active = both_true (length memory.active.versions == 0) (length memory.active.clears == 0) (not_not (holds_nothing memory.active) ors.1) in
    let versions = empty_of memory.active.versions (none_under memory.active.versions active.0) in
    let clears = empty_of memory.active.clears (none_under memory.active.clears active.1) in (
      (λ i. flat (map (λ (h : HeldPart). h.versions) (sealed i ++ memory.active ∷ []))) ∙ ap (λ (vs : List Entry). vs ++ []) versions,
      (λ i. clears_in (sealed i ++ memory.active ∷ [])) ∙ ap (λ (cs : List ℕ). cs ++ []) clears,
    )

-- so a flush of it makes nothing
pub nothing_flushed : (id watermark : ℕ) (memory : Memory) → has_memory memory ≡ false → IsFlushed (memory_task id watermark memory) [] (clears_in (parts_of memory))
nothing_flushed id watermark memory none = record {
  lists = [];
  made = tt;
  parted = tt;
  ordered = tt;
  kept = subst (λ (vs : List Entry). Same [] (jobs.flushed watermark (clears_in (parts_of memory)) vs)) (sym (nothing_there memory none).0) (λ test. refl);
  clears_are = refl;
}

-- ---- memory of something

-- one table is made at most
pub few_flushed : (task : Task) (tables : List MadeTable) (clears : List ℕ) → IsFlushed task tables clears → length tables ≤ 1
few_flushed task tables clears is = few_made tables is.lists is.made is.parted

-- and what is planned of it is the flush of memory
pub planned_flush : (id : ℕ) (tree : Shape) (last : Fields) (number : ℕ) (read made : List MadeTable) (clears_read clears : List ℕ) (plan : FlushPlan) → has_memory tree.memory ≡ true
    → number ≡ tree.memory.active.until - 1 → read ≡ made → clears_read ≡ clears → clears ≡ clears_in (parts_of tree.memory) → IsFlushPlan id last (flush_with number read clears_read) plan
    → IsMemoryPlan (has_memory tree.memory) id last (memory_flush tree made) (Some plan)
planned_flush id tree last number read made clears_read clears plan some at same same_clears are is =
    subst (λ (b : Bool). IsMemoryPlan b id last (memory_flush tree made) (Some plan)) (sym some)
    (subst (λ (f : Flush). IsFlushPlan id last f plan) (λ i. flush_with (at i) (same i) ((same_clears ∙ are) i)) is)

-- ---- the record once memory is flushed

-- the ids of tables go on behind those that were made
pub next_flushed : (tree : Shape) (flushes : List MadeTable) (last : Fields) → (has_memory tree.memory ≡ false → flushes ≡ [])
    → (last_flushed tree flushes last).next_table_id ≡ last.next_table_id + length flushes
next_flushed tree flushes last none = by (has_memory tree.memory) refl
  where
    by : (b : Bool) → has_memory tree.memory ≡ b → (cond b (record_after_flush (memory_flush tree flushes) last) last).next_table_id ≡ last.next_table_id + length flushes
    by true e = refl
    by false e = let nothing : length flushes ≡ 0 = ap (λ (l : List MadeTable). length l) (none e) in omega (arith, nothing)

-- what is planned of the flush, or that it is none
pub record_here : (flushes : Bool) (id : ℕ) (last : Fields) (f : Flush) (plan : FlushPlan) → IsMemoryPlan flushes id last f (Some plan) → view plan.record ≡ cond flushes (record_after_flush f last) last
record_here true id last f plan is = is.record_is
record_here false id last f plan is = absurd is

pub record_none : (flushes : Bool) (id : ℕ) (last : Fields) (f : Flush) → IsMemoryPlan flushes id last f None → last ≡ cond flushes (record_after_flush f last) last
record_none true id last f is = absurd is
record_none false id last f is = refl

pub named_here : (flushes : Bool) (id next : ℕ) (last : Fields) (f : Flush) (tables : List MadeTable) (plan : FlushPlan) → last.next_table_id ≡ next → f.tables ≡ tables
    → IsMemoryPlan flushes id last f (Some plan) → IsNamed id next tables plan.table
named_here true id next last f tables plan at same is =
    subst (λ (n : ℕ). IsNamed id n tables plan.table) at (subst (λ (ts : List MadeTable). IsNamed id last.next_table_id ts plan.table) same is.table)
named_here false id next last f tables plan at same is = absurd is

pub none_here : (flushes : Bool) (id : ℕ) (last : Fields) (f : Flush) (tables : List MadeTable) → (flushes ≡ false → tables ≡ []) → IsMemoryPlan flushes id last f None → tables ≡ []
none_here true id last f tables none is = absurd is
none_here false id last f tables none is = none refl

-- ---- both tables

-- the readers of both are the readers of all
pub all_read : (tree : Shape) (id : ℕ) (last : Fields) (flushes made : List MadeTable) (rs ss : List Reader) → (has_memory tree.memory ≡ false → flushes ≡ [])
    → AreReadersOf id last.next_table_id flushes rs → AreReadersOf id (last_flushed tree flushes last).next_table_id made ss → AreReadersOf id last.next_table_id (flushes ++ made) (rs ++ ss)
all_read tree id last flushes made rs ss none one two =
    readers_both id last.next_table_id flushes made rs ss one (subst (λ (k : ℕ). AreReadersOf id k made ss) (next_flushed tree flushes last none) two)

-- and all ids have their place
pub all_fit : (tree : Shape) (id n : ℕ) (items : List KeyOp) (last : Fields) (flushes : List MadeTable) (own : IngestPlan) → (has_memory tree.memory ≡ false → flushes ≡ [])
    → IsIngestPlan id n items (last_flushed tree flushes last) own → last.next_table_id + length (flushes ++ own.tables.items) < 2 ^ 64
all_fit tree id n items last flushes own none is =
    let room = is.planned.fits.room.next_table_id in
    let next = next_flushed tree flushes last none in
    let both = length-append flushes own.tables.items in
    omega (arith, room, next, both)

-- ---- why none is planned

-- the record behind the ingestion, where memory is flushed, by counting
module _ (tree : Shape) (n : ℕ) (flushes made : List MadeTable) (last : Fields) (some : has_memory tree.memory ≡ true) where
  pub whole_len : length (body (last_ingested n tree flushes made last)) ≡ body_len (length last.tables + (length flushes + length made)) (length last.clears + length (clears_in (parts_of tree.memory)))
  whole_len =
      let f = memory_flush tree flushes in
      let all = flush_len (as_flush n made) (record_after_flush f last) in
      let tables = length-append last.tables (flushed_infos last.next_table_id flushes) in
      let new = infos_count last.next_table_id flushes in
      let clears = length-append last.clears (clears_in (parts_of tree.memory)) in
      subst (λ (b : Bool). length (body (record_after_flush (as_flush n made) (cond b (record_after_flush f last) last)))
      ≡ body_len (length last.tables + (length flushes + length made)) (length last.clears + length (clears_in (parts_of tree.memory)))) (sym some)
      (omega (arith, all, tables, new, clears))

  pub whole_next : (last_ingested n tree flushes made last).next_table_id ≡ last.next_table_id + (length flushes + length made)
  whole_next = let next = next_flushed tree flushes last (λ none. absurd (true≢false (sym some ∙ none))) in omega (arith, next)

module _ (tree : Shape) (id watermark n : ℕ) (items : List KeyOp) (last : Fields) (flushes : List MadeTable)
    (flushed : IsFlushed (memory_task id watermark tree.memory) flushes (clears_in (parts_of tree.memory))) where
  so : has_memory tree.memory ≡ true → (len at : ℕ) → len ≡ body_len (length last.tables + (length flushes + min (length items) 1)) (length last.clears + length (clears_in (parts_of tree.memory)))
      → at ≡ last.next_table_id + (length flushes + min (length items) 1) → (made : List MadeTable) → length made ≡ min (length items) 1 → (error : Error) → IsPlaceRefusal len at error
      → IsRecordRefusal (last_ingested n tree flushes made last) error
  so some len at long next made counted error is =
      let l = whole_len tree n flushes made last some in
      let k = whole_next tree n flushes made last some in
      refused_by_count (last_ingested n tree flushes made last) len at (omega (arith, l, long, counted)) (omega (arith, k, next, counted)) error is

  -- once the flush of memory, which holds something, is made
  pub memory_refused : has_memory tree.memory ≡ true → (len at : ℕ) → len ≡ body_len (length last.tables + (length flushes + min (length items) 1)) (length last.clears + length (clears_in (parts_of tree.memory)))
      → at ≡ last.next_table_id + (length flushes + min (length items) 1) → (error : Error) → IsPlaceRefusal len at error → IsIngestionRefusal tree id watermark n items last error
  memory_refused some len at long next TooManyItems is = record { flushes = flushes; flushed = flushed; holds = λ made counted. so some len at long next made counted TooManyItems is }
  memory_refused some len at long next NumbersUsedUp is = record { flushes = flushes; flushed = flushed; holds = λ made counted. so some len at long next made counted NumbersUsedUp is }
  memory_refused some len at long next error is = absurd is

  -- the ingestion behind it
  pub own_refused : (has_memory tree.memory ≡ false → flushes ≡ []) → (error : Error) → IsIngestRefusal n items (last_flushed tree flushes last) error
      → IsIngestionRefusal tree id watermark n items last error
  own_refused none OutOfMemory is =
      λ nothing. subst (λ (b : Bool). OnceIngested n items (cond b (record_after_flush (memory_flush tree flushes) last) last) HasPlace) nothing is
  own_refused none NumbersUsedUp is = record { flushes = flushes; flushed = flushed; holds = is }
  own_refused none TooManyItems is = record { flushes = flushes; flushed = flushed; holds = is }
  own_refused none error is = absurd is

-- where the ingestion was planned behind that record, there was a place, and memory alone refuses what comes behind it
pub placed_whole : (tree : Shape) (id watermark n : ℕ) (items : List KeyOp) (last : Fields) (flushes : List MadeTable) (own : IngestPlan) (mid : Fields) → mid ≡ last_flushed tree flushes last
    → IsIngestPlan id n items mid own → IsIngestionRefusal tree id watermark n items last OutOfMemory
placed_whole tree id watermark n items last flushes own mid says is = λ nothing tables counted.
    let same : mid ≡ last = subst (λ (b : Bool). mid ≡ cond b (record_after_flush (memory_flush tree flushes) last) last) nothing says in
    let here : Fits (record_after_flush (as_flush n own.tables.items) last) = subst (λ (l : Fields). Fits (record_after_flush (as_flush n own.tables.items) l)) same is.planned.fits in
    let room = here.len in
    let left = here.room.next_table_id in
    let many = as_counted n items own.tables.items is.tables in
    let a = flush_len (as_flush n own.tables.items) last in
    let b = flush_len (as_flush n tables) last in
    (omega (arith, room, a, b, many, counted), omega (arith, left, many, counted))
