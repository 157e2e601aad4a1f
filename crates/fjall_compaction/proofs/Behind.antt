-- A whole ingestion as it is written: the flush of its keyspace's memory, and behind it the ingestion's own table and record.
use Rattle.std.proofs.Common.{◌≡◌, ◌⊎◌, inl, ℕ, ◌+◌, ◌<◌, ◌≤◌, ◌^◌, Bool, true, false, cond, List, [], ◌∷◌, ◌++◌, length, Some, None, Result, Ok, Err, OnOk, refl, sym, ap, subst, ◌∙◌, arith}
use Rattle.std.proofs.lemmas.List.{append-nil}
use Rattle.fjall_base.specs.declared.error.Error.{Error}
use Rattle.fjall_base.specs.Disk.{DiskEntry, IsFile, IsNoFolder, LeavesOnly, Meaning, state_in}
use Rattle.fjall_meta.specs.Contents.{is_beyond}
use Rattle.fjall_files.specs.Calls.{AllServed}
use Rattle.fjall_files.specs.Names.{table_name}
use Rattle.fjall_files.proofs.Parts.{in_region}
use Rattle.fjall_compaction.specs.declared.flush.plan.FlushPlan.{FlushPlan}
use Rattle.fjall_compaction.specs.Flushes.{Flush, Follows, HasAt, flush_with, home_after, record_after_flush}
use Rattle.fjall_compaction.specs.FlushPlans.{ForPlannedOf, ForTablesOn, HaveFiles, IsFlushPlan, KeepsBeside}
use Rattle.fjall_compaction.proofs.Beside.{tables_stay}
use Rattle.fjall_compaction.proofs.FlushReading.{files_joined}
use Rattle.fjall_manifest.specs.Homes.{Home}
use Rattle.fjall_jobs.specs.declared.made_table.MadeTable.{MadeTable}
use Rattle.fjall_tree.specs.Ingestions.{has_memory}
use Rattle.fjall_tree.specs.Trees.{Shape}
use Rattle.fjall_recovery.specs.Halves.{HasTree, Tree, is_of_keyspaces}
use Rattle.fjall_recovery.specs.Places.{LiesInTree}
use Rattle.fjall_recovery.proofs.Trees.{crashes_leave_the_tree}
use Rattle.fjall_memtable.specs.Sorted.{flat}
use Rattle.fjall_table.specs.Blocks as blocks
use Rattle.fjall_table_reader.specs.Files.{bytes_in, entry_at}
use Rattle.fjall_manifest.specs.Records.{Fields}
use Rattle.fjall_reading.specs.Ingestions.{KeyOp}
use Rattle.fjall_compaction.specs.declared.ingestion.whole.MemoryPlan.{MemoryPlan}
use Rattle.fjall_compaction.specs.declared.ingestion.whole.PlannedIngestion.{PlannedIngestion}
use Rattle.fjall_compaction.specs.IngestionPlans.{ForIngestNext, ForIngestOn, IsIngestPlan}
use Rattle.fjall_compaction.specs.Planned.{ForMemory, ForMemoryOn, HasNoTableFolder, IsIngestionPlan, IsMemoryPlan, KeepsGiven}
use Rattle.fjall_compaction.specs.Whole.{home_flushed, last_flushed, memory_flush, tree_behind, tree_between, tree_flushed, versions_flushed}
use Rattle.fjall_compaction.proofs.Following.{there}
use Rattle.fjall_compaction.proofs.Preparing.{next_flushed}

-- ---- in sight

-- tables that were given out stay where nothing changes but the next one's file
pub kept_given : (id next : ℕ) (old new : Meaning) → next < 2 ^ 64 → KeepsBeside id next old new → KeepsGiven id next old new
kept_given id next old new fits keeps number below small = tables_stay id next old new fits keeps number small (λ e. omega (arith, below, e))

pub fewer_given : (id next more : ℕ) (old new : Meaning) → next ≤ more → KeepsGiven id more old new → KeepsGiven id next old new
fewer_given id next more old new le keeps number below small = keeps number (omega (arith, below, le)) small

pub given_both : (id next : ℕ) (old mid new : Meaning) → KeepsGiven id next old mid → KeepsGiven id next mid new → KeepsGiven id next old new
given_both id next old mid new one two number below small = two number below small ∙ one number below small

-- and so do the files of those that were made
pub files_kept : (id next more : ℕ) (tables : List MadeTable) (old new : Meaning) → next + length tables ≤ more → more < 2 ^ 64 → KeepsGiven id more old new → HaveFiles old id next tables
    → HaveFiles new id next tables
files_kept id next more [] old new le fits keeps files = tt
files_kept id next more (t ∷ tables) old new le fits keeps files =
    let same : entry_at new (table_name id next) ≡ entry_at old (table_name id next) = keeps next (omega (arith, le)) (omega (arith, le, fits)) in
    let behind : next + 1 + length tables ≤ more = omega (arith, le) in
    (subst IsFile (sym same) files.0, ap (λ (e : DiskEntry). bytes_in e) same ∙ files.1, files_kept id (next + 1) more tables old new behind fits keeps files.2)

-- ---- the flush of memory, as it is planned

-- where its writes are planned it is
pub on_some : (disk : Meaning) (p : MemoryPlan) (writes : FlushPlan) (tables : List MadeTable) → tables ≡ p.tables.items → p.writes ≡ Some writes
    → (Holds : List Fields → Tree → ℕ → Home → Tree → Type 0) → ForTablesOn disk writes tables Holds → ForMemoryOn disk p Holds
on_some disk p writes tables read at Holds so true id number clears records t h versions lists lies has none is follows =
    let so_read : ForTablesOn disk writes p.tables.items Holds = subst (λ (l : List MadeTable). ForTablesOn disk writes l Holds) read so in
    so_read records t id number clears h versions lists lies has (subst (IsMemoryPlan true id h.last (flush_with number p.tables.items clears)) at is) (follows refl)
on_some disk p writes tables read at Holds so false id number clears records t h versions lists lies has none is follows =
    absurd (subst (IsMemoryPlan false id h.last (flush_with number p.tables.items clears)) at is)

pub of_some : (p : MemoryPlan) (writes : FlushPlan) (tables : List MadeTable) → tables ≡ p.tables.items → p.writes ≡ Some writes → (Holds : List MadeTable → (id next : ℕ) → Type 0)
    → ForPlannedOf writes tables (Holds tables) → ForMemory p (λ id last. Holds p.tables.items id last.next_table_id)
of_some p writes tables read at Holds so true id number clears last none is =
    let so_read : ForPlannedOf writes p.tables.items (Holds p.tables.items) = subst (λ (l : List MadeTable). ForPlannedOf writes l (Holds l)) read so in
    so_read id number clears last (subst (IsMemoryPlan true id last (flush_with number p.tables.items clears)) at is)
of_some p writes tables read at Holds so false id number clears last none is = absurd (subst (IsMemoryPlan false id last (flush_with number p.tables.items clears)) at is)

-- and its next id has its place
pub given_some : (p : MemoryPlan) (writes : FlushPlan) (tables : List MadeTable) → tables ≡ p.tables.items → p.writes ≡ Some writes → (old new : Meaning)
    → ForPlannedOf writes tables (λ id next. KeepsBeside id next old new) → ForMemory p (λ id last. KeepsGiven id last.next_table_id old new)
given_some p writes tables read at old new so true id number clears last none is =
    let plan : IsFlushPlan id last (flush_with number p.tables.items clears) writes = subst (IsMemoryPlan true id last (flush_with number p.tables.items clears)) at is in
    let room = plan.fits.room.next_table_id in
    kept_given id last.next_table_id old new (omega (arith, room)) (of_some p writes tables read at (λ l id next. KeepsBeside id next old new) so true id number clears last none is)
given_some p writes tables read at old new so false id number clears last none is = absurd (subst (IsMemoryPlan false id last (flush_with number p.tables.items clears)) at is)

-- where no folder has the name of a table, a disk can serve it
pub served_some : (old new : Meaning) (p : MemoryPlan) (writes : FlushPlan) (tables : List MadeTable) → tables ≡ p.tables.items → p.writes ≡ Some writes
    → ForTablesOn old writes tables (λ records t id h next. IsNoFolder (state_in old (table_name id h.last.next_table_id)).now → AllServed old new)
    → ForMemoryOn old p (λ records t id h mid. HasNoTableFolder old id → AllServed old new)
served_some old new p writes tables read at so true id number clears records t h versions lists lies has none is follows free =
    let plan : IsFlushPlan id h.last (flush_with number p.tables.items clears) writes = subst (IsMemoryPlan true id h.last (flush_with number p.tables.items clears)) at is in
    let room = plan.fits.room.next_table_id in
    on_some old p writes tables read at (λ records t id h mid. IsNoFolder (state_in old (table_name id h.last.next_table_id)).now → AllServed old new) so true id number clears records t h versions lists lies has
    none is follows (free h.last.next_table_id (omega (arith, room)))
served_some old new p writes tables read at so false id number clears records t h versions lists lies has none is follows free =
    absurd (subst (IsMemoryPlan false id h.last (flush_with number p.tables.items clears)) at is)

-- where none are planned nothing is written
pub no_files : (disk : Meaning) (id next : ℕ) (tables : List MadeTable) → tables ≡ [] → HaveFiles disk id next tables
no_files disk id next tables none = subst (λ (l : List MadeTable). HaveFiles disk id next l) (sym none) tt

pub on_none : (disk : Meaning) (p : MemoryPlan) → p.writes ≡ None → (Holds : List Fields → Tree → ℕ → Home → Tree → Type 0)
    → ((records : List Fields) (t : Tree) (id : ℕ) (h : Home) → LiesInTree (state_in disk) records t → Holds records t id h t) → ForMemoryOn disk p Holds
on_none disk p at Holds so true id number clears records t h versions lists lies has none is follows = absurd (subst (IsMemoryPlan true id h.last (flush_with number p.tables.items clears)) at is)
on_none disk p at Holds so false id number clears records t h versions lists lies has none is follows = so records t id h lies

pub of_none : (p : MemoryPlan) → p.writes ≡ None → (Holds : ℕ → Fields → Type 0) → ((id : ℕ) (last : Fields) → p.tables.items ≡ [] → Holds id last) → ForMemory p Holds
of_none p at Holds so true id number clears last none is = absurd (subst (IsMemoryPlan true id last (flush_with number p.tables.items clears)) at is)
of_none p at Holds so false id number clears last none is = so id last (none refl)

-- and a crash leaves the tree
pub nothing_written : (disk : Meaning) (records : List Fields) (t next : Tree) → LiesInTree (state_in disk) records t → LeavesOnly disk disk (λ image. HasTree image t ⊎ HasTree image next)
nothing_written disk records t next lies = record {
  added = [];
  took = record { state = refl; steps = sym (append-nil disk.steps) };
  each = λ image is. inl (crashes_leave_the_tree (state_in disk) image records t lies.rests (in_region is_of_keyspaces (state_in disk) image is));
}

-- ---- both

-- the home between has its place in the tree between
at_flushed : (flushes : Bool) (id : ℕ) (f : Flush) (lists : List (List blocks.Entry)) (h : Home) (versions : List blocks.Entry) (t : Tree) → HasAt t id h versions
    → HasAt (tree_flushed flushes id f lists h versions t) id (home_flushed flushes f h) (versions_flushed flushes lists versions)
at_flushed true id f lists h versions t at = record { home = there t.homes id (home_after f h); stored = there t.versions id (versions ++ flat lists) }
at_flushed false id f lists h versions t at = at

-- and its last record
last_at : (flushes : Bool) (f : Flush) (h : Home) (last : Fields) → h.last ≡ last → (home_flushed flushes f h).last ≡ cond flushes (record_after_flush f last) last
last_at true f h last same = ap (record_after_flush f) same
last_at false f h last same = same

module _ (tree : Shape) (id watermark n : ℕ) (items : List KeyOp) (last : Fields) (p : PlannedIngestion) (is : IsIngestionPlan tree id watermark n items last p) where
  abbrev made : List MadeTable
  made = p.memory.tables.items

  abbrev some : Bool
  some = has_memory tree.memory

  abbrev f : Flush
  f = memory_flush tree made

  pub small : id < 2 ^ 64
  small = is.own.planned.folder.0

  next : (last_flushed tree p.memory.tables.items last).next_table_id ≡ last.next_table_id + length p.memory.tables.items
  next = next_flushed tree made last is.nothing

  -- the ids of all tables have their place
  pub all_fit : last.next_table_id + length p.memory.tables.items + length p.own.tables.items < 2 ^ 64
  all_fit =
      let room = is.own.planned.fits.room.next_table_id in
      let at = next in
      omega (arith, room, at)

  pub of_memory : (Holds : ℕ → Fields → Type 0) → ForMemory p.memory Holds → Holds id last
  of_memory Holds so = so some id f.number f.clears last is.nothing is.memory

  pub of_own : (Holds : (id next : ℕ) → Type 0) → ForIngestNext p.own Holds → Holds id (last.next_table_id + length p.memory.tables.items)
  of_own Holds so = subst (λ (k : ℕ). Holds id k) next (so id n items (last_flushed tree made last) is.own)

  -- what was given out before the ingestion's table stays while that is written
  pub own_given : (mid new : Meaning) → ForIngestNext p.own (λ id next. KeepsBeside id next mid new) → KeepsGiven id (last.next_table_id + length p.memory.tables.items) mid new
  own_given mid new so =
      let fit = all_fit in
      kept_given id (last.next_table_id + length made) mid new (omega (arith, fit)) (of_own (λ id next. KeepsBeside id next mid new) so)

  -- and at its end the files of all tables stand
  pub files_behind : (mid new : Meaning) (r : Result Unit Error) → HaveFiles mid id last.next_table_id p.memory.tables.items → ForIngestNext p.own (λ id next. KeepsBeside id next mid new)
      → ForIngestNext p.own (λ id next. OnOk r (HaveFiles new id next p.own.tables.items)) → OnOk r (HaveFiles new id last.next_table_id (p.memory.tables.items ++ p.own.tables.items))
  files_behind mid new (Err e) files so own = tt
  files_behind mid new (Ok done) files so own =
      let fit = all_fit in
      files_joined new id last.next_table_id made p.own.tables.items
      (files_kept id last.next_table_id (last.next_table_id + length made) made mid new (omega arith) (omega (arith, fit)) (own_given mid new so) files)
      (of_own (λ id next. HaveFiles new id next p.own.tables.items) own)

  module _ (records : List Fields) (t : Tree) (h : Home) (versions : List blocks.Entry) (lists : List (List blocks.Entry)) (at : HasAt t id h versions) (same : h.last ≡ last) where
    abbrev between : Tree
    between = tree_between id tree made lists h versions t

    last_is : (home_flushed (has_memory tree.memory) (memory_flush tree p.memory.tables.items) h).last ≡ last_flushed tree p.memory.tables.items last
    last_is = last_at some f h last same

    pub on_memory : (disk : Meaning) (Holds : List Fields → Tree → ℕ → Home → Tree → Type 0) → ForMemoryOn disk p.memory Holds → LiesInTree (state_in disk) records t
        → (has_memory tree.memory ≡ true → Follows (memory_flush tree p.memory.tables.items) lists last) → Holds records t id h (tree_between id tree p.memory.tables.items lists h versions t)
    on_memory disk Holds so lies follows =
        so some id f.number f.clears records t h versions lists lies at is.nothing (subst (λ (l : Fields). IsMemoryPlan some id l f p.memory.writes) (sym same) is.memory)
        (λ e. subst (λ (l : Fields). Follows f lists l) (sym same) (follows e))

    pub on_own : (disk : Meaning) (Holds : List Fields → Tree → ℕ → Home → Tree → Type 0) → ForIngestOn disk p.own Holds
        → LiesInTree (state_in disk) records (tree_between id tree p.memory.tables.items lists h versions t) → n < 2 ^ 63 → is_beyond (last_flushed tree p.memory.tables.items last).persisted n ≡ true
        → Holds records (tree_between id tree p.memory.tables.items lists h versions t) id (home_flushed (has_memory tree.memory) (memory_flush tree p.memory.tables.items) h)
        (tree_behind id n items tree p.memory.tables.items p.own.tables.items lists h versions t)
    on_own disk Holds so lies low beyond =
        so records between id n items (home_flushed some f h) (versions_flushed some lists versions) lies (at_flushed some id f lists h versions t at) low
        (subst (λ (l : Fields). is_beyond l.persisted n ≡ true) (sym last_is) beyond) (subst (λ (l : Fields). IsIngestPlan id n items l p.own) (sym last_is) is.own)

    -- the next id, by the home between
    pub next_between : (home_flushed (has_memory tree.memory) (memory_flush tree p.memory.tables.items) h).last.next_table_id < 2 ^ 64
    next_between =
        let at_next : (home_flushed some f h).last.next_table_id ≡ last.next_table_id + length made = ap (λ (l : Fields). l.next_table_id) last_is ∙ next in
        let fit = all_fit in
        omega (arith, at_next, fit)
