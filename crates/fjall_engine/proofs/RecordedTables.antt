-- The tables of each tree stay those that the last record of its keyspace lists, whatever step the machine takes.
use Rattle.std.proofs.Common.{◌≡◌, inl, inr, ℕ, ◌+◌, ◌<◌, ◌==◌, Bool, true, false, cond, if◌then◌else◌, List, [], ◌∷◌, ◌++◌, All, Option, None, Some, drop, get_or, length, map, not, refl, sym, ◌∙◌, ap, subst, append_assoc, arith}
use Rattle.std.proofs.lemmas.Bool.{eq-eqb, eqb-true}
use Rattle.std.proofs.lemmas.List.{drop-map, map-append}
use Rattle.std.proofs.lemmas.List.Elements.{All-filter, All-map, All-push}
use Rattle.fjall_base.specs.declared.error.Error.{Error}
use Rattle.fjall_base.specs.declared.error.Error.TheVariants.{Io, NumbersUsedUp, OutOfMemory, Poisoned, Storage, TooManyItems, ValueTooLong}
use Rattle.fjall_table_reader.specs.Readers.{Reader}
use Rattle.fjall_manifest.specs.Catalog.{fields, first_of}
use Rattle.fjall_compaction.specs.Flushes.{flushed_infos}
use Rattle.fjall_compaction.specs.Flushes as flushes
use Rattle.fjall_compaction.proofs.FlushReading.{infos_both}
use Rattle.fjall_history.specs.Histories.{number}
use Rattle.fjall_history.specs.declared.reply.Reply.{Reply}
use Rattle.fjall_history.specs.declared.reply.Reply.TheVariants.{Refused}
use Rattle.fjall_compaction.specs.Whole.{last_ingested, memory_flush}
use Rattle.fjall_compaction.proofs.Preparing.{nothing_there}
use Rattle.fjall_compaction.proofs.WholeMemory.{none_listed, none_made, nothing_made}
use Rattle.fjall_jobs.specs.declared.made_table.MadeTable.{MadeTable}
use Rattle.fjall_jobs.specs.Tasks.{IsFlushed}
use Rattle.fjall_journal.specs.Changes.{Emptied, Items}
use Rattle.fjall_tree.specs.Ingestions.{has_memory, ingested, memory_task}
use Rattle.fjall_tree.specs.Jobs.{flush_begun, flush_dropped, flush_finished, merge_begun, merge_dropped, merge_finished}
use Rattle.fjall_tree.specs.Puts.{bare_tree}
use Rattle.fjall_tree.specs.Trees.{Flushing, Merging, Shape as Tree, sealed_off}
use Rattle.fjall_compaction.specs.MergeFinishing as counting
use Rattle.fjall_compaction.specs.Merges as merges
use Rattle.fjall_memtable.specs.Parts.{clears_in, parts_of}
use Rattle.fjall_memtable.specs.Sorted.{flat}
use Rattle.fjall_machine.specs.Machine.{Answers, BeginsFlush, BeginsMerge, CreatesOrFinds, EvictsSome, FinishesFlush, FinishesMerge, FlushesIn, IngestionFails, Ingests, IngestsInto, IsPoisoned, MayFail, MergesIn, Parts, Refuses, State, StepOf, WorkFails, at_fault}
use Rattle.fjall_machine.specs.Machine as machine
use Rattle.fjall_machine.specs.Shapes.{CallShape, OfChange, OfCount, OfCreation, OfDeletion, OfFlushBegin, OfFlushFinish, OfHandle, OfIngestion, OfJournalRotation, OfMaintenance, OfMergeBegin, OfMergeFinish, OfPersist, OfRead, OfRotation, OfTickets, OneLess, OneMore}
use Rattle.fjall_machine.proofs.SameTrees.{all_alike, altered_tables, back, changed_tables}
use Rattle.fjall_machine.proofs.Standing.{next_agrees}
use Rattle.fjall_table.specs.declared.table_info.TableInfo.{TableInfo}
use Rattle.fjall_manifest.specs.Records.{Fields}
use Rattle.fjall_trees.specs.Forests.{Forest, Planted, altered_at}
use Rattle.fjall_trees.specs.Forests as forests
use Rattle.fjall_trees.specs.Tables.{shape_in}
use Rattle.fjall_trees.specs.Writes.{with_tree}
use Rattle.fjall_meta.proofs.Slots.{same_id}
use Rattle.fjall_reading.specs.Ingestions.{KeyOp}
use Rattle.fjall_engine.specs.Holding.{Held}
use Rattle.fjall_engine.specs.Standing.{AreRecorded, StandsFor}

-- what a reader tells of its table
abbrev infos_of : List Reader → List TableInfo
infos_of tables = map (λ (t : Reader). t.info) tables

-- a record lists these tables
abbrev Lists : (ℕ → Fields) → ℕ → List Reader → Type 0
Lists records id tables = infos_of tables ≡ (records id).tables

-- ---- one tree

-- with more tables behind
behind : (tables readers : List Reader) (old more : List TableInfo) → infos_of tables ≡ old → infos_of readers ≡ more → infos_of (tables ++ readers) ≡ old ++ more
behind tables readers old more told infos = map-append (λ (t : Reader). t.info) tables readers ∙ (λ i. told i ++ infos i)

-- with others in the place of the first ones
in_place : (count : ℕ) (tables readers : List Reader) (old more : List TableInfo) → infos_of tables ≡ old → infos_of readers ≡ more → infos_of (readers ++ drop count tables) ≡ more ++ drop count old
in_place count tables readers old more told infos =
    map-append (λ (t : Reader). t.info) readers (drop count tables) ∙ (λ i. infos i ++ (sym (drop-map (λ (t : Reader). t.info) count tables) ∙ ap (drop count) told) i)

-- a flush of memory that holds nothing makes no table
no_table : (id watermark : ℕ) (tree : Tree) (tables : List MadeTable) → has_memory tree.memory ≡ false → IsFlushed (memory_task id watermark tree.memory) tables (clears_in (parts_of tree.memory)) → tables ≡ []
no_table id watermark tree tables none made =
    none_made tables made.lists made.made
    (none_listed made.lists made.parted (nothing_made watermark (clears_in (parts_of tree.memory)) (flat (memory_task id watermark tree.memory).runs) (flat made.lists) made.kept (nothing_there tree.memory none).0))

-- what the record lists behind an ingestion
ingested_infos : (n : ℕ) (tree : Tree) (made more : List MadeTable) (last : Fields) → (has_memory tree.memory ≡ false → made ≡ [])
    → (last_ingested n tree made more last).tables ≡ last.tables ++ flushed_infos last.next_table_id (made ++ more)
ingested_infos n tree made more last none = by (has_memory tree.memory) refl
  where
    record_where : Bool → Fields
    record_where b = cond b (flushes.record_after_flush (memory_flush tree made) last) last

    by : (b : Bool) → has_memory tree.memory ≡ b → (record_where b).tables ++ flushed_infos (record_where b).next_table_id more ≡ last.tables ++ flushed_infos last.next_table_id (made ++ more)
    by true is = append_assoc last.tables (flushed_infos last.next_table_id made) (flushed_infos (last.next_table_id + length made) more) ∙ ap (λ (l : List TableInfo). last.tables ++ l) (sym (infos_both last.next_table_id made more))
    by false is = ap (λ (l : List MadeTable). last.tables ++ flushed_infos last.next_table_id (l ++ more)) (sym (none is))

-- ---- all trees

-- the records are the same, and one tree changed, but for its tables
pub recorded_altered : (id : ℕ) (change : Tree → Tree) → ((shape : Tree) → (change shape).tables ≡ shape.tables) → (parts : Parts) → AreRecorded parts → AreRecorded (record parts { trees = altered_at id change parts.trees })
recorded_altered id change same parts told = altered_tables (Lists parts.records) parts.trees told id change same

-- one tree changed, and its record with it
with_record : (id : ℕ) (change : Tree → Tree) (last : Fields) (trees : Forest) (records : ℕ → Fields) → All (λ k. Lists records k.id k.shape.tables) trees
    → ((shape : Tree) → Lists records id shape.tables → infos_of (change shape).tables ≡ last.tables)
    → All (λ k. Lists (machine.records_with id last records) k.id k.shape.tables) (altered_at id change trees)
with_record id change last trees records told so =
    All-map (λ (k : Planted). Lists (machine.records_with id last records) k.id k.shape.tables) (λ (k : Planted). record { id = k.id; shape = cond (k.id == id) (change k.shape) k.shape }) trees
    (λ i d lt. let k = get_or trees i d in by k (k.id == id) refl (told i d lt))
  where
    by : (k : Planted) (b : Bool) → (k.id == id) ≡ b → Lists records k.id k.shape.tables → infos_of (cond b (change k.shape) k.shape).tables ≡ (cond b last (records k.id)).tables
    by k true is lists = so k.shape (subst (λ (n : ℕ). Lists records n k.shape.tables) (same_id k.id id is) lists)
    by k false is lists = lists

-- a tree more, of an id that none has
with_first : (id from : ℕ) (first : Fields) (trees : Forest) (records : ℕ → Fields) → first.tables ≡ [] → All (λ k. k.id < id) trees → All (λ k. Lists records k.id k.shape.tables) trees
    → All (λ k. Lists (machine.records_with id first records) k.id k.shape.tables) (with_tree id from trees)
with_first id from first trees records bare below told =
    let new : (machine.records_with id first records id).tables ≡ [] = ap (λ (b : Bool). (cond b first (records id)).tables) (eq-eqb id id refl) ∙ bare in
    All-push (λ (k : Planted). Lists (machine.records_with id first records) k.id k.shape.tables) trees (record { id = id; shape = bare_tree from })
    (λ i d lt.
    let k = get_or trees i d in
    let less = below i d lt in
    by k (k.id == id) refl less (told i d lt)) (sym new)
  where
    by : (k : Planted) (b : Bool) → (k.id == id) ≡ b → k.id < id → Lists records k.id k.shape.tables → infos_of k.shape.tables ≡ (cond b first (records k.id)).tables
    by k true is less lists = let same = eqb-true k.id id is in absurd (omega (arith, less, same))
    by k false is less lists = lists

-- ---- parts of steps

pub recorded_flush : (id : ℕ) (old new : Parts) (out : Option Flushing) → FlushesIn out old id new → AreRecorded old → AreRecorded new
recorded_flush id old new None none told = absurd none
recorded_flush id old new (Some out) f told =
    subst AreRecorded (sym f.is)
    (with_record id (flush_finished f.readers out) (flushes.record_after_flush (machine.flush_with (shape_in id old.trees) out f.tables) (old.records id)) old.trees old.records told
    (λ shape lists. behind shape.tables f.readers (old.records id).tables (flushed_infos (old.records id).next_table_id f.tables) lists f.infos))

pub recorded_merge : (target id : ℕ) (old new : Parts) (out : Option Merging) → MergesIn out target old id new → AreRecorded old → AreRecorded new
recorded_merge target id old new None none told = absurd none
recorded_merge target id old new (Some out) m told =
    subst AreRecorded (sym m.is)
    (with_record id (merge_finished m.readers out) (merges.record_after_merge (counting.merge_out out m.tables m.clears) (old.records id)) old.trees old.records told
    (λ shape lists. in_place out.tables shape.tables m.readers (old.records id).tables (merges.merged_infos (old.records id).next_table_id m.tables) lists m.infos))

pub recorded_ingestion : (old new : State) (id : ℕ) (items : List KeyOp) → Ingests old id items new → AreRecorded old.parts → AreRecorded new.parts
recorded_ingestion old new id items i told =
    let n = number old.history in
    let tree = shape_in id old.parts.trees in
    let last = old.parts.records id in
    subst (λ (x : State). AreRecorded x.parts) (sym i.is)
    (with_record id (ingested n i.readers) (last_ingested n tree i.flushes i.made last) old.parts.trees old.parts.records told
    (λ shape lists.
    behind shape.tables i.readers last.tables (flushed_infos last.next_table_id (i.flushes ++ i.made)) lists i.makes.infos
    ∙ sym (ingested_infos n tree i.flushes i.made last (λ none. no_table id old.tickets.watermark tree i.flushes none i.makes.flushed))))

-- the trees and the records are the same
alike : (old new : Parts) → new.trees ≡ old.trees → new.records ≡ old.records → AreRecorded old → AreRecorded new
alike old new trees records told = subst (λ (x : Forest × (ℕ → Fields)). All (λ k. Lists x.1 k.id k.shape.tables) x.0) (λ i. (sym trees i, sym records i)) told

poisoned_so : (old new : State) → IsPoisoned old new → AreRecorded old.parts → AreRecorded new.parts
poisoned_so old new fault = alike old.parts new.parts fault.trees fault.records

evicted_so : (old new : State) → EvictsSome old new → AreRecorded old.parts → AreRecorded new.parts
evicted_so old new (gone, left, all, may, is) told = subst (λ (x : State). AreRecorded x.parts) (sym is) told

synced_so : (s : State) → AreRecorded s.parts → AreRecorded (machine.journal_synced s).parts
synced_so s told = by (machine.is_long s.parts)
  where
    by : (b : Bool) → AreRecorded (if b then machine.journal_rotated s else record s { parts = machine.parts_written_out s.parts 0 }).parts
    by true = told
    by false = told

released_so : (s : State) (id : ℕ) → AreRecorded s.parts → AreRecorded (machine.released s id).parts
released_so s id told = by (machine.is_last s id)
  where
    by : (b : Bool) → All (λ k. Lists s.parts.records k.id k.shape.tables) (if b then forests.without id s.parts.trees else s.parts.trees)
    by true = All-filter (λ (k : Planted). not (k.id == id)) (λ (k : Planted). Lists s.parts.records k.id k.shape.tables) s.parts.trees told
    by false = told

same_so : (s t : State) → t ≡ s → AreRecorded s.parts → AreRecorded t.parts
same_so s t same told = subst (λ (x : State). AreRecorded x.parts) (sym same) told

-- ---- what may go wrong

fault_so : (s : State) (shape : CallShape) → AreRecorded s.parts → AreRecorded (at_fault s shape).parts
fault_so s (OfHandle OneLess id) told = released_so s id told
fault_so s (OfHandle OneMore id) told = told
fault_so s (OfChange change how) told = told
fault_so s (OfIngestion id items) told = told
fault_so s (OfCreation name options) told = told
fault_so s (OfDeletion id) told = told
fault_so s (OfRotation id) told = told
fault_so s OfJournalRotation told = told
fault_so s (OfFlushBegin id) told = told
fault_so s (OfFlushFinish job) told = told
fault_so s (OfMergeBegin kind id) told = told
fault_so s (OfMergeFinish job) told = told
fault_so s OfMaintenance told = told
fault_so s (OfRead view id query) told = told
fault_so s (OfTickets call) told = told
fault_so s (OfPersist mode) told = told
fault_so s (OfCount count) told = told

ingestion_fails : (s t : State) (id : ℕ) (items : List KeyOp) → IngestionFails s id items t → AreRecorded s.parts → AreRecorded t.parts
ingestion_fails s t id items (inl fault) told = poisoned_so s t fault told
ingestion_fails s t id items (inr (inl fault)) told = poisoned_so (machine.journal_synced s) t fault (synced_so s told)
ingestion_fails s t id items (inr (inr (mid, left, ingests, evicts, fault))) told =
    poisoned_so (machine.with_sealed left.parts.journals.sealed (machine.journal_synced s)) t fault (synced_so s told)

work_so : (s t : State) (shape : CallShape) → WorkFails shape s t → AreRecorded s.parts → AreRecorded t.parts
work_so s t (OfFlushBegin id) (begins, numbered, fault) told = poisoned_so s t fault told
work_so s t (OfFlushFinish job) (due, well, inl fault) told = poisoned_so s t fault told
work_so s t (OfFlushFinish job) (due, well, inr (parts, mid, flushes, evicts, fault)) told =
    poisoned_so mid t fault (evicted_so (record s { parts = parts }) mid evicts (recorded_flush job.keyspace_id s.parts parts (shape_in job.keyspace_id s.parts.trees).flush flushes told))
work_so s t (OfMergeBegin kind id) (begins, left, same) told = same_so s t same told
work_so s t (OfMergeFinish job) (due, well, inl fault) told = poisoned_so s t fault told
work_so s t (OfMergeFinish job) (due, well, inr (parts, merges, fault)) told =
    poisoned_so (record s { parts = parts }) t fault
    (recorded_merge (machine.target_size (machine.options_in (machine.present s) job.keyspace_id)) job.keyspace_id s.parts parts (shape_in job.keyspace_id s.parts.trees).merge merges told)
work_so s t (OfIngestion id []) fails told = absurd fails
work_so s t (OfIngestion id (item ∷ items)) (left, fails) told = ingestion_fails s t id (item ∷ items) fails told
work_so s t OfMaintenance (mid, evicts, fault) told = poisoned_so mid t fault (evicted_so s mid evicts told)
work_so s t (OfChange change how) fails told = absurd fails
work_so s t (OfCreation name options) fails told = absurd fails
work_so s t (OfDeletion id) fails told = absurd fails
work_so s t (OfHandle call id) fails told = absurd fails
work_so s t (OfRotation id) fails told = absurd fails
work_so s t OfJournalRotation fails told = absurd fails
work_so s t (OfRead view id query) fails told = absurd fails
work_so s t (OfTickets call) fails told = absurd fails
work_so s t (OfPersist mode) fails told = absurd fails
work_so s t (OfCount count) fails told = absurd fails

failure_so : (s t : State) (shape : CallShape) (error : Error) → MayFail shape error s t → AreRecorded s.parts → AreRecorded t.parts
failure_so s t shape (Io kind) (inl (changes, fault)) told = poisoned_so (at_fault s shape) t fault (fault_so s shape told)
failure_so s t shape (Io kind) (inr (inl (reads, same))) told = same_so s t same told
failure_so s t shape (Io kind) (inr (inr fails)) told = work_so s t shape fails told
failure_so s t shape OutOfMemory (takes, same) told = same_so s t same told
failure_so s t shape (Storage error) (is, damage, same) told = same_so s t same told
failure_so s t shape ValueTooLong (long, same) told = same_so s t same told
failure_so s t shape Poisoned (late, same) told = same_so s t same told
failure_so s t shape NumbersUsedUp (used, same) told = same_so s t same told
failure_so s t shape TooManyItems (room, same) told = same_so s t same told
failure_so s t shape error fails told = absurd fails

refusal_so : (s t : State) (shape : CallShape) (error : Error) (first : Option Error) → Refuses first shape error s t → AreRecorded s.parts → AreRecorded t.parts
refusal_so s t shape error (Some first) (is, same) told = same_so s t same told
refusal_so s t shape error None fails told = failure_so s t shape error fails told

-- ---- what is done

-- the ids of all trees were given out
abbrev AreGiven : State → Type 0
AreGiven s = All (λ k. k.id < (machine.present s).next) s.parts.trees

created_so : (s t : State) (name : _) (options : List _) (id : ℕ) → AreGiven s → CreatesOrFinds s name options id t → AreRecorded s.parts → AreRecorded t.parts
created_so s t name options id given (inl (had, found, same)) told = same_so s t same told
created_so s t name options id given (inr (fresh, is, made)) told =
    subst (λ (x : State). AreRecorded x.parts) (sym made)
    (with_first (machine.present s).next (number s.history) (fields (first_of (number s.history))) s.parts.trees s.parts.records refl given told)

deleted_so : (s t : State) (id : ℕ) (living : Bool) → t ≡ (if living then machine.deleted s id else s) → AreRecorded s.parts → AreRecorded t.parts
deleted_so s t id true is told = subst (λ (x : State). AreRecorded x.parts) (sym is) told
deleted_so s t id false is told = same_so s t is told

rotated_so : (s t : State) (id : ℕ) (seals : Bool) → t ≡ (if seals then machine.rotated s id else s) → AreRecorded s.parts → AreRecorded t.parts
rotated_so s t id true is told = subst (λ (x : State). AreRecorded x.parts) (sym is) (recorded_altered id sealed_off (λ shape. refl) s.parts told)
rotated_so s t id false is told = same_so s t is told

flush_begun_so : (s t : State) (id : ℕ) (reply : Reply) (begins : Bool) → BeginsFlush begins s id reply t → AreRecorded s.parts → AreRecorded t.parts
flush_begun_so s t id reply true (tells, numbered, is) told =
    let synced = machine.journal_synced s in
    subst (λ (x : State). AreRecorded x.parts) (sym is) (recorded_altered id (flush_begun synced.next_job synced.tickets.watermark) (λ shape. refl) synced.parts (synced_so s told))
flush_begun_so s t id reply false (tells, same) told = same_so s t same told

flush_ended_so : (s t : State) (job : _) (reply : Reply) (out takes : Bool) → FinishesFlush out takes s job reply t → AreRecorded s.parts → AreRecorded t.parts
flush_ended_so s t job reply true true (tells, well, parts, flushes, is) told =
    subst (λ (x : State). AreRecorded x.parts) (sym is) (recorded_flush job.keyspace_id s.parts parts (shape_in job.keyspace_id s.parts.trees).flush flushes told)
flush_ended_so s t job reply true false (tells, is) told = subst (λ (x : State). AreRecorded x.parts) (sym is) (recorded_altered job.keyspace_id flush_dropped (λ shape. refl) s.parts told)
flush_ended_so s t job reply false takes (tells, same) told = same_so s t same told

merge_begun_so : (s t : State) (id : ℕ) (reply : Reply) (begins : Bool) → BeginsMerge begins s id reply t → AreRecorded s.parts → AreRecorded t.parts
merge_begun_so s t id reply true (tells, numbered, is) told = subst (λ (x : State). AreRecorded x.parts) (sym is) (recorded_altered id (merge_begun s.next_job s.tickets.watermark) (λ shape. refl) s.parts told)
merge_begun_so s t id reply false (tells, same) told = same_so s t same told

merge_ended_so : (s t : State) (job : _) (reply : Reply) (out lives : Bool) → FinishesMerge out lives s job reply t → AreRecorded s.parts → AreRecorded t.parts
merge_ended_so s t job reply true true (tells, well, parts, merges, is) told =
    subst (λ (x : State). AreRecorded x.parts) (sym is)
    (recorded_merge (machine.target_size (machine.options_in (machine.present s) job.keyspace_id)) job.keyspace_id s.parts parts (shape_in job.keyspace_id s.parts.trees).merge merges told)
merge_ended_so s t job reply true false (tells, is) told = subst (λ (x : State). AreRecorded x.parts) (sym is) (recorded_altered job.keyspace_id merge_dropped (λ shape. refl) s.parts told)
merge_ended_so s t job reply false lives (tells, same) told = same_so s t same told

ingestion_so : (s t : State) (id : ℕ) (items : List KeyOp) (reply : Reply) → IngestsInto id items s reply t → AreRecorded s.parts → AreRecorded t.parts
ingestion_so s t id [] reply (tells, same) told = same_so s t same told
ingestion_so s t id (item ∷ items) reply (tells, left, mid, ingests, is) told =
    subst (λ (x : State). AreRecorded x.parts) (sym is) (recorded_ingestion (machine.journal_synced s) mid id (item ∷ items) ingests (synced_so s told))

answer_so : (s t : State) (shape : CallShape) (reply : Reply) → AreGiven s → Answers s shape reply t → AreRecorded s.parts → AreRecorded t.parts
answer_so s t (OfChange (Items []) how) reply given (tells, is) told = same_so s t is told
answer_so s t (OfChange (Items (item ∷ items)) how) reply given (tells, is) told =
    subst (λ (x : State). AreRecorded x.parts) (sym is) (changed_tables (Lists s.parts.records) s.parts.trees told (number s.history) (Items (item ∷ items)))
answer_so s t (OfChange (Emptied id) how) reply given (tells, is) told =
    subst (λ (x : State). AreRecorded x.parts) (sym is) (changed_tables (Lists s.parts.records) s.parts.trees told (number s.history) (Emptied id))
answer_so s t (OfIngestion id items) reply given ingests told = ingestion_so s t id items reply ingests told
answer_so s t (OfCreation name options) reply given (id, tells, makes) told = created_so s t name options id given makes told
answer_so s t (OfDeletion id) reply given (tells, is) told = deleted_so s t id (machine.is_living (machine.present s) id) is told
answer_so s t (OfHandle OneMore id) reply given (tells, is) told = subst (λ (x : State). AreRecorded x.parts) (sym is) told
answer_so s t (OfHandle OneLess id) reply given (tells, is) told = subst (λ (x : State). AreRecorded x.parts) (sym is) (released_so s id told)
answer_so s t (OfRotation id) reply given (tells, is) told = rotated_so s t id (machine.rotates s.parts.trees id) is told
answer_so s t OfJournalRotation reply given (tells, is) told = subst (λ (x : State). AreRecorded x.parts) (sym is) told
answer_so s t (OfFlushBegin id) reply given begins told = flush_begun_so s t id reply (machine.begins_flush s.parts.trees id) begins told
answer_so s t (OfFlushFinish job) reply given ends told = flush_ended_so s t job reply (machine.is_flushing s.parts.trees job) (machine.takes_effect s job) ends told
answer_so s t (OfMergeBegin kind id) reply given begins told = merge_begun_so s t id reply (machine.begins_merge (machine.present s) s.parts.trees kind id) begins told
answer_so s t (OfMergeFinish job) reply given ends told =
    merge_ended_so s t job reply (machine.is_merging s.parts.trees job) (machine.is_living (machine.present s) job.keyspace_id) ends told
answer_so s t OfMaintenance reply given (tells, is) told = subst (λ (x : State). AreRecorded x.parts) (sym is) told
answer_so s t (OfRead view id query) reply given (tells, same) told = same_so s t same told
answer_so s t (OfTickets call) reply given (turns, is) told = subst (λ (x : State). AreRecorded x.parts) (sym is) told
answer_so s t (OfPersist mode) reply given (tells, is) told = subst (λ (x : State). AreRecorded x.parts) (sym is) told
answer_so s t (OfCount count) reply given (tells, same) told = same_so s t same told

step_so : (s t : State) (shape : CallShape) (reply : Reply) → AreGiven s → StepOf s shape reply t → AreRecorded s.parts → AreRecorded t.parts
step_so s t shape (Refused error) given refuses told = refusal_so s t shape error (machine.due s shape) refuses told
step_so s t shape reply given (none, answers) told = answer_so s t shape reply given answers told

-- where a core stands for the state before
pub recorded_step : (core : Held) (s t : State) (shape : CallShape) (reply : Reply) → StandsFor core s → StepOf s shape reply t → AreRecorded s.parts → AreRecorded t.parts
recorded_step core s t shape reply stands =
    let m = core.memory in
    let held = stands.remembered in
    step_so s t shape reply
    (subst (λ (n : ℕ). All (λ k. k.id < n) s.parts.trees) (sym (next_agrees m core.catalog.next_table_id s held))
    (all_alike (λ id shape. id < m.keyspaces.next) (λ id a b alike less. less) m.trees s.parts.trees (back s.parts.trees m.trees held.trees) held.lawful.given))
