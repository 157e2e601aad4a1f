-- The states that a core stands for on the way through an ingestion, and where it leads the core and its disk.
use Rattle.std.proofs.Common.{◌≡◌, ℕ, ◌<◌, ◌-◌, ◌^◌, ◌==◌, ◌&&◌, nat_le, Bool, true, false, cond, List, [], ◌∷◌, ◌++◌, Option, None, Some, unwrap_or, refl, sym, ◌∙◌, ap, subst}
use Rattle.std.specs.FinMap.{get}
use Rattle.std.proofs.lemmas.Bool.{eq-eqb}
use Rattle.std.proofs.lemmas.List.{append-nil}
use Rattle.fjall_base.specs.Store.{Store, Command, kept}
use Rattle.fjall_base.specs.Disk.{Meaning, state_in}
use Rattle.fjall_manifest.specs.Catalog.{fields, first_of}
use Rattle.fjall_files.specs.Tidy.{IsTidy, StaysTidy}
use Rattle.fjall_history.specs.Histories.{grown, number, plain}
use Rattle.fjall_history.specs.declared.reply.Reply.{Reply}
use Rattle.fjall_compaction.specs.declared.ingestion.whole.PlannedIngestion.{PlannedIngestion}
use Rattle.fjall_compaction.specs.Ingests.{batch_items, ingestion}
use Rattle.fjall_journal.specs.Ops.{items_refusal}
use Rattle.fjall_replay.specs.Known.{last_known}
use Rattle.fjall_meta.specs.declared.living.LivingKeyspace.{LivingKeyspace}
use Rattle.fjall_machine.specs.Ingesting.{Ingests, parts_ingested, last_ingested, with_ingestion}
use Rattle.fjall_machine.specs.Machine.{State, present}
use Rattle.fjall_machine.specs.Machine as machine
use Rattle.fjall_machine.specs.Remembered.{IsLawful, Remembered}
use Rattle.fjall_machine.specs.Remembered as memory
use Rattle.fjall_machine.specs.Shapes.{CallShape, OfIngestion}
use Rattle.fjall_machine.proofs.Dues.{behind_true, below}
use Rattle.fjall_machine.proofs.Flushing.{known_record}
use Rattle.fjall_machine.proofs.Ingesting.{ingested_there}
use Rattle.fjall_machine.proofs.Viewing.{latest_grown}
use Rattle.fjall_table.specs.Blocks.{Entry}
use Rattle.fjall_manifest.specs.Records.{Fields, view}
use Rattle.fjall_trees.specs.Tables.{shape_in}
use Rattle.fjall_meta.proofs.Kept.{kept_along}
use Rattle.fjall_meta.proofs.Slots.{get_put}
use Rattle.fjall_reading.specs.Ingestions.{KeyOp}
use Rattle.fjall_engine.specs.Holding.{Held}
use Rattle.fjall_engine.specs.CallParts.{SyncedAll, WentSynced, WroteIngestion}
use Rattle.fjall_engine.specs.Crashes.{BlamesDevice, IsSync, attempt}
use Rattle.fjall_engine.specs.Durables.{Durable, Passes}
use Rattle.fjall_engine.specs.Standing.{LeadsOn, ReadsOn, StandsFor, StandsOn, SyncTook, are_journals_used_up_in, held_due, is_journal_long}
use Rattle.fjall_engine.proofs.IngestionSyncs.{LeadsSynced, StandsSynced, memory_synced, sync_keeps, sync_leads, sync_stands, synced_entries, synced_reads}
use Rattle.fjall_engine.proofs.IngestionTables.{taken_reads}
use Rattle.fjall_engine.proofs.IngestionWrites.{MayWrite, lists_made, record_planned, taken_on, write_leads}
use Rattle.fjall_engine.proofs.OwedWork.{long_agrees}
use Rattle.fjall_engine.proofs.JournalWrites.{held_on}
use Rattle.fjall_engine.proofs.RecordedTables.{recorded_ingestion}

-- An ingestion that nothing refuses was planned, and a journal has its number.
pub record IsDue (old : Held) (k : LivingKeyspace) (items : List KeyOp) (p : PlannedIngestion) : Type 0 where
  pub none : held_due old (OfIngestion k.id items) ≡ None
  pub may : MayWrite old k items p
  pub fits : items_refusal (batch_items k.id items) ≡ None
  pub left : are_journals_used_up_in old ≡ false

-- a long journal has a next one
pub next_left : (old : Held) → are_journals_used_up_in old ≡ false → is_journal_long old.journal ≡ true → old.memory.journals.active < 2 ^ 64 - 2
next_left old left long = below old.memory.journals.active (2 ^ 64 - 2) (behind_true (is_journal_long old.journal) (nat_le (2 ^ 64 - 2) old.memory.journals.active) long left)

-- it may be written still once the journal is synced
pub may_synced : (old synced : Held) (k : LivingKeyspace) (items : List KeyOp) (p : PlannedIngestion) → SyncedAll old synced → MayWrite old k items p → MayWrite synced k items p
may_synced old synced k items p at may =
    subst (λ (m : Remembered). MayWrite (record synced { memory = m }) k items p) (sym at.memory_is)
    (memory_synced (λ (m : Remembered). MayWrite (record synced { memory = m }) k items p) old
    (record { well = may.well; living = may.living; numbered = may.numbered; planned = may.planned })
    (record { well = may.well; living = may.living; numbered = may.numbered; planned = may.planned }))

-- what leads from a core's own disk, by commands that the call tried
pub leads_by : (old new : Held) (s t : State) (shape : CallShape) (reply : Reply) (tried : List Command) → attempt s shape reply ≡ tried → StaysTidy old.disk new.disk
    → ((d : Durable) → StandsOn old s.parts.entries d → IsTidy (state_in old.disk) → BlamesDevice reply old.disk new.disk)
    → ((d : Durable) → StandsOn old s.parts.entries d → (e : Durable) × StandsOn new t.parts.entries e × Passes d tried e × (IsSync s shape reply → e.pending ≡ []))
    → LeadsOn old s shape reply new t
leads_by old new s t shape reply tried is stays blames leads d on =
    let way = leads d on in
    let kinds = subst (λ (m : Meaning). StaysTidy m way.0.meaning) (sym on.same) (subst (λ (m : Meaning). StaysTidy old.disk m) (sym way.1.same) stays) in
    let device = subst (λ (m : Meaning). IsTidy (state_in m) → BlamesDevice reply m way.0.meaning) (sym on.same)
    (subst (λ (m : Meaning). IsTidy (state_in old.disk) → BlamesDevice reply old.disk m) (sym way.1.same) (blames d on)) in
    (way.0, way.1, (subst (λ (l : List Command). Passes d l way.0) (sym is) way.2, way.3, device, kinds))

-- nothing is pending where nothing was, and nothing was tried
none_left : (safe pending : List Command) → safe ++ pending ≡ [] → pending ≡ []
none_left [] pending none = none
none_left (c ∷ safe) pending none = absurd (let never : c ∷ (safe ++ pending) ≡ [] = none in cc)

pub none_after : (d e : Durable) → d.pending ≡ [] → Passes d [] e → e.pending ≡ []
none_after d e none passes = none_left passes.safe e.pending (passes.rest ∙ append-nil d.pending ∙ none)

module _ (old synced : Held) (k : LivingKeyspace) (item : KeyOp) (rest : List KeyOp) (p : PlannedIngestion) (due : IsDue old k (item ∷ rest) p)
    (at : SyncedAll old synced) (s : State) (stands : StandsFor old s) where
  abbrev items : List KeyOp
  items = item ∷ rest

  abbrev command : Command
  command = ingestion k.id (item ∷ rest)

  abbrev may : MayWrite synced k (item ∷ rest) p
  may = may_synced old synced k (item ∷ rest) p at due.may

  -- the state with its journal synced
  abbrev pub state_synced : State
  state_synced = machine.journal_synced s

  pub stands_synced : StandsFor synced state_synced
  stands_synced = sync_stands old synced s stands at

  abbrev lawful : IsLawful synced.memory
  lawful = stands_synced.remembered.lawful

  pub reads_synced : SyncTook old synced → WentSynced (is_journal_long old.journal) true old synced → ReadsOn old s → ReadsOn synced state_synced
  reads_synced took went reads = synced_reads synced s (sync_keeps old synced due.may.well (next_left old due.left) at took went s stands reads)

  pub leads_synced : (d : Durable) → WentSynced (is_journal_long old.journal) true old synced → StandsOn old s.parts.entries d → LeadsSynced state_synced.parts.entries synced d
  leads_synced d went on =
      subst (λ (e : ℕ → List (List Entry)). LeadsSynced e synced d) (sym (synced_entries s)) (sync_leads s.parts.entries old synced d due.may.well on (is_journal_long old.journal) refl at went)

  pub left_there : machine.are_journals_used_up s ≡ false
  left_there = (λ i. long_agrees old synced s stands i && nat_le (2 ^ 64 - 2) (stands.remembered.journals i).active) ∙ due.left

  -- ---- behind the ingestion

  -- the state with it
  abbrev pub state_taken : State
  state_taken = record state_synced {
    history = grown state_synced.history (plain command);
    parts = parts_ingested k.id (number state_synced.history) p.memory.tables.items p.own.tables.items (lists_made synced k items p may) p.readers.items state_synced.parts;
  }

  abbrev last : Fields
  last = last_ingested synced.memory.next (shape_in k.id synced.memory.trees) p.memory.tables.items p.own.tables.items (last_known synced.memory.records k)

  both : Ingests state_synced k.id items state_taken × memory.MemoryStandsFor (with_ingestion k.id p.readers.items last synced.memory) synced.catalog.next_table_id state_taken
  both =
      ingested_there synced.memory synced.catalog.next_table_id state_synced stands_synced.remembered k.id k may.living item rest may.numbered due.fits p.memory.tables.items p.own.tables.items
      p.readers.items may.planned.makes

  pub ingests : Ingests state_synced k.id items state_taken
  ingests = both.0

  module _ (disk : Meaning) where
    abbrev pub taken : Held
    taken = taken_on synced k items p may disk

    pub stands_taken : StandsFor taken state_taken
    stands_taken = record {
      remembered = subst (λ (l : Fields). memory.MemoryStandsFor (with_ingestion k.id p.readers.items l synced.memory) synced.catalog.next_table_id state_taken) (sym (record_planned synced k items p may))
          both.1;
      journal = stands_synced.journal;
      buffer = stands_synced.buffer;
    }

    -- the keyspace's record is the one that was planned
    own_record : state_taken.parts.records k.id ≡ view p.own.writes.record
    own_record =
        known_record taken.memory synced.catalog.next_table_id state_taken stands_taken.remembered k.id k may.living
        ∙ ap (λ (o : Option Fields). unwrap_or o (fields (first_of k.number)))
        (get_put synced.memory.records k.id (view p.own.writes.record) k.id
        ∙ ap (λ (b : Bool). cond b (Some (view p.own.writes.record)) (get synced.memory.records k.id)) (eq-eqb k.id k.id refl))

    other_record : (id : ℕ) → (id == k.id) ≡ false → state_taken.parts.records id ≡ state_synced.parts.records id
    other_record id e =
        ap (λ (b : Bool). cond b (last_ingested (number state_synced.history) (shape_in k.id state_synced.parts.trees) p.memory.tables.items p.own.tables.items (state_synced.parts.records k.id))
        (state_synced.parts.records id)) e

    pub reads_taken : ReadsOn synced state_synced → WroteIngestion p synced.disk disk true → ReadsOn taken state_taken
    reads_taken reads wrote = taken_reads synced k items p may disk state_synced stands_synced reads wrote state_taken refl refl own_record other_record (recorded_ingestion state_synced state_taken k.id items ingests reads.recorded)

    -- where the core stands on a disk without the command, it stands with it then
    pub leads_taken : (base : Store) → (on : StandsSynced synced state_synced.parts.entries base) → WroteIngestion p synced.disk disk true
        → (e : Durable) × StandsOn taken state_taken.parts.entries e × Passes (held_on synced base []) (command ∷ []) e × (e.pending ≡ [])
    leads_taken base on wrote =
        write_leads synced k items p may lawful state_synced.parts.entries base on disk wrote
        (kept_along base (present state_synced) (command ∷ []) (on.present ∙ sym stands_synced.remembered.present) ∙ ap kept (sym (latest_grown state_synced.history (plain command)))
        ∙ stands_taken.remembered.present)
