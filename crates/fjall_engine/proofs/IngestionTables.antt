-- A core's disk has the tables of its trees still, and those of an ingestion that was written.
use Rattle.std.proofs.Common.{◌≡◌, inl, inr, ℕ, ◌+◌, ◌<◌, ◌≤◌, ◌^◌, ◌==◌, Bool, true, false, cond, List, [], ◌∷◌, ◌++◌, All, get_or, length, refl, sym, ◌∙◌, ap, subst, arith, length-append}
use Rattle.std.proofs.lemmas.Bool.{eq-eqb, true≢false}
use Rattle.std.proofs.lemmas.List.Elements.{All-map, All-weaker}
use Rattle.fjall_base.specs.Disk.{Meaning}
use Rattle.fjall_table_reader.specs.Readers.{AreRead, Reader}
use Rattle.fjall_changes.proofs.KeptHomes.{within_others}
use Rattle.fjall_files.specs.Names.{table_name}
use Rattle.fjall_compaction.specs.Flushes.{record_after_flush}
use Rattle.fjall_compaction.specs.FlushPlans.{HaveFiles}
use Rattle.fjall_compaction.specs.declared.ingestion.whole.PlannedIngestion.{PlannedIngestion}
use Rattle.fjall_compaction.specs.Whole.{last_flushed, last_ingested, memory_flush}
use Rattle.fjall_jobs.specs.declared.made_table.MadeTable.{MadeTable}
use Rattle.fjall_jobs.specs.Sequences.{AreMadeTables}
use Rattle.fjall_replay.specs.Known.{AreListed, IsGiven, last_known}
use Rattle.fjall_tree.specs.Ingestions.{has_memory, ingested}
use Rattle.fjall_tree.specs.Trees.{Shape}
use Rattle.fjall_tree.proofs.Several.{read_both}
use Rattle.fjall_meta.specs.declared.living.LivingKeyspace.{LivingKeyspace}
use Rattle.fjall_machine.proofs.Flushing.{id_given, known_record}
use Rattle.fjall_machine.specs.Machine.{State, is_among}
use Rattle.fjall_machine.specs.Remembered.{IsLawful, Remembered}
use Rattle.fjall_table.specs.Blocks.{Entry}
use Rattle.fjall_table_reader.specs.Files.{entry_at}
use Rattle.fjall_manifest.specs.Records.{Fields, view}
use Rattle.fjall_trees.specs.Forests.{Planted, altered_at}
use Rattle.fjall_trees.specs.Tables.{shape_in}
use Rattle.fjall_meta.proofs.Slots.{same_id}
use Rattle.fjall_reading.specs.Ingestions.{KeyOp}
use Rattle.fjall_engine.specs.Holding.{Held}
use Rattle.fjall_engine.specs.CallParts.{WroteIngestion}
use Rattle.fjall_engine.specs.Standing.{LieAtHome, ReadsOn, StandsFor, AreRecorded}
use Rattle.fjall_engine.proofs.FlushedTables.{new_listed, none_wrong, wrong_parts}
use Rattle.fjall_engine.proofs.IngestionWrites.{MayWrite, entries_more, lists_made, record_planned, taken_on}
use Rattle.fjall_engine.proofs.TablesAtHome as at_home
use Rattle.fjall_engine.proofs.TablesAtHome.{files_read, files_wrong, kept_files, under_home}

-- tables of two lists were made, of two lists' entries
pub made_both : (xs ys : List MadeTable) (ls ms : List (List Entry)) → AreMadeTables xs ls → AreMadeTables ys ms → AreMadeTables (xs ++ ys) (ls ++ ms)
made_both [] ys [] ms one two = two
made_both [] ys (l ∷ ls) ms one two = absurd one
made_both (x ∷ xs) ys [] ms one two = absurd one
made_both (x ∷ xs) ys (l ∷ ls) ms one two = (one.0, made_both xs ys ls ms one.1 two)

module _ (core : Held) (k : LivingKeyspace) (items : List KeyOp) (p : PlannedIngestion) (may : MayWrite core k items p) where
  abbrev m : Remembered
  m = core.memory

  abbrev shape : Shape
  shape = shape_in k.id m.trees

  abbrev last : Fields
  last = last_known m.records k

  abbrev tables : List MadeTable
  tables = p.memory.tables.items ++ p.own.tables.items

  abbrev readers : List Reader
  readers = p.readers.items

  -- the ids of the tables were counted in the record that was planned
  counted_by : (some : Bool) → has_memory shape.memory ≡ some → (last_flushed shape p.memory.tables.items last).next_table_id ≡ last.next_table_id + length p.memory.tables.items
  counted_by true is = ap (λ (b : Bool). (cond b (record_after_flush (memory_flush shape p.memory.tables.items) last) last).next_table_id) is
  counted_by false is =
      let none = may.planned.nothing is in
      let zero_long : length p.memory.tables.items ≡ 0 = ap (λ (l : List MadeTable). length l) none in
      let same : (last_flushed shape p.memory.tables.items last).next_table_id ≡ last.next_table_id = ap (λ (b : Bool). (cond b (record_after_flush (memory_flush shape p.memory.tables.items) last) last).next_table_id) is in
      omega (arith, zero_long, same)

  ids_counted : (view p.own.writes.record).next_table_id ≡ last.next_table_id + length tables
  ids_counted =
      let is : (view p.own.writes.record).next_table_id ≡ (last_flushed shape p.memory.tables.items last).next_table_id + length p.own.tables.items =
      ap (λ (l : Fields). l.next_table_id) (record_planned core k items p may) in
      let first = counted_by (has_memory shape.memory) refl in
      let all = length-append p.memory.tables.items p.own.tables.items in
      omega (arith, is, first, all)

  ids_fit : last.next_table_id + length tables < 2 ^ 64
  ids_fit =
      let room : (last_ingested m.next shape p.memory.tables.items p.own.tables.items last).next_table_id < 2 ^ 64 = may.planned.own.planned.fits.room.next_table_id in
      let is : (last_ingested m.next shape p.memory.tables.items p.own.tables.items last).next_table_id ≡ (view p.own.writes.record).next_table_id =
      ap (λ (l : Fields). l.next_table_id) (sym (record_planned core k items p may)) in
      let counted = ids_counted in
      omega (arith, room, is, counted)

  -- ---- the tables that were there

  module _ (new : Meaning) (done : Bool) (s : State) (stands : StandsFor core s) (reads : ReadsOn core s) (wrote : WroteIngestion p core.disk new done) where
    lawful : IsLawful core.memory
    lawful = stands.remembered.lawful

    -- the ids of the keyspace's tables, as the state says, are those of its last record
    next_there : (s.parts.records k.id).next_table_id ≡ last.next_table_id
    next_there = ap (λ (r : Fields). r.next_table_id) (known_record core.memory core.catalog.next_table_id s stands.remembered k.id k may.living)

    -- those of the keyspace keep their files
    own_kept : (q : Planted) → q.id ≡ k.id → All (IsGiven q.id (s.parts.records q.id).next_table_id) q.shape.tables → at_home.HaveFiles core.disk new q.shape.tables
    own_kept q same named =
        All-weaker (IsGiven q.id (s.parts.records q.id).next_table_id) (λ (t : Reader). entry_at new t.name ≡ entry_at core.disk t.name)
        (λ t given.
        let at : t.name ≡ table_name k.id t.info.id = given.2 ∙ ap (λ (n : ℕ). table_name n t.info.id) same in
        let next : (s.parts.records q.id).next_table_id ≡ last.next_table_id = ap (λ (n : ℕ). (s.parts.records n).next_table_id) same ∙ next_there in
        let below = given.0 in
        ap (entry_at new) at ∙ wrote.beside shape k.id m.tickets.watermark m.next items last may.planned t.info.id (omega (arith, below, next)) given.1 ∙ sym (ap (entry_at core.disk) at))
        q.shape.tables named

    -- and each other keyspace its folder
    tables_kept : All (λ q. at_home.HaveFiles core.disk new q.shape.tables) core.memory.trees
    tables_kept = λ i d lt.
        let q = get_or core.memory.trees i d in
        by q (q.id == k.id) refl (reads.tables i d lt) (lawful.given i d lt)
      where
        by : (q : Planted) (b : Bool) → (q.id == k.id) ≡ b → LieAtHome core.disk q.id (s.parts.records q.id).next_table_id (s.parts.entries q.id) (is_among s.damaged q.id) q.shape.tables
            → q.id < core.memory.keyspaces.next → at_home.HaveFiles core.disk new q.shape.tables
        by q true e lie given = own_kept q (same_id q.id k.id e) lie.named.given
        by q false e lie given =
            let own = id_given core.memory k.id k lawful may.living in
            let fits = lawful.keyspaces.fits in
            kept_files core.disk new q.id q.shape.tables
            (within_others k.id core.disk new (omega (arith, own, fits)) (wrote.within shape k.id m.tickets.watermark m.next items last may.planned) q.id lie.positive (omega (arith, given, fits))
            (λ same. true≢false (sym (eq-eqb q.id k.id same) ∙ e)))
            (under_home q.id (s.parts.records q.id).next_table_id q.shape.tables lie.named)

    -- so all of them lie there as they did
    still_lie : (q : Planted) → at_home.HaveFiles core.disk new q.shape.tables
        → LieAtHome core.disk q.id (s.parts.records q.id).next_table_id (s.parts.entries q.id) (is_among s.damaged q.id) q.shape.tables
        → LieAtHome new q.id (s.parts.records q.id).next_table_id (s.parts.entries q.id) (is_among s.damaged q.id) q.shape.tables
    still_lie q files lie = record {
      positive = lie.positive;
      read = files_read core.disk new q.shape.tables (s.parts.entries q.id) files lie.read;
      named = lie.named;
      damage = λ wrong. lie.damage (files_wrong core.disk new q.shape.tables files wrong);
    }

    pub all_lie : at_home.LieThere new s core.memory.trees
    all_lie = λ i d lt. still_lie (get_or core.memory.trees i d) (tables_kept i d lt) (reads.tables i d lt)

  -- ---- with the new ones

  module _ (disk : Meaning) (s : State) (stands : StandsFor core s) (reads : ReadsOn core s) (wrote : WroteIngestion p core.disk disk true) where
    abbrev lists : List (List Entry)
    lists = lists_made core k items p may

    are_made : AreMadeTables tables lists
    are_made = made_both p.memory.tables.items p.own.tables.items may.planned.makes.flushed.lists may.planned.makes.are.0 may.planned.makes.flushed.made may.planned.makes.are.1

    files : HaveFiles disk k.id last.next_table_id tables
    files = wrote.files refl shape k.id m.tickets.watermark m.next items last may.planned

    read_new : AreRead disk readers lists
    read_new = may.planned.read.read disk lists are_made files

    lie_with : (q : Planted) (next : ℕ) → q.id ≡ k.id → last.next_table_id + length tables ≤ next
        → LieAtHome disk q.id (s.parts.records q.id).next_table_id (s.parts.entries q.id) (is_among s.damaged q.id) q.shape.tables
        → LieAtHome disk q.id next (s.parts.entries k.id ++ lists) (is_among s.damaged q.id) (q.shape.tables ++ readers)
    lie_with q next same more lie =
        let known = next_there disk true s stands reads wrote in
        let old_next : (s.parts.records q.id).next_table_id ≡ (s.parts.records k.id).next_table_id = ap (λ (n : ℕ). (s.parts.records n).next_table_id) same in
        record {
          positive = lie.positive;
          read = subst (λ (n : ℕ). AreRead disk (q.shape.tables ++ readers) (s.parts.entries n ++ lists)) same (read_both disk q.shape.tables readers (s.parts.entries q.id) lists lie.read read_new);
          named = subst (λ (n : ℕ). AreListed n next (q.shape.tables ++ readers)) (sym same)
              (new_listed k.id last.next_table_id next q.shape.tables tables readers (subst (λ (x : ℕ × ℕ). AreListed x.0 x.1 q.shape.tables) (λ i. (same i, (old_next ∙ known) i)) lie.named)
              may.planned.read.names may.planned.read.infos ids_fit more);
          damage = λ wrong. elim (wrong_parts disk q.shape.tables readers wrong) [
            | inl before ↦ lie.damage before
            | inr added ↦ absurd (none_wrong disk k.id last.next_table_id tables lists readers may.planned.read.names are_made files read_new added)
          ];
        }

    -- the records say so, and those of other keyspaces as before
    module _ (t : State) (entries : t.parts.entries ≡ entries_more core k items p may s.parts.entries) (damaged : t.damaged ≡ s.damaged)
        (own : t.parts.records k.id ≡ view p.own.writes.record) (others : (id : ℕ) → (id == k.id) ≡ false → t.parts.records id ≡ s.parts.records id) where
      own_next : (t.parts.records k.id).next_table_id ≡ last.next_table_id + length tables
      own_next = ap (λ (r : Fields). r.next_table_id) own ∙ ids_counted

      lies : (q : Planted) (b : Bool) → (q.id == k.id) ≡ b → LieAtHome disk q.id (s.parts.records q.id).next_table_id (s.parts.entries q.id) (is_among s.damaged q.id) q.shape.tables
          → LieAtHome disk q.id (t.parts.records q.id).next_table_id (cond b (s.parts.entries k.id ++ lists) (s.parts.entries q.id)) (is_among s.damaged q.id)
          (cond b (ingested m.next readers q.shape) q.shape).tables
      lies q true e lie =
          let same = same_id q.id k.id e in
          let next : (t.parts.records q.id).next_table_id ≡ (t.parts.records k.id).next_table_id = ap (λ (n : ℕ). (t.parts.records n).next_table_id) same in
          let most = own_next in
          lie_with q (t.parts.records q.id).next_table_id same (omega (arith, next, most)) lie
      lies q false e lie =
          subst (λ (n : ℕ). LieAtHome disk q.id n (s.parts.entries q.id) (is_among s.damaged q.id) q.shape.tables) (sym (ap (λ (r : Fields). r.next_table_id) (others q.id e))) lie

      all_there : at_home.LieThere disk t (altered_at k.id (ingested m.next readers) core.memory.trees)
      all_there =
          All-map (λ (q : Planted). LieAtHome disk q.id (t.parts.records q.id).next_table_id (t.parts.entries q.id) (is_among t.damaged q.id) q.shape.tables)
          (λ (q : Planted). record { id = q.id; shape = cond (q.id == k.id) (ingested m.next readers q.shape) q.shape }) core.memory.trees (λ i d lt.
          let q = get_or core.memory.trees i d in
          let grown = cond (q.id == k.id) (ingested m.next readers q.shape) q.shape in
          subst (λ (l : List ℕ). LieAtHome disk q.id (t.parts.records q.id).next_table_id (t.parts.entries q.id) (is_among l q.id) grown.tables) (sym damaged)
          (subst (λ (e : ℕ → List (List Entry)). LieAtHome disk q.id (t.parts.records q.id).next_table_id (e q.id) (is_among s.damaged q.id) grown.tables) (sym entries)
          (lies q (q.id == k.id) refl (all_lie disk true s stands reads wrote i d lt))))

      -- the core that has taken the ingestion has them all
      pub taken_reads : AreRecorded t.parts → ReadsOn (taken_on core k items p may disk) t
      taken_reads told = record { tables = all_there; writer = reads.writer; recorded = told }
