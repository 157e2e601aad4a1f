-- All keyspaces are known again behind a whole ingestion: one home changed.
use Rattle.std.proofs.Common.{◌≡◌, ℕ, ◌+◌, ◌<◌, ◌==◌, Bool, true, false, List, [], ◌++◌, All, map, Option, Some, unwrap_or, refl, sym, ◌∙◌, ap, subst, arith, append_assoc}
use Rattle.std.specs.FinMap.{get, insert}
use Rattle.std.specs.Option.{option_map}
use Rattle.std.proofs.lemmas.Bool.{cond-false, cond-true, eq-eqb, true≢false}
use Rattle.std.proofs.lemmas.List.{append-nil}
use Rattle.std.proofs.lemmas.List.Elements.{All-append, All-map, All-nil, All-weaker}
use Rattle.fjall_table_reader.specs.Readers.{Reader}
use Rattle.fjall_manifest.specs.Catalog.{fields, first_of}
use Rattle.fjall_meta.specs.Contents.{Stored, clears_held, is_beyond, versions_held}
use Rattle.fjall_meta.proofs.Beyond.{beyond_is_later}
use Rattle.fjall_compaction.specs.FlushFinishing.{AreTreesKnown}
use Rattle.fjall_compaction.specs.Flushes.{flushed_infos, record_after_flush, texts_of}
use Rattle.fjall_compaction.proofs.FlushAfterHomes.{both_right, new_right, versions_at}
use Rattle.fjall_compaction.proofs.FlushAfterRecords.{raised_is}
use Rattle.fjall_manifest.specs.Homes.{Home}
use Rattle.fjall_manifest.specs.Reading.{AreRight}
use Rattle.fjall_jobs.specs.declared.made_table.MadeTable.{MadeTable}
use Rattle.fjall_journal.specs.Batches.{Shown, shown}
use Rattle.fjall_replay.specs.Known.{GoesOnFrom, IsKnown, LastFields}
use Rattle.fjall_tree.specs.Ingestions.{ingested}
use Rattle.fjall_tree.specs.Trees.{Shape, clears_of}
use Rattle.fjall_tree.proofs.Several.{flat_both}
use Rattle.fjall_meta.specs.declared.living.LivingKeyspace.{LivingKeyspace}
use Rattle.fjall_meta.specs.Keyspaces.{Keyspaces}
use Rattle.fjall_memtable.specs.Parts.{HeldPart, holds_nothing}
use Rattle.fjall_recovery.specs.Halves.{Tree}
use Rattle.fjall_recovery.specs.Homes.{stored_at, stored_in, stored_of}
use Rattle.fjall_recovery.specs.Journals.{batches_in}
use Rattle.fjall_recovery.specs.Places.{Journaling, journals_with}
use Rattle.fjall_recovery.proofs.Storing.{stored_inserted}
use Rattle.fjall_replay.specs.Beside.{AreReplayedWith, ShowsWith}
use Rattle.fjall_memtable.specs.Sorted.{flat}
use Rattle.fjall_table.specs.Blocks.{Entry}
use Rattle.fjall_manifest.specs.Records.{Fields}
use Rattle.fjall_trees.specs.Forests.{Forest, altered_at, tree_at}
use Rattle.fjall_trees.specs.Tables.{entries_with}
use Rattle.fjall_trees.proofs.Others.{altered_here, altered_other}
use Rattle.fjall_trees.proofs.Reading.{entries_here}
use Rattle.fjall_meta.proofs.Slots.{get_put, same_id}
use Rattle.fjall_memtable.specs.Views.{value_at}
use Rattle.fjall_memtable.proofs.Tests.{all_of}
use Rattle.fjall_reading.specs.Ingestions.{KeyOp}
use Rattle.fjall_compaction.specs.Ingests.{as_flush, home_with, tree_with, version_of, versions_made}
use Rattle.fjall_compaction.specs.IngestionPlans.{AreIngestionTables}
use Rattle.fjall_compaction.proofs.Numbers.{is_later}
use Rattle.fjall_compaction.proofs.Storing.{same_memory}
use Rattle.fjall_compaction.proofs.WholeBetween.{IsBetween}

module _ (j : Journaling) (t : Tree) (trees : Forest) (entries : ℕ → List (List Entry)) (records : LastFields) (are : AreTreesKnown j t trees entries records) (id n : ℕ) (shape : Shape)
    (has : tree_at id trees ≡ Some shape) (last : Fields) (lists : List (List Entry)) (m : Tree) (h : Home) (versions : List Entry)
    (between : IsBetween j t id n last (clears_of shape) (flat (entries id) ++ flat lists) m h versions) (items : List KeyOp) (made : List MadeTable) (tables : AreIngestionTables n items made)
    (readers : List Reader) (right : AreRight h.last.tables h.texts (entries id ++ lists))
    (infos : map (λ (r : Reader). r.info) (shape.tables ++ readers) ≡ h.last.tables ++ flushed_infos h.last.next_table_id made) where
  abbrev batches : List Shown
  batches = map shown (batches_in (journals_with j j.later))

  abbrev more : List (List Entry)
  more = entries id ++ (lists ++ tables.0)

  abbrev stored : List Entry
  stored = versions ++ versions_made n items

  abbrev home : Home
  home = home_with n made h

  abbrev next : Tree
  next = tree_with id n items made h versions m

  abbrev after : Forest
  after = altered_at id (ingested n readers) trees

  abbrev entries_after : ℕ → List (List Entry)
  entries_after = entries_with id more entries

  abbrev records_after : LastFields
  records_after = insert records id (record_after_flush (as_flush n made) last)

  abbrev shape_after : Shape
  shape_after = ingested n readers shape

  -- what a tree shows with its tables, before it and behind it
  abbrev Shown_at : ℕ → Shape → Type 0
  Shown_at other s =
      ShowsWith (entries other) (clears_held m.keyspaces (stored_in t.homes t.versions other) other batches) (versions_held m.keyspaces (stored_in t.homes t.versions other) other batches) s

  abbrev Shown_after : ℕ → Shape → Type 0
  Shown_after other s =
      ShowsWith (entries_after other) (clears_held m.keyspaces (stored_in next.homes next.versions other) other batches) (versions_held m.keyspaces (stored_in next.homes next.versions other) other batches) s

  -- ---- the keyspace itself

  tree_after_it : tree_at id after ≡ Some shape_after
  tree_after_it = altered_here id (ingested n readers) trees ∙ ap (option_map (ingested n readers)) has

  all_entries : flat more ≡ stored
  all_entries =
      flat_both (entries id) (lists ++ tables.0)
      ∙ ap (λ (l : List Entry). flat (entries id) ++ l) (flat_both lists tables.0 ∙ ap (λ (l : List Entry). flat lists ++ l) tables.3)
      ∙ sym (append_assoc (flat (entries id)) (flat lists) (versions_made n items))
      ∙ ap (λ (l : List Entry). l ++ versions_made n items) between.stored_are

  -- the clears in the record are all that there were
  all_clears : clears_of shape ≡ h.last.clears ++ []
  all_clears = between.clears_are ∙ sym (append-nil h.last.clears)

  later : is_beyond h.last.persisted n ≡ true
  later = is_later j m id n h versions between.may.come

  -- what its tables have then is numbered up to the ingestion's number
  low : All (λ v. v.number < n + 1) stored
  low =
      let own = versions_at m id h versions between.may.come.at between.may.come.have in
      All-append (λ (v : Entry). v.number < n + 1) versions (versions_made n items)
      (All-weaker (λ (v : Entry). is_beyond h.last.persisted v.number ≡ false) (λ v. v.number < n + 1)
      (λ v within. let lt = beyond_is_later h.last.persisted v.number n within later in omega (arith, lt)) versions own.within.0)
      (All-map (λ (v : Entry). v.number < n + 1) (version_of n) items (all_of (λ (item : KeyOp). n < n + 1) items (λ item. omega arith)))

  shows_after : ShowsWith more (clears_held m.keyspaces (stored_of home stored) id batches) (versions_held m.keyspaces (stored_of home stored) id batches) shape_after
  shows_after = record {
    below = subst (All (λ (v : Entry). v.number < n + 1)) (sym all_entries) low;
    shows = λ key instant. (λ i. value_at key instant (all_clears i ++ []) (all_entries i ++ [])) ∙ same_memory j m id n items made h versions between.may.come key instant;
  }

  here_after : Shown_after id shape_after
  here_after =
      let is = stored_inserted m.homes m.versions id home stored id ∙ cond-true (id == id) (stored_of home stored) (stored_in m.homes m.versions id) (eq-eqb id id refl) in
      subst (λ (st : Stored). ShowsWith (entries_after id) (clears_held m.keyspaces st id batches) (versions_held m.keyspaces st id batches) shape_after) (sym is)
      (subst (λ (l : List (List Entry)). ShowsWith l (clears_held m.keyspaces (stored_of home stored) id batches) (versions_held m.keyspaces (stored_of home stored) id batches) shape_after)
      (sym (entries_here id more entries)) shows_after)

  -- these are what its tables hold
  right_after : AreRight home.last.tables home.texts more
  right_after =
      let own = flushed_infos h.last.next_table_id made in
      subst (λ (l : List (List Entry)). AreRight (h.last.tables ++ own) (h.texts ++ texts_of made) l) (append_assoc (entries id) lists tables.0)
      (both_right h.last.tables own h.texts (texts_of made) (entries id ++ lists) tables.0 right (new_right h.last.next_table_id made tables.0 tables.1))

  -- its tree goes on from the record behind the ingestion
  goes_after : GoesOnFrom (record_after_flush (as_flush n made) h.last) shape_after
  goes_after = record {
    tables = infos;
    clears = all_clears;
    beyond = let e = raised_is h.last.persisted n later in omega (arith, e);
    some = All-nil (λ (p : HeldPart). holds_nothing p ≡ false);
  }

  -- ---- the others

  other_after : (other : ℕ) (s : Shape) → (other == id) ≡ false → Shown_at other s → Shown_after other s
  other_after other s differ there =
      let is = stored_inserted m.homes m.versions id home stored other
      ∙ cond-false (other == id) (stored_of home stored) (stored_in m.homes m.versions other) differ
      ∙ (λ i. stored_at (between.homes other differ i) (between.others other differ i)) in
      subst (λ (st : Stored). ShowsWith (entries_after other) (clears_held m.keyspaces st other batches) (versions_held m.keyspaces st other batches) s) (sym is)
      (subst
      (λ (l : List (List Entry)). ShowsWith l (clears_held m.keyspaces (stored_in t.homes t.versions other) other batches) (versions_held m.keyspaces (stored_in t.homes t.versions other) other batches) s)
      (sym (cond-false (other == id) more (entries other) differ)) there)

  other_tree : (other : ℕ) → (other == id) ≡ false → tree_at other after ≡ tree_at other trees
  other_tree other differ = altered_other id other (ingested n readers) trees (λ same. true≢false (sym (eq-eqb other id same) ∙ differ))

  -- ---- all of them

  replayed_before : AreReplayedWith entries m.keyspaces (stored_in t.homes t.versions) batches trees
  replayed_before = subst (λ (s : Keyspaces). AreReplayedWith entries s (stored_in t.homes t.versions) batches trees) (sym between.keyspaces) are.replayed

  known_before : All (IsKnown records trees entries t.homes t.versions) m.keyspaces.living
  known_before = subst (λ (s : Keyspaces). All (IsKnown records trees entries t.homes t.versions) s.living) (sym between.keyspaces) are.known

  replayed_after : AreReplayedWith entries_after next.keyspaces (stored_in next.homes next.versions) batches after
  replayed_after =
      All-weaker (λ (i : LivingKeyspace). (s : Shape) × (tree_at i.id trees ≡ Some s) × Shown_at i.id s) (λ i. (s : Shape) × (tree_at i.id after ≡ Some s) × Shown_after i.id s)
      (λ i there. by i.id there (i.id == id) refl) m.keyspaces.living replayed_before
    where
      by : (other : ℕ) → (s : Shape) × (tree_at other trees ≡ Some s) × Shown_at other s → (b : Bool) → (other == id) ≡ b → (s : Shape) × (tree_at other after ≡ Some s) × Shown_after other s
      by other there true same = subst (λ i. (s : Shape) × (tree_at i after ≡ Some s) × Shown_after i s) (sym (same_id other id same)) (shape_after, tree_after_it, here_after)
      by other there false differ = (there.0, other_tree other differ ∙ there.1, other_after other there.0 differ there.2)

  known_after : All (IsKnown records_after after entries_after next.homes next.versions) next.keyspaces.living
  known_after =
      All-weaker (IsKnown records trees entries t.homes t.versions) (IsKnown records_after after entries_after next.homes next.versions) (λ i known. by i known (i.id == id) refl)
      m.keyspaces.living known_before
    where
      record_here : record_after_flush (as_flush n made) last ≡ home.last
      record_here = ap (record_after_flush (as_flush n made)) between.last_is

      by : (i : LivingKeyspace) → IsKnown records trees entries t.homes t.versions i → (b : Bool) → (i.id == id) ≡ b → IsKnown records_after after entries_after next.homes next.versions i
      by i known true same = record {
        h = home;
        home = get_put m.homes id home i.id ∙ cond-true (i.id == id) (Some home) (get m.homes i.id) same;
        right = subst (λ (l : List (List Entry)). AreRight home.last.tables home.texts l) (sym (cond-true (i.id == id) more (entries i.id) same)) right_after;
        stored = get_put m.versions id stored i.id
            ∙ cond-true (i.id == id) (Some stored) (get m.versions i.id) same
            ∙ ap (λ (l : List Entry). Some l) (sym all_entries ∙ ap flat (sym (cond-true (i.id == id) more (entries i.id) same)));
        last = ap (λ (o : Option Fields). unwrap_or o (fields (first_of i.number)))
            (get_put records id (record_after_flush (as_flush n made) last) i.id ∙ cond-true (i.id == id) (Some (record_after_flush (as_flush n made) last)) (get records i.id) same)
            ∙ record_here;
        shape = shape_after;
        tree = subst (λ q. tree_at q after ≡ Some shape_after) (sym (same_id i.id id same)) tree_after_it;
        goes_on = goes_after;
      }
      by i known false differ = record {
        h = known.h;
        home = get_put m.homes id home i.id ∙ cond-false (i.id == id) (Some home) (get m.homes i.id) differ ∙ between.homes i.id differ ∙ known.home;
        right = subst (λ (l : List (List Entry)). AreRight known.h.last.tables known.h.texts l) (sym (cond-false (i.id == id) more (entries i.id) differ)) known.right;
        stored = get_put m.versions id stored i.id
            ∙ cond-false (i.id == id) (Some stored) (get m.versions i.id) differ
            ∙ between.others i.id differ
            ∙ known.stored
            ∙ ap (λ (l : List (List Entry)). Some (flat l)) (sym (cond-false (i.id == id) more (entries i.id) differ));
        last = ap (λ (o : Option Fields). unwrap_or o (fields (first_of i.number)))
            (get_put records id (record_after_flush (as_flush n made) last) i.id ∙ cond-false (i.id == id) (Some (record_after_flush (as_flush n made) last)) (get records i.id) differ)
            ∙ known.last;
        shape = known.shape;
        tree = other_tree i.id differ ∙ known.tree;
        goes_on = known.goes_on;
      }

  pub are_known : AreTreesKnown j next after entries_after records_after
  are_known = record { replayed = replayed_after; known = known_after }
