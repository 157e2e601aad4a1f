-- What calls make of what is held stands for what they make of states.
use Rattle.std.proofs.Common.{◌≡◌, ◌≢◌, ◌⊎◌, ⊎_elim, inl, inr, ℕ, ◌+◌, ◌-◌, ◌<◌, ◌≤◌, ◌^◌, ◌==◌, ◌||◌, ◌&&◌, ◌↔◌, not, nat_le, Bool, true, false, cond, if◌then◌else◌, List, [], ◌∷◌, ◌++◌, length, map, All, Option, None, Some, unwrap_or, refl, sym, ap, subst, ◌∙◌, arith}
use Rattle.std.proofs.lemmas.Bool.{true≢false, false_from_ne_true}
use Rattle.std.proofs.lemmas.List.Elements.{All-filter, All-push, All-weaker}
use Rattle.std.proofs.lemmas.Option.{none-some}
use Rattle.std.specs.FinMap.{FinMap, contains_key, empty, get, get-empty, insert, len, remove, values}
use Rattle.std.specs.Ordering.{nat_cmp}
use Rattle.std.specs.Option.{is_some, option_map}
use Rattle.fjall_base.specs.Pairs.{Bytes, Pairs}
use Rattle.fjall_base.specs.Store.{Command, Create, Delete, Store, apply, kept, map_at}
use Rattle.fjall_base.specs.declared.error.Error.{Error}
use Rattle.fjall_base.specs.declared.error.Error.TheVariants.{KeyspaceDeleted, SnapshotClosed, UnknownKeyspace}
use Rattle.fjall_journal.specs.Changes.{Change, Emptied, Items, command_of}
use Rattle.fjall_journal.specs.Ops.{BatchItem, write_of}
use Rattle.fjall_meta.specs.declared.living.LivingKeyspace.{LivingKeyspace}
use Rattle.fjall_meta.specs.Keyspaces.{id_of, is_name, keyspace_at}
use Rattle.fjall_options.specs.Options.{AreOptions}
use Rattle.fjall_meta.specs.Replays.{option_pairs}
use Rattle.fjall_meta.proofs.Kept.{kept_along}
use Rattle.fjall_meta.proofs.LivingContents.{found_other, found_without, none_found}
use Rattle.fjall_meta.proofs.Naming.{names_answer}
use Rattle.fjall_meta.proofs.Slots.{get_put, same_id}
use Rattle.fjall_manifest.specs.Catalog.{fields, first_of}
use Rattle.fjall_replay.specs.Known.{last_known}
use Rattle.fjall_manifest.specs.Records.{Fields}
use Rattle.fjall_trees.specs.Forests.{Forest, Planted}
use Rattle.fjall_trees.specs.Forests as forests
use Rattle.fjall_trees.specs.Writes.{MayPush, with_tree}
use Rattle.fjall_table.specs.Blocks.{Entry}
use Rattle.fjall_tree.specs.Puts.{bare_tree}
use Rattle.fjall_tree.specs.Trees.{emptied, sealed_off}
use Rattle.fjall_trees.specs.Tables.{AreSameTrees, shape_in}
use Rattle.fjall_trees.proofs.Same.{same_trees}
use Rattle.fjall_trees.specs.Maps.{pairs_in, store_of}
use Rattle.fjall_trees.specs.MapTables.{AreOlder, pairs_with, store_with}
use Rattle.fjall_history.specs.declared.ticket.View.{View}
use Rattle.fjall_history.specs.declared.ticket.View.TheVariants.{Present, At}
use Rattle.fjall_history.specs.Histories.{grown, latest, number, plain, view}
use Rattle.fjall_history.specs.Tickets.{Tickets, closed, collected, is_open, no_tickets, opened}
use Rattle.fjall_machine.specs.Shapes.{CallShape, OfChange, OfCount, OfCreation, OfDeletion, OfFlushBegin, OfFlushFinish, OfHandle, OfIngestion, OfJournalRotation, OfMaintenance, OfMergeBegin, OfMergeFinish, OfPersist, OfRead, OfRotation, OfTickets, OneLess, OneMore, Persistence}
use Rattle.fjall_machine.specs.Allowed.{FitsBatch, IsOfLiving}
use Rattle.fjall_journal.specs.Writer.{counted}
use Rattle.fjall_files.specs.Journals.{next_journal}
use Rattle.fjall_machine.specs.Machine as machine
use Rattle.fjall_machine.specs.Machine.{Facts, IsPoisoned, Parts, State, accepted, changed, created, deleted, HasLongOption, due, due_in, facts, first_due, handles_of, names_one, instant_of, is_among, is_deleted, is_living, is_read, is_unknown, maps_in, one_less, one_more, opened_state, present, read_refusals, records_with, rotates, view_refusals, with_marks, without_id}
use Rattle.fjall_machine.specs.Remembered.{AreBeside, IsLawful, IsReadAt, MemoryStandsFor, Remembered, facts_of, instant_in, is_held, is_last_in_memory, journal_rotated_in_memory, poisoned, released_in_memory, retained, rotated_in_memory, with_change, with_creation, with_deletion, with_tickets, with_trees}
use Rattle.fjall_machine.proofs.Facts.{counted_is, living_names, named_is, names_are, none_named, some_there}
use Rattle.fjall_machine.proofs.Lawful.{after_release, alike, both_all, change_is_lawful, creation_is_lawful, deletion_is_lawful, gone_is_none, itself, last_gone, may_push, other_kept, other_left, others, others_live, put_here, poisoned_is_lawful, read_is_lawful, released_is_lawful, retained_is_lawful, rotated_is_lawful, tickets_are_lawful, IsTime, time_closed, time_collected, time_opened, tree_there}
use Rattle.fjall_trees.proofs.Commands.{deleted_by}
use Rattle.fjall_trees.proofs.Alike.{same_older, same_pairs, same_store_with}
use Rattle.fjall_trees.proofs.MapReading.{above_with, nothing_with}
use Rattle.fjall_trees.proofs.Emptied.{clear_early, clear_late, clear_with}
use Rattle.fjall_trees.proofs.Older.{dropped_older, emptied_older, planted_older, pushed_older, rotated_older}
use Rattle.fjall_trees.proofs.Pushed.{early_with, late_with, write_with}
use Rattle.fjall_trees.proofs.Planted.{creation_with, no_tree, planted_with}
use Rattle.fjall_trees.proofs.Dropped.{dropped_each, dropped_store_with, dropped_with}
use Rattle.fjall_trees.proofs.Rotated.{rotated_store_with, rotated_with}
use Rattle.fjall_trees.proofs.Stores.{held_by as stored_by, kept_by, reads_by}
use Rattle.fjall_machine.proofs.SameTrees.{all_same, along, altered_tables, none_before, pushed_tables, same_changed, same_dropped, same_planted, same_rotated}
use Rattle.fjall_machine.proofs.Showing.{bare_pairs}
use Rattle.fjall_machine.proofs.Viewing.{GoesOn, among-append, among_without, Ways, held_by, it_lasts, it_lives, it_waits, latest_grown, number_grown, present_map, view_latest, views_go_on, ways}

-- ---- what refusals look at

-- of the store they look at names and at the next id
abbrev names_alone : Facts → Facts
names_alone f = record f { store = record f.store { maps = empty; options = empty } }

names_due : (f : Facts) (shape : CallShape) → due_in f shape ≡ due_in (names_alone f) shape
names_due f (OfChange (Items []) how) = refl
names_due f (OfChange (Items (item ∷ items)) how) = refl
names_due f (OfChange (Emptied id) how) = refl
names_due f (OfIngestion id []) = refl
names_due f (OfIngestion id (item ∷ items)) = refl
names_due f (OfCreation name options) = refl
names_due f (OfDeletion id) = refl
names_due f (OfHandle OneMore id) = refl
names_due f (OfHandle OneLess id) = refl
names_due f (OfRotation id) = refl
names_due f OfJournalRotation = refl
names_due f (OfFlushBegin id) = refl
names_due f (OfFlushFinish job) = refl
names_due f (OfMergeBegin kind id) = refl
names_due f (OfMergeFinish job) = refl
names_due f OfMaintenance = refl
names_due f (OfRead Present id query) = refl
names_due f (OfRead (At ticket) id query) = refl
names_due f (OfTickets call) = refl
names_due f (OfPersist mode) = refl
names_due f (OfCount count) = refl

pub facts_agree : (m : Remembered) (table : ℕ) (s : State) → MemoryStandsFor m table s → (shape : CallShape) → due s shape ≡ due_in (facts_of m table) shape
facts_agree m table s stands shape =
    names_due (facts s) shape
    ∙ (λ i. due_in (record {
      store = record { names = (stands.present i).names; maps = empty; options = empty; next = (stands.present i).next };
      next = stands.number i;
      poisoned = stands.poisoned i;
      lasting = stands.lasting i;
      handles = stands.handles i;
      tickets = stands.tickets i;
      table = stands.next_table i;
      active = (stands.journals i).active;
    }) shape)
    ∙ sym (names_due (facts_of m table) shape)

pub same_names : (m : Remembered) (table : ℕ) (s : State) → MemoryStandsFor m table s → (present s).names ≡ (store_of m.keyspaces m.trees).names
same_names m table s stands = ap (λ (t : Store). t.names) stands.present

-- ---- one command more

kept_after : (m : Remembered) (table : ℕ) (s : State) → MemoryStandsFor m table s → (c : Command) → kept (latest (grown s.history (plain c))) ≡ kept (apply (store_with s.parts.entries m.keyspaces m.trees) c)
kept_after m table s stands c = ap kept (latest_grown s.history (plain c)) ∙ kept_along (present s) (store_with s.parts.entries m.keyspaces m.trees) (c ∷ []) stands.present

one_number_more : (m : Remembered) (table : ℕ) (s : State) → MemoryStandsFor m table s → (c : Command) → number (grown s.history (plain c)) ≡ m.next + 1
one_number_more m table s stands c = number_grown s.history (plain c) ∙ ap (λ n. n + 1) stands.number

-- ---- a change

-- what is above the last number shows what stands below it
still_shown : (m : Remembered) (entries : ℕ → List (List Entry)) → IsLawful m → AreOlder m.trees entries → (id : ℕ) → pairs_with entries id m.next m.trees ≡ pairs_with entries id (m.next + 1) m.trees
still_shown m entries is older id = sym (above_with entries m.next m.trees is.forest older is.below id (m.next + 1) (omega arith))

-- a keyspace whose id was not given out yet has nothing
waits_empty : (m : Remembered) (entries : ℕ → List (List Entry)) (trees : Forest) → All (λ k. k.id < m.keyspaces.next) trees → (id instant : ℕ) → m.keyspaces.next ≤ id → pairs_with entries id instant trees ≡ empty
waits_empty m entries trees given id instant le = nothing_with entries id instant trees (no_tree id trees (All-weaker (λ (k : Planted). k.id < m.keyspaces.next) (λ k. k.id < id) (λ k h. omega (arith, h, le)) trees given))

-- what tables hold stays beside memory under a change
changed_beside : (m : Remembered) (entries : ℕ → List (List Entry)) (change : Change) → AreBeside m entries → AreBeside (with_change change m) entries
changed_beside m entries (Items items) is = record {
  older = pushed_older m.next items m.trees entries is.older;
  none = pushed_tables (λ id tables. tables ≡ [] → entries id ≡ []) m.trees is.none m.next items;
  unused = is.unused;
}
changed_beside m entries (Emptied id) is = record {
  older = emptied_older m.next id m.trees entries is.older;
  none = altered_tables (λ q tables. tables ≡ [] → entries q ≡ []) m.trees is.none id (emptied m.next) (λ shape. refl);
  unused = is.unused;
}

-- a change that what is held goes on by is one of the state
after_change : (m : Remembered) (table : ℕ) (s : State) (stands : MemoryStandsFor m table s) (change : Change) → GoesOn m (with_change change m) table s stands (command_of change)
    → kept (apply (store_with s.parts.entries m.keyspaces m.trees) (command_of change)) ≡ store_with s.parts.entries m.keyspaces (changed m.next change m.trees) → IsLawful (with_change change m)
    → (journal buffer : ℕ)
    → MemoryStandsFor (with_change change m) table (record s {
      history = grown s.history (plain (command_of change));
      parts = record s.parts { journals = with_marks (number s.history) change s.parts.journals; journal = journal; buffer = buffer; trees = changed (number s.history) change s.parts.trees };
    })
after_change m table s stands change on store is journal buffer = record {
  present = kept_after m table s stands (command_of change) ∙ store ∙ sym (kept_by (λ q. pairs_with s.parts.entries q (2 ^ 63) (changed m.next change m.trees)) m.keyspaces);
  views = views_go_on m (with_change change m) table s stands (command_of change) on;
  number = one_number_more m table s stands (command_of change);
  poisoned = stands.poisoned;
  handles = stands.handles;
  lasting = stands.lasting;
  tickets = stands.tickets;
  next_job = stands.next_job;
  merges_done = stands.merges_done;
  records = stands.records;
  next_table = stands.next_table;
  trees = subst (λ n. AreSameTrees (changed n change s.parts.trees) (changed m.next change m.trees)) (sym stands.number) (same_changed m.next change s.parts.trees m.trees stands.trees);
  beside = changed_beside m s.parts.entries change stands.beside;
  journals = λ i. with_marks (stands.number i) change (stands.journals i);
  lawful = is;
}

module _ (m : Remembered) (table : ℕ) (s : State) (stands : MemoryStandsFor m table s) (items : List BatchItem) (living : All (λ item. is_living (store_of m.keyspaces m.trees) item.0 ≡ true) items) (may : MayPush m.next items m.trees) where
  pub living_items : All (λ item. is_some (keyspace_at item.0 m.keyspaces.living) ≡ true) items
  living_items =
      All-weaker (λ (item : BatchItem). is_living (store_of m.keyspaces m.trees) item.0 ≡ true) (λ item. is_some (keyspace_at item.0 m.keyspaces.living) ≡ true)
      (λ item h. sym (living_names m.keyspaces m.trees item.0) ∙ h) items living

  planted_items : All (λ item. is_some (forests.tree_at item.0 m.trees) ≡ true) items
  planted_items =
      All-weaker (λ (item : BatchItem). is_some (keyspace_at item.0 m.keyspaces.living) ≡ true) (λ item. is_some (forests.tree_at item.0 m.trees) ≡ true)
      (λ item h. tree_there m.keyspaces m.trees stands.lawful.planted item.0 h) items living_items

  pub items_go_on : GoesOn m (with_change (Items items) m) table s stands (write_of items)
  items_go_on = record {
    next = refl;
    tickets = refl;
    held = λ id held. held;
    early = λ instant id le held. early_with s.parts.entries m.next items m.trees may id instant le;
    late = λ id held. late_with s.parts.entries m.next items m.trees may stands.beside.older planted_items (present s) id (present_map m table s stands id held);
  }

clear_goes_on : (m : Remembered) (table : ℕ) (s : State) (stands : MemoryStandsFor m table s) (id : ℕ) → GoesOn m (with_change (Emptied id) m) table s stands (command_of (Emptied id))
clear_goes_on m table s stands id =
    let is = stands.lawful in
    record {
      next = refl;
      tickets = refl;
      held = λ other held. held;
      early = λ instant other le held. clear_early s.parts.entries m.next id m.trees other instant le;
      late = λ other held. clear_late s.parts.entries m.next id m.trees is.forest stands.beside.older is.below (present s) other (present_map m table s stands other held);
    }

-- what a change makes of a state stands for what it makes of what is held
change_made : (m : Remembered) (table : ℕ) (s : State) → MemoryStandsFor m table s → (change : Change) (how : Persistence) → IsOfLiving (store_of m.keyspaces m.trees) change → FitsBatch change → m.next < 2 ^ 63
    → MemoryStandsFor (with_change change m) table (machine.made s change how)
change_made m table s stands (Items items) how living fits small =
    let may = may_push items m stands.lawful small fits in
    let store = write_with s.parts.entries m.next items m.trees may stands.beside.older m.keyspaces stands.lawful.planted (living_items m table s stands items living may) in
    after_change m table s stands (Items items) (items_go_on m table s stands items living may) store (change_is_lawful (Items items) m stands.lawful small fits)
    (machine.made s (Items items) how).parts.journal (machine.made s (Items items) how).parts.buffer
change_made m table s stands (Emptied id) how living fits small =
    let is = stands.lawful in
    let store = clear_with s.parts.entries m.next id m.trees is.forest stands.beside.older is.below small m.keyspaces in
    after_change m table s stands (Emptied id) (clear_goes_on m table s stands id) store (change_is_lawful (Emptied id) m is small tt) (machine.made s (Emptied id) how).parts.journal (machine.made s (Emptied id) how).parts.buffer

pub a_change_stands : (m : Remembered) (table : ℕ) (s : State) → MemoryStandsFor m table s → (change : Change) (how : Persistence) → change ≢ Items [] → IsOfLiving (store_of m.keyspaces m.trees) change
    → FitsBatch change → m.next < 2 ^ 63 → MemoryStandsFor (with_change change m) table (accepted s change how)
a_change_stands m table s stands (Items []) how some living fits small = absurd (some refl)
a_change_stands m table s stands (Items (item ∷ items)) how some living fits small = change_made m table s stands (Items (item ∷ items)) how living fits small
a_change_stands m table s stands (Emptied id) how some living fits small = change_made m table s stands (Emptied id) how living fits small

-- ---- a rotation

-- what is shown stays, and the watermark is raised
pub a_rotation_stands : (m : Remembered) (table : ℕ) (s : State) → MemoryStandsFor m table s → (id : ℕ) → MemoryStandsFor (rotated_in_memory id m) table (machine.rotated s id)
a_rotation_stands m table s stands id = record {
  present = stands.present ∙ ap kept (sym (rotated_store_with s.parts.entries id m.keyspaces m.trees));
  views = λ instant at other held. stands.views instant at other held ∙ sym (rotated_with s.parts.entries id other instant m.trees);
  number = stands.number;
  poisoned = stands.poisoned;
  handles = stands.handles;
  lasting = stands.lasting;
  tickets = λ i. collected (stands.number i) (stands.tickets i);
  next_job = stands.next_job;
  merges_done = stands.merges_done;
  records = stands.records;
  next_table = stands.next_table;
  trees = same_rotated id s.parts.trees m.trees stands.trees;
  beside = record {
    older = rotated_older id m.trees s.parts.entries stands.beside.older;
    none = altered_tables (λ q tables. tables ≡ [] → s.parts.entries q ≡ []) m.trees stands.beside.none id sealed_off (λ shape. refl);
    unused = stands.beside.unused;
  };
  journals = stands.journals;
  lawful = rotated_is_lawful id m stands.lawful;
}

-- ---- a creation

created_map : (maps : FinMap nat_cmp Pairs) (next : ℕ) (shown : ℕ → Pairs) → shown next ≡ empty → (id : ℕ) → map_at maps id ≡ shown id → map_at (insert maps next empty) id ≡ shown id
created_map maps next shown none id same =
    ap (λ slot. unwrap_or slot empty) (get_put maps next empty id) ∙ in_slot (id == next) (get maps id) ∙ either (id == next) refl
  where
    in_slot : (b : Bool) (slot : Option Pairs) → unwrap_or (cond b (Some empty) slot) empty ≡ cond b empty (unwrap_or slot empty)
    in_slot true slot = refl
    in_slot false slot = refl

    either : (b : Bool) → (id == next) ≡ b → cond b empty (map_at maps id) ≡ shown id
    either true e = sym none ∙ ap shown (sym (same_id id next e))
    either false e = same

module _ (m : Remembered) (table : ℕ) (s : State) (stands : MemoryStandsFor m table s) (name : Bytes) (options : List Bytes) where
  abbrev k : LivingKeyspace
  k = record { id = m.keyspaces.next; number = m.next; name = name; options = options }

  created_ways : (id : ℕ) → Ways (with_creation name options m) id → Ways m id
  created_ways id (it_lives e) = either (m.keyspaces.next == id) refl
    where
      either : (b : Bool) → (m.keyspaces.next == id) ≡ b → Ways m id
      either true same = it_waits (let at = same_id m.keyspaces.next id same in omega (arith, at))
      either false other = it_lives (ap is_some (sym (found_other m.keyspaces.living k id other)) ∙ e)
  created_ways id (it_lasts e) = it_lasts e
  created_ways id (it_waits le) = it_waits (omega (arith, le))

  created_goes_on : GoesOn m (with_creation name options m) table s stands (Create name (option_pairs options))
  created_goes_on =
      let is = stands.lawful in
      let next : (present s).next ≡ m.keyspaces.next = ap (λ (t : Store). t.next) stands.present in
      let none = waits_empty m s.parts.entries m.trees is.given m.keyspaces.next m.next (omega arith) in
      let unused = stands.beside.unused m.keyspaces.next (omega arith) in
      let held = λ (id : ℕ) (h : is_held (with_creation name options m) id ≡ true). held_by m id (created_ways id (ways (with_creation name options m) id h)) in
      record {
        next = refl;
        tickets = refl;
        held = held;
        early = λ instant id le h. planted_with s.parts.entries m.keyspaces.next m.next m.trees unused id instant;
        late = λ id h. ap (λ n. map_at (insert (present s).maps n empty) id) next
            ∙ created_map (present s).maps m.keyspaces.next (λ i. pairs_with s.parts.entries i m.next m.trees) none id (present_map m table s stands id (held id h))
            ∙ still_shown m s.parts.entries is stands.beside.older id ∙ sym (planted_with s.parts.entries m.keyspaces.next m.next m.trees unused id (m.next + 1));
      }

  -- the keyspace's record is its first, and the others stay
  created_records : All (λ j. records_with (present s).next (fields (first_of (number s.history))) s.parts.records j.id ≡ last_known (insert m.records m.keyspaces.next (fields (first_of m.next))) j)
      (with_creation name options m).keyspaces.living
  created_records =
      let first = fields (first_of m.next) in
      let at = λ (i : ℕ) (n : ℕ) (j : LivingKeyspace). records_with i (fields (first_of n)) s.parts.records j.id ≡ last_known (insert m.records m.keyspaces.next first) j in
      let old = All-weaker (λ (j : LivingKeyspace). (s.parts.records j.id ≡ last_known m.records j) × (j.id ≢ m.keyspaces.next)) (at m.keyspaces.next m.next)
      (λ j both. ap (λ (b : Bool). cond b first (s.parts.records j.id)) (others j.id m.keyspaces.next both.1) ∙ both.0 ∙ ap (λ (o : Option Fields). unwrap_or o (fields (first_of j.number)))
      (sym (other_kept m.records m.keyspaces.next first j.id both.1)))
      m.keyspaces.living
      (both_all (λ j. s.parts.records j.id ≡ last_known m.records j) (λ j. j.id < m.keyspaces.next) (λ j. (s.parts.records j.id ≡ last_known m.records j) × (j.id ≢ m.keyspaces.next))
      (λ j known lt. (known, λ same. absurd (omega (arith, lt, same)))) m.keyspaces.living stands.records stands.lawful.keyspaces.given) in
      let new : at m.keyspaces.next m.next k =
      ap (λ (b : Bool). cond b first (s.parts.records m.keyspaces.next)) (itself m.keyspaces.next) ∙ ap (λ (o : Option Fields). unwrap_or o first) (sym (put_here m.records m.keyspaces.next first)) in
      subst (λ (n : ℕ × ℕ). All (at n.0 n.1) (with_creation name options m).keyspaces.living) (sym (λ i. ((stands.present i).next, stands.number i))) (All-push (at m.keyspaces.next m.next) m.keyspaces.living k old new)

  pub a_creation_stands : is_name name ≡ true → names_one (store_of m.keyspaces m.trees) name ≡ false → AreOptions options → m.keyspaces.next ≢ 2 ^ 64 - 1 → m.next < 2 ^ 63
      → MemoryStandsFor (with_creation name options m) (table + 1) (created s name options)
  a_creation_stands named fresh are free small =
      let is = stands.lawful in
      let c = Create name (option_pairs options) in
      let unused = stands.beside.unused m.keyspaces.next (omega arith) in
      record {
        present = kept_after m table s stands c ∙ ap kept (sym (creation_with s.parts.entries name options m.next m.keyspaces is.keyspaces m.next m.trees is.given unused));
        views = views_go_on m (with_creation name options m) table s stands c created_goes_on;
        number = one_number_more m table s stands c;
        poisoned = stands.poisoned;
        handles = stands.handles;
        lasting = stands.lasting;
        tickets = stands.tickets;
        next_job = stands.next_job;
        merges_done = stands.merges_done;
        records = created_records;
        next_table = ap (λ n. n + 1) stands.next_table;
        journals = stands.journals;
        trees = subst (λ (at : ℕ × ℕ). AreSameTrees (with_tree at.0 at.1 s.parts.trees) (with_tree m.keyspaces.next m.next m.trees)) (sym (λ i. ((stands.present i).next, stands.number i)))
            (same_planted m.keyspaces.next m.next s.parts.trees m.trees stands.trees);
        beside = record {
          older = planted_older m.keyspaces.next m.next m.trees s.parts.entries stands.beside.older unused;
          none = All-push (λ (j : Planted). j.shape.tables ≡ [] → s.parts.entries j.id ≡ []) m.trees (record { id = m.keyspaces.next; shape = bare_tree m.next }) stands.beside.none (λ _. unused);
          unused = λ id le. stands.beside.unused id (omega (arith, le));
        };
        lawful = creation_is_lawful name options m is named (none_named m.keyspaces is.keyspaces m.trees name fresh) are free small;
      }

-- ---- a deletion

module _ (m : Remembered) (table : ℕ) (s : State) (stands : MemoryStandsFor m table s) (id : ℕ) (living : is_living (store_of m.keyspaces m.trees) id ≡ true) where
  deleted_ways : (q : ℕ) → Ways (with_deletion id m) q → Ways m q
  deleted_ways q (it_lives e) = it_lives (either (q == id) (ap is_some (sym (found_without m.keyspaces.living id q)) ∙ e))
    where
      either : (b : Bool) → is_some (cond b None (keyspace_at q m.keyspaces.living)) ≡ true → is_some (keyspace_at q m.keyspaces.living) ≡ true
      either true f = absurd (true≢false (sym f))
      either false f = f
  deleted_ways q (it_lasts e) = ⊎_elim (λ f. it_lasts f) (λ same. it_lives (subst (λ i. is_some (keyspace_at i m.keyspaces.living) ≡ true) same (sym (living_names m.keyspaces m.trees id) ∙ living))) (among-append m.lasting id q e)
  deleted_ways q (it_waits le) = it_waits le

  deleted_goes_on : GoesOn m (with_deletion id m) table s stands (Delete id)
  deleted_goes_on =
      let held = λ (q : ℕ) (h : is_held (with_deletion id m) q ≡ true). held_by m q (deleted_ways q (ways (with_deletion id m) q h)) in
      record {
        next = refl;
        tickets = refl;
        held = held;
        early = λ instant q le h. refl;
        late = λ q h. present_map m table s stands q (held q h) ∙ still_shown m s.parts.entries stands.lawful stands.beside.older q;
      }

  pub a_deletion_stands : m.next < 2 ^ 63 → MemoryStandsFor (with_deletion id m) (if nat_le 2 (len (store_of m.keyspaces m.trees).names) then table + 1 else table) (deleted s id)
  a_deletion_stands small =
      let c = Delete id in
      let names = same_names m table s stands in
      record {
        present = kept_after m table s stands c ∙ sym (deleted_by (λ q. pairs_with s.parts.entries q (2 ^ 63) m.trees) id m.keyspaces);
        views = views_go_on m (with_deletion id m) table s stands c deleted_goes_on;
        number = one_number_more m table s stands c;
        poisoned = stands.poisoned;
        handles = stands.handles;
        lasting = ap (λ l. l ++ id ∷ []) stands.lasting;
        tickets = stands.tickets;
        next_job = stands.next_job;
        merges_done = stands.merges_done;
        records = All-filter (λ (j : LivingKeyspace). not (j.id == id)) (λ j. s.parts.records j.id ≡ last_known m.records j) m.keyspaces.living stands.records;
        next_table = λ i. if nat_le 2 (len (names i)) then stands.next_table i + 1 else stands.next_table i;
        trees = stands.trees;
        beside = record { older = stands.beside.older; none = stands.beside.none; unused = stands.beside.unused };
        journals = stands.journals;
        lawful = deletion_is_lawful id m stands.lawful small;
      }

-- ---- handles

pub a_retained_stands : (m : Remembered) (table : ℕ) (s : State) → MemoryStandsFor m table s → (id : ℕ) → MemoryStandsFor (retained id m) table (record s { handles = one_more s.handles id })
a_retained_stands m table s stands id = record {
  present = stands.present;
  views = stands.views;
  number = stands.number;
  poisoned = stands.poisoned;
  handles = ap (λ h. one_more h id) stands.handles;
  lasting = stands.lasting;
  tickets = stands.tickets;
  next_job = stands.next_job;
  merges_done = stands.merges_done;
  records = stands.records;
  next_table = stands.next_table;
  trees = stands.trees;
  beside = record { older = stands.beside.older; none = stands.beside.none; unused = stands.beside.unused };
  journals = stands.journals;
  lawful = retained_is_lawful id m stands.lawful;
}

module _ (m : Remembered) (table : ℕ) (s : State) (stands : MemoryStandsFor m table s) (id : ℕ) where
  -- what is held then was held before, and is of another keyspace, or was never made
  left_ways : is_living (store_of m.keyspaces m.trees) id ≡ false → (q : ℕ) → Ways (after_release m id true) q → (is_held m q ≡ true) × (((q == id) ≡ false) ⊎ (m.keyspaces.next ≤ q))
  left_ways gone q (it_lives e) =
      (held_by m q (it_lives e), inl (false_from_ne_true (q == id) (λ same. true≢false (sym (living_names m.keyspaces m.trees id ∙ subst (λ i. is_some (keyspace_at i m.keyspaces.living) ≡ true) (same_id q id same) e) ∙ gone))))
  left_ways gone q (it_lasts e) = let rest = among_without m.lasting id q e in (held_by m q (it_lasts rest.0), inl rest.1)
  left_ways gone q (it_waits le) = (held_by m q (it_waits le), inr le)

  same_left : (instant q : ℕ) → ((q == id) ≡ false) ⊎ (m.keyspaces.next ≤ q) → pairs_with s.parts.entries q instant (forests.without id m.trees) ≡ pairs_with s.parts.entries q instant m.trees
  same_left instant q (inl other) = dropped_with s.parts.entries id q m.trees (λ same. true≢false (sym (itself id) ∙ ap (λ i. i == id) (sym same) ∙ other)) instant
  same_left instant q (inr le) =
      let given = stands.lawful.given in
      waits_empty m s.parts.entries (forests.without id m.trees) (dropped_each (λ k. k.id < m.keyspaces.next) id m.trees given) q instant le ∙ sym (waits_empty m s.parts.entries m.trees given q instant le)

  views_left : (last : Bool) → (last ≡ true → is_living (store_of m.keyspaces m.trees) id ≡ false) → (instant : ℕ) → IsReadAt (after_release m id last) instant → (q : ℕ) → is_held (after_release m id last) q ≡ true
      → map_at (view s.history instant).maps q ≡ pairs_with s.parts.entries q instant (after_release m id last).trees
  views_left false gone instant at q held = stands.views instant at q held
  views_left true gone instant at q held =
      let left = left_ways (gone refl) q (ways (after_release m id true) q held) in
      stands.views instant at q left.0 ∙ sym (same_left instant q left.1)

  -- without the tree of a deleted keyspace the same is kept
  present_left : (last : Bool) → (last ≡ true → is_living (store_of m.keyspaces m.trees) id ≡ false) → kept (present s) ≡ kept (store_with s.parts.entries m.keyspaces (if last then forests.without id m.trees else m.trees))
  present_left false gone = stands.present
  present_left true gone = stands.present ∙ ap kept (sym (dropped_store_with s.parts.entries id m.keyspaces m.trees (gone_is_none m id (gone refl))))

  trees_left : (last : Bool) → AreSameTrees (if last then forests.without id s.parts.trees else s.parts.trees) (if last then forests.without id m.trees else m.trees)
  trees_left true = same_dropped id s.parts.trees m.trees stands.trees
  trees_left false = stands.trees

  beside_left : (last : Bool) → AreBeside (after_release m id last) s.parts.entries
  beside_left true = record {
    older = dropped_older id m.trees s.parts.entries stands.beside.older;
    none = dropped_each (λ (j : Planted). j.shape.tables ≡ [] → s.parts.entries j.id ≡ []) id m.trees stands.beside.none;
    unused = stands.beside.unused;
  }
  beside_left false = record { older = stands.beside.older; none = stands.beside.none; unused = stands.beside.unused }

  records_left : (last : Bool) → (last ≡ true → is_living (store_of m.keyspaces m.trees) id ≡ false) → All (λ k. s.parts.records k.id ≡ last_known (after_release m id last).records k) m.keyspaces.living
  records_left false gone = stands.records
  records_left true gone =
      both_all (λ k. s.parts.records k.id ≡ last_known m.records k) (λ k. k.id ≢ id) (λ k. s.parts.records k.id ≡ last_known (remove m.records id) k)
      (λ k known other. known ∙ ap (λ (o : Option Fields). unwrap_or o (fields (first_of k.number))) (sym (other_left m.records id k.id other))) m.keyspaces.living stands.records
      (others_live m.keyspaces.living id (gone_is_none m id (gone refl)))

  abbrev released_as : Bool → State
  released_as last = record s {
    handles = one_less s.handles id;
    lasting = if last then without_id s.lasting id else s.lasting;
    parts = record s.parts { trees = if last then forests.without id s.parts.trees else s.parts.trees };
  }

  released_stands : (last : Bool) → (last ≡ true → is_living (store_of m.keyspaces m.trees) id ≡ false) → IsLawful (after_release m id last) → MemoryStandsFor (after_release m id last) table (released_as last)
  released_stands last gone is = record {
    present = present_left last gone;
    views = views_left last gone;
    number = stands.number;
    poisoned = stands.poisoned;
    handles = ap (λ h. one_less h id) stands.handles;
    lasting = ap (λ l. if last then without_id l id else l) stands.lasting;
    tickets = stands.tickets;
    next_job = stands.next_job;
    merges_done = stands.merges_done;
    records = records_left last gone;
    next_table = stands.next_table;
    trees = trees_left last;
    beside = beside_left last;
    journals = stands.journals;
    lawful = is;
  }

  same_last : machine.is_last s id ≡ is_last_in_memory m id
  same_last = λ i. not (contains_key (same_names m table s stands i) id) && (handles_of (stands.handles i) id == 1)

  pub a_release_stands : MemoryStandsFor (released_in_memory id m) table (machine.released s id)
  a_release_stands =
      subst (λ last. MemoryStandsFor (released_in_memory id m) table (released_as last)) (sym same_last)
      (released_stands (is_last_in_memory m id) (last_gone m id) (released_is_lawful id m stands.lawful))

-- ---- tickets

-- of these tickets each reads where one read before, or at the next number
with_tickets_stands : (m : Remembered) (table : ℕ) (s : State) → MemoryStandsFor m table s → (tickets : Tickets) → IsTime m tickets → MemoryStandsFor (with_tickets tickets m) table (record s { tickets = tickets })
with_tickets_stands m table s stands tickets times = record {
  present = stands.present;
  views = λ instant at id held. stands.views instant (where_read instant at) id held;
  number = stands.number;
  poisoned = stands.poisoned;
  handles = stands.handles;
  lasting = stands.lasting;
  tickets = refl;
  next_job = stands.next_job;
  merges_done = stands.merges_done;
  records = stands.records;
  next_table = stands.next_table;
  trees = stands.trees;
  beside = record { older = stands.beside.older; none = stands.beside.none; unused = stands.beside.unused };
  journals = stands.journals;
  lawful = tickets_are_lawful m tickets stands.lawful times;
}
  where
    where_read : (instant : ℕ) → IsReadAt (with_tickets tickets m) instant → IsReadAt m instant
    where_read instant (inl is) = inl is
    where_read instant (inr (ticket, there)) = times.reads ticket instant there

on_state : (m : Remembered) (table : ℕ) (s : State) (f : Tickets → Tickets) → MemoryStandsFor m table s → MemoryStandsFor (with_tickets (f m.tickets) m) table (record s { tickets = f m.tickets })
    → MemoryStandsFor (with_tickets (f m.tickets) m) table (record s { tickets = f s.tickets })
on_state m table s f stands after = subst (λ t. MemoryStandsFor (with_tickets (f m.tickets) m) table (record s { tickets = f t })) (sym stands.tickets) after

pub opened_stands : (m : Remembered) (table : ℕ) (s : State) → MemoryStandsFor m table s → MemoryStandsFor (with_tickets (opened m.next m.tickets) m) table (record s { tickets = opened m.next s.tickets })
opened_stands m table s stands = on_state m table s (opened m.next) stands (with_tickets_stands m table s stands (opened m.next m.tickets) (time_opened m stands.lawful m.next (inl refl)))

pub cloned_stands : (m : Remembered) (table : ℕ) (s : State) → MemoryStandsFor m table s → (id instant : ℕ) → get m.tickets.instants id ≡ Some instant
    → MemoryStandsFor (with_tickets (opened instant m.tickets) m) table (record s { tickets = opened instant s.tickets })
cloned_stands m table s stands id instant there = on_state m table s (opened instant) stands (with_tickets_stands m table s stands (opened instant m.tickets) (time_opened m stands.lawful instant (inr (id, there))))

pub closed_stands : (m : Remembered) (table : ℕ) (s : State) → MemoryStandsFor m table s → (id : ℕ) → MemoryStandsFor (with_tickets (closed m.next id m.tickets) m) table (record s { tickets = closed m.next id s.tickets })
closed_stands m table s stands id = on_state m table s (closed m.next id) stands (with_tickets_stands m table s stands (closed m.next id m.tickets) (time_closed m stands.lawful id))

pub collected_stands : (m : Remembered) (table : ℕ) (s : State) → MemoryStandsFor m table s → MemoryStandsFor (with_tickets (collected m.next m.tickets) m) table (record s { tickets = collected m.next s.tickets })
collected_stands m table s stands = on_state m table s (collected m.next) stands (with_tickets_stands m table s stands (collected m.next m.tickets) (time_collected m stands.lawful))

-- ---- faults, and the journal

-- parts that say the same of trees, of what tables hold, of last records and of journals
abbrev with_said : Parts → Parts → Parts
with_said said parts = record parts { trees = said.trees; entries = said.entries; records = said.records; journals = said.journals }

said_same : (said parts : Parts) → parts.trees ≡ said.trees → parts.entries ≡ said.entries → parts.records ≡ said.records → parts.journals ≡ said.journals → parts ≡ with_said said parts
said_same said parts trees entries records journals = λ i. record {
  journals = journals i;
  journal = parts.journal;
  buffer = parts.buffer;
  table = parts.table;
  trees = trees i;
  entries = entries i;
  records = records i;
}

pub a_fault_stands : (m : Remembered) (table : ℕ) (s : State) → MemoryStandsFor m table s → (parts : Parts) → parts.trees ≡ s.parts.trees → parts.entries ≡ s.parts.entries → parts.records ≡ s.parts.records → parts.journals ≡ s.parts.journals
    → MemoryStandsFor (poisoned m) parts.table (record s { poisoned = true; parts = parts })
a_fault_stands m table s stands parts trees entries records journals =
    subst (λ p. MemoryStandsFor (poisoned m) parts.table (record s { poisoned = true; parts = p })) (sym (said_same s.parts parts trees entries records journals)) (record {
      present = stands.present;
      views = stands.views;
      number = stands.number;
      poisoned = refl;
      handles = stands.handles;
      lasting = stands.lasting;
      tickets = stands.tickets;
      next_job = stands.next_job;
      merges_done = stands.merges_done;
      records = stands.records;
      next_table = refl;
      trees = stands.trees;
      beside = record { older = stands.beside.older; none = stands.beside.none; unused = stands.beside.unused };
      journals = stands.journals;
      lawful = poisoned_is_lawful m stands.lawful;
    })

pub a_fault_poisons : (s : State) (parts : Parts) → parts.trees ≡ s.parts.trees → parts.entries ≡ s.parts.entries → parts.records ≡ s.parts.records → parts.journals ≡ s.parts.journals
    → IsPoisoned s (record s { poisoned = true; parts = parts })
a_fault_poisons s parts trees entries records journals = record { is = refl; trees = trees; entries = entries; records = records; journals = journals }

pub other_parts_stand : (m : Remembered) (table : ℕ) (s : State) → MemoryStandsFor m table s → (parts : Parts) → parts.table ≡ table → parts.trees ≡ s.parts.trees → parts.entries ≡ s.parts.entries
    → parts.records ≡ s.parts.records → parts.journals ≡ s.parts.journals
    → MemoryStandsFor m table (record s { parts = parts })
other_parts_stand m table s stands parts is trees entries records journals =
    subst (λ p. MemoryStandsFor m table (record s { parts = p })) (sym (said_same s.parts parts trees entries records journals)) (record {
      present = stands.present;
      views = stands.views;
      number = stands.number;
      poisoned = stands.poisoned;
      handles = stands.handles;
      lasting = stands.lasting;
      tickets = stands.tickets;
      next_job = stands.next_job;
      merges_done = stands.merges_done;
      records = stands.records;
      next_table = is;
      trees = stands.trees;
      beside = record { older = stands.beside.older; none = stands.beside.none; unused = stands.beside.unused };
      journals = stands.journals;
      lawful = stands.lawful;
    })

-- ---- what a read keeps

pub a_read_stands : (m : Remembered) (table : ℕ) (s : State) → MemoryStandsFor m table s → (trees : Forest) → AreSameTrees m.trees trees → MemoryStandsFor (with_trees trees m) table s
a_read_stands m table s stands trees same = record {
  present = stands.present ∙ ap kept (sym (same_store_with s.parts.entries m.keyspaces m.trees trees same));
  views = λ instant at id held. stands.views instant at id held ∙ sym (same_pairs s.parts.entries id instant m.trees trees same);
  number = stands.number;
  poisoned = stands.poisoned;
  handles = stands.handles;
  lasting = stands.lasting;
  tickets = stands.tickets;
  next_job = stands.next_job;
  merges_done = stands.merges_done;
  records = stands.records;
  next_table = stands.next_table;
  trees = along s.parts.trees m.trees trees stands.trees same;
  beside = record {
    older = same_older s.parts.entries m.trees trees same stands.beside.older;
    none = all_same (λ id tables. tables ≡ [] → s.parts.entries id ≡ []) (λ id a b alike is none. is (none_before a b alike none)) m.trees trees same stands.beside.none;
    unused = stands.beside.unused;
  };
  journals = stands.journals;
  lawful = read_is_lawful trees m same stands.lawful;
}

pub a_journal_rotation_stands : (m : Remembered) (table : ℕ) (s : State) → MemoryStandsFor m table s → (len : ℕ) → len ≡ counted (s.parts.journal + s.parts.buffer)
    → MemoryStandsFor (journal_rotated_in_memory len m) table (machine.journal_rotated s)
a_journal_rotation_stands m table s stands len is = record {
  present = stands.present;
  views = stands.views;
  number = stands.number;
  poisoned = stands.poisoned;
  handles = stands.handles;
  lasting = stands.lasting;
  tickets = stands.tickets;
  next_job = stands.next_job;
  merges_done = stands.merges_done;
  records = stands.records;
  next_table = stands.next_table;
  trees = stands.trees;
  beside = record { older = stands.beside.older; none = stands.beside.none; unused = stands.beside.unused };
  journals = λ i. next_journal (sym is i) (stands.journals i);
  lawful = alike m (journal_rotated_in_memory len m) stands.lawful refl refl refl refl refl refl;
}

-- ---- reads

none_refused : (unknown among : Bool) → first_due ((unknown, UnknownKeyspace) ∷ (not among, KeyspaceDeleted) ∷ []) ≡ None → among ≡ true
none_refused true among none = absurd (true≢false (ap is_some none))
none_refused false true none = refl
none_refused false false none = absurd (true≢false (ap is_some none))

-- what is read is held
read_held : (m : Remembered) (table id : ℕ) → first_due (read_refusals (facts_of m table) id) ≡ None → is_held m id ≡ true
read_held m table id none =
    either (is_living (store_of m.keyspaces m.trees) id) refl (none_refused (is_unknown (store_of m.keyspaces m.trees) id) (is_read (facts_of m table) id) none)
  where
    either : (b : Bool) → is_living (store_of m.keyspaces m.trees) id ≡ b → (b || is_among m.lasting id) ≡ true → is_held m id ≡ true
    either true here found = held_by m id (it_lives (sym (living_names m.keyspaces m.trees id) ∙ here))
    either false gone found = held_by m id (it_lasts found)

-- a ticket that isn't refused is open
open_then : (b : Bool) (others : List (Bool × Error)) → first_due ((not b, SnapshotClosed) ∷ others) ≡ None → (b ≡ true) × (first_due others ≡ None)
open_then true others none = (refl, none)
open_then false others none = absurd (true≢false (ap is_some none))

reads_there : (m : Remembered) (id : ℕ) → is_open m.tickets id ≡ true → get m.tickets.instants id ≡ Some (instant_of m.tickets id)
reads_there m id there = some (get m.tickets.instants id) there
  where
    some : (o : Option ℕ) → is_some o ≡ true → o ≡ Some (unwrap_or o 0)
    some (Some instant) e = refl
    some None e = absurd (true≢false (sym e))

pub pairs_agree : (m : Remembered) (table : ℕ) (s : State) → MemoryStandsFor m table s → (view : View) (id : ℕ) → first_due (view_refusals (facts_of m table) view id) ≡ None
    → pairs_with s.parts.entries id (instant_in m view) m.trees ≡ map_at (maps_in s view) id
pairs_agree m table s stands Present id none =
    let n = stands.number in
    sym (stands.views m.next (inl refl) id (read_held m table id none)) ∙ ap (λ (t : Store). map_at t.maps id) (view_latest s.history m.next (omega (arith, n)))
pairs_agree m table s stands (At ticket) id none =
    let two = open_then (is_open m.tickets ticket.id) (read_refusals (facts_of m table) id) none in
    sym (stands.views (instant_of m.tickets ticket.id) (inr (ticket.id, reads_there m ticket.id two.0)) id (read_held m table id two.1))
    ∙ ap (λ (t : Tickets). map_at (view s.history (instant_of t ticket.id)).maps id) (sym stands.tickets)

-- where a keyspace has no table, memory alone tells
pub bare_agree : (m : Remembered) (table : ℕ) (s : State) → MemoryStandsFor m table s → (view : View) (id : ℕ) → first_due (view_refusals (facts_of m table) view id) ≡ None → (shape_in id m.trees).tables ≡ []
    → pairs_in id (instant_in m view) m.trees ≡ map_at (maps_in s view) id
bare_agree m table s stands view id none bare = bare_pairs s.parts.entries id (instant_in m view) m.trees stands.beside.none bare ∙ pairs_agree m table s stands view id none

-- ---- names

module _ (m : Remembered) (table : ℕ) (s : State) (stands : MemoryStandsFor m table s) where
  names : (present s).names ≡ (store_of m.keyspaces m.trees).names
  names = same_names m table s stands

  pub names_listed : values (present s).names ≡ map (λ k. k.name) m.keyspaces.living
  names_listed = ap values names ∙ names_are m.keyspaces stands.lawful.keyspaces m.trees

  pub names_counted : len (present s).names ≡ length m.keyspaces.living
  names_counted = ap len names ∙ counted_is m.keyspaces stands.lawful.keyspaces m.trees

  pub a_name_agrees : (name : Bytes) → names_one (present s) name ≡ names_one (store_of m.keyspaces m.trees) name
  a_name_agrees name = λ i. names_one (stands.present i) name

  pub a_name_there : (name : Bytes) → names_one (present s) name ≡ is_some (id_of name m.keyspaces.living)
  a_name_there name = a_name_agrees name ∙ named_is m.keyspaces stands.lawful.keyspaces m.trees name

  pub a_name_resolved : (id : ℕ) (name : Bytes) → (get (present s).names id ≡ Some name) ↔ (id_of name m.keyspaces.living ≡ Some id)
  a_name_resolved id name =
      let answer = names_answer m.keyspaces stands.lawful.keyspaces [] id name in
      let same = ap (λ n. get n id) names in
      (λ e. answer.1 (sym same ∙ e), λ e. same ∙ answer.0 e)

  pub living_agree : (id : ℕ) → is_living (present s) id ≡ is_living (store_of m.keyspaces m.trees) id
  living_agree id = ap (λ n. contains_key n id) names

  pub next_agrees : (present s).next ≡ m.keyspaces.next
  next_agrees = ap (λ (t : Store). t.next) stands.present

-- ---- an opening

-- what is held at an opening lives, or was never made
opened_map : (m : Remembered) (entries : ℕ → List (List Entry)) → AreOlder m.trees entries → IsLawful m → m.lasting ≡ [] → (id : ℕ) → Ways m id → map_at (store_with entries m.keyspaces m.trees).maps id ≡ pairs_with entries id m.next m.trees
opened_map m entries older is lasting id (it_lives e) =
    let there = some_there (keyspace_at id m.keyspaces.living) e in
    reads_by (λ q. pairs_with entries q (2 ^ 63) m.trees) m.keyspaces id there.0 there.1 ∙ above_with entries m.next m.trees is.forest older is.below id (2 ^ 63) is.small
opened_map m entries older is lasting id (it_lasts e) = absurd (true≢false (sym e ∙ ap (λ ids. is_among ids id) lasting))
opened_map m entries older is lasting id (it_waits le) =
    let none = none_found m.keyspaces.living m.keyspaces.next id is.keyspaces.given le in
    ap (λ slot. unwrap_or slot empty) (stored_by (λ q. pairs_with entries q (2 ^ 63) m.trees) m.keyspaces id ∙ ap (λ found. option_map (λ (k : LivingKeyspace). pairs_with entries id (2 ^ 63) m.trees) found) none)
    ∙ sym (waits_empty m entries m.trees is.given id m.next le)

pub an_opening_stands : (m : Remembered) → IsLawful m → m.handles ≡ empty → m.lasting ≡ [] → m.poisoned ≡ false → m.tickets ≡ collected m.next no_tickets → m.next_job ≡ 0 → m.merges_done ≡ 0
    → (table : ℕ) (parts : Parts) → parts.table ≡ table → parts.trees ≡ m.trees → parts.journals ≡ m.journals → All (λ k. parts.records k.id ≡ last_known m.records k) m.keyspaces.living
    → AreBeside m parts.entries → (damaged : List ℕ) → MemoryStandsFor m table (opened_state (store_with parts.entries m.keyspaces m.trees) damaged m.next parts)
an_opening_stands m is handles lasting well tickets none begins table parts at trees journals records beside damaged = record {
  present = refl;
  views = shown;
  number = omega arith;
  poisoned = sym well;
  handles = sym handles;
  lasting = sym lasting;
  tickets = sym tickets;
  next_job = sym none;
  merges_done = sym begins;
  records = records;
  next_table = at;
  trees = subst (λ t. AreSameTrees t m.trees) (sym trees) (same_trees m.trees);
  beside = beside;
  journals = journals;
  lawful = is;
}
  where
    shown : (instant : ℕ) → IsReadAt m instant → (id : ℕ) → is_held m id ≡ true
        → map_at (view (opened_state (store_with parts.entries m.keyspaces m.trees) damaged m.next parts).history instant).maps id ≡ pairs_with parts.entries id instant m.trees
    shown instant (inl same) id held =
        ap (λ (t : Store). map_at t.maps id) (view_latest (opened_state (store_with parts.entries m.keyspaces m.trees) damaged m.next parts).history instant (omega (arith, same)))
        ∙ opened_map m parts.entries beside.older is lasting id (ways m id held) ∙ ap (λ i. pairs_with parts.entries id i m.trees) (sym same)
    shown instant (inr (ticket, there)) id held = absurd (none-some instant (sym (get-empty nat_cmp ticket) ∙ ap (λ (t : Tickets). get t.instants ticket) (sym tickets) ∙ there))

-- ---- options that are too long

-- of a store they look at names and options alone
pub long_creation : (m : Remembered) (table : ℕ) (s : State) → MemoryStandsFor m table s → (name : Bytes) (options : List Bytes)
    → HasLongOption (kept (apply (store_of m.keyspaces m.trees) (Create name (option_pairs options)))) → HasLongOption (kept (apply (present s) (Create name (option_pairs options))))
long_creation m table s stands name options long =
    subst HasLongOption (kept_along (store_with s.parts.entries m.keyspaces m.trees) (present s) (Create name (option_pairs options) ∷ []) (sym stands.present)) long

pub long_deletion : (m : Remembered) (table : ℕ) (s : State) → MemoryStandsFor m table s → (id : ℕ) → HasLongOption (kept (apply (store_of m.keyspaces m.trees) (Delete id))) → HasLongOption (kept (apply (present s) (Delete id)))
long_deletion m table s stands id long = subst HasLongOption (kept_along (store_with s.parts.entries m.keyspaces m.trees) (present s) (Delete id ∷ []) (sym stands.present)) long
