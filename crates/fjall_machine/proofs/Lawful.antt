-- What is held stays lawful.
use Rattle.std.proofs.Common.{◌≡◌, ◌≢◌, inl, inr, ℕ, zero, suc, ◌+◌, ◌-◌, ◌<◌, ◌≤◌, ◌^◌, ◌==◌, ◌&&◌, max, not, Bool, true, false, cond, if◌then◌else◌, List, [], ◌∷◌, All, Option, None, Some, Result, Ok, Err, IfOk, OnOk, OnErr, refl, sym, ap, subst, ◌∙◌, arith}
use Rattle.std.proofs.lemmas.Bool.{true≢false}
use Rattle.std.proofs.lemmas.Bool.Decides.{nat_tests}
use Rattle.std.proofs.lemmas.Option.{none-some}
use Rattle.std.proofs.lemmas.List.Elements.{All-cons, All-filter, All-nil, All-push, All-weaker}
use Rattle.std.specs.Cmp.{nat_cmp_total}
use Rattle.std.specs.FinMap.{get, get-remove, insert, remove, values}
use Rattle.std.specs.List.{slice_index_or}
use Rattle.std.specs.Option.{is_some}
use Rattle.std.specs.Ordering.{eq_by_cmp, nat_cmp}
use Rattle.fjall_base.specs.Pairs.{Bytes}
use Rattle.fjall_base.specs.declared.error.Error.{Error}
use Rattle.fjall_journal.specs.Changes.{Change, Emptied, Items}
use Rattle.fjall_journal.specs.Ops.{BatchItem, items_refusal}
use Rattle.fjall_files.specs.Journals.{Journals}
use Rattle.fjall_meta.specs.declared.living.LivingKeyspace.{LivingKeyspace}
use Rattle.fjall_meta.specs.Keyspaces.{AreKeyspaces, Keyspaces, id_of, is_name, keyspace_at}
use Rattle.fjall_meta.proofs.Changes.{none_named, one_more_are, some_are}
use Rattle.fjall_options.specs.Options.{AreOptions}
use Rattle.fjall_meta.proofs.Found.{found_has, found_passes}
use Rattle.fjall_meta.proofs.Slots.{get_put, same_id, same_maps, ties}
use Rattle.fjall_manifest.specs.Catalog.{fields, first_of}
use Rattle.fjall_replay.specs.Known.{LastFields}
use Rattle.fjall_manifest.specs.Records.{Fields}
use Rattle.fjall_tree.specs.Trees.{Flushing, Merging, emptied, sealed_off}
use Rattle.fjall_trees.specs.Forests.{AreBefore, Forest, Planted, altered_at, tree_at}
use Rattle.fjall_trees.specs.Forests as forests
use Rattle.fjall_tree.specs.Puts.{bare_tree}
use Rattle.fjall_trees.specs.Writes.{MayPush, pushed, with_tree}
use Rattle.fjall_trees.specs.Maps.{store_of}
use Rattle.fjall_history.specs.declared.ticket.Ticket.{Ticket}
use Rattle.fjall_history.specs.Tickets.{Tickets, Tracked, closed, collected, least, no_tickets, opened}
use Rattle.fjall_history.proofs.Values.{all_inserted, all_removed, of_value}
use Rattle.fjall_machine.specs.Allowed.{FitsBatch}
use Rattle.fjall_machine.specs.Machine.{handles_of, is_living, one_less, without_id}
use Rattle.fjall_machine.specs.Remembered.{IsFlushBegun, IsLawful, IsMergeBegun, IsReadAt, Remembered, is_last_in_memory, let_go, poisoned, released_in_memory, remembered, retained, rotated_in_memory, with_change, with_creation, with_deletion, with_tickets, with_trees}
use Rattle.fjall_machine.proofs.Facts.{living_names, some_there}
use Rattle.fjall_trees.specs.Tables.{AreSameTrees}
use Rattle.fjall_machine.proofs.SameTrees.{all_alike, all_same, altered_flushes, altered_merges, pushed_flushes, pushed_merges}
use Rattle.fjall_trees.proofs.Alike.{same_before, same_forest, same_has}
use Rattle.fjall_trees.proofs.Emptied.{emptied_before, emptied_forest, emptied_has, emptied_ids}
use Rattle.fjall_trees.proofs.Pushed.{pushed_before, pushed_forest, pushed_has, pushed_ids}
use Rattle.fjall_trees.proofs.Planted.{planted_before, planted_forest, planted_has, planted_here}
use Rattle.fjall_trees.proofs.Changed.{changed_has}
use Rattle.fjall_trees.proofs.Dropped.{dropped_each, dropped_forest, dropped_has}
use Rattle.fjall_trees.proofs.Rotated.{rotated_before, rotated_forest, rotated_has}

-- the same, with these keyspaces, trees, numbers, tickets and last records
abbrev standing_as : Remembered → Remembered → Remembered
standing_as a b = record b { keyspaces = a.keyspaces; trees = a.trees; next = a.next; tickets = a.tickets; records = a.records; next_job = a.next_job }

-- what is lawful depends on these alone
as_lawful : (a b : Remembered) → IsLawful a → IsLawful (standing_as a b)
as_lawful a b is = record {
  keyspaces = is.keyspaces;
  made = is.made;
  forest = is.forest;
  planted = is.planted;
  given = is.given;
  below = is.below;
  small = is.small;
  reached = is.reached;
  spared = is.spared;
  above = is.above;
  recorded = is.recorded;
  kept = is.kept;
  begun = is.begun;
  merging = is.merging;
  jobs = is.jobs;
}

pub alike : (a b : Remembered) → IsLawful a → b.keyspaces ≡ a.keyspaces → b.trees ≡ a.trees → b.next ≡ a.next → b.tickets ≡ a.tickets → b.records ≡ a.records → b.next_job ≡ a.next_job → IsLawful b
alike a b is keyspaces trees next tickets records next_job = subst IsLawful (sym same) (as_lawful a b is)
  where
    same : b ≡ standing_as a b
    same = λ i. record {
      keyspaces = keyspaces i;
      trees = trees i;
      next = next i;
      poisoned = b.poisoned;
      handles = b.handles;
      lasting = b.lasting;
      tickets = tickets i;
      journals = b.journals;
      records = records i;
      next_job = next_job i;
      merges_done = b.merges_done;
    }

module _ (m : Remembered) (is : IsLawful m) where
  later : All (λ k. k.number < m.next + 1) m.keyspaces.living
  later = All-weaker (λ k. k.number < m.next) (λ k. k.number < m.next + 1) (λ k h. omega arith) m.keyspaces.living is.made

  below_later : AreBefore (m.next + 1) m.trees
  below_later = All-weaker (λ (k : Planted). k.shape.memory.active.until ≤ m.next) (λ k. k.shape.memory.active.until ≤ m.next + 1) (λ k h. omega arith) m.trees is.below

  reached_later : All (λ i. i ≤ m.next + 1) (values m.tickets.instants)
  reached_later = All-weaker (λ i. i ≤ m.next) (λ i. i ≤ m.next + 1) (λ i h. omega arith) (values m.tickets.instants) is.reached

  spared_later : 0 < m.tickets.watermark → m.tickets.watermark < m.next + 1
  spared_later some = let lt = is.spared some in omega (arith, lt)

-- ---- last records

-- one that is kept is kept when another comes
pub still_kept : (records : LastFields) (id : ℕ) (last : Fields) (other : ℕ) → is_some (get records other) ≡ true → is_some (get (insert records id last) other) ≡ true
still_kept records id last other there = ap (λ (o : Option Fields). is_some o) (get_put records id last other) ∙ by (other == id)
  where
    by : (b : Bool) → is_some (cond b (Some last) (get records other)) ≡ true
    by true = refl
    by false = there

pub itself : (id : ℕ) → (id == id) ≡ true
itself id = grind (arith, nat_tests)

pub others : (a b : ℕ) → a ≢ b → (a == b) ≡ false
others a b differ = grind (arith, nat_tests)

pub put_here : (records : LastFields) (id : ℕ) (last : Fields) → get (insert records id last) id ≡ Some last
put_here records id last = get_put records id last id ∙ ap (λ (b : Bool). cond b (Some last) (get records id)) (itself id)

kept_here : (records : LastFields) (id : ℕ) (last : Fields) → is_some (get (insert records id last) id) ≡ true
kept_here records id last = ap (λ (o : Option Fields). is_some o) (put_here records id last)

pub other_kept : (records : LastFields) (id : ℕ) (last : Fields) (other : ℕ) → other ≢ id → get (insert records id last) other ≡ get records other
other_kept records id last other differ = get_put records id last other ∙ ap (λ (b : Bool). cond b (Some last) (get records other)) (others other id differ)

get_left : (records : LastFields) (id other : ℕ) → get (remove records id) other ≡ cond (other == id) None (get records other)
get_left records id other = get-remove nat_cmp_total records id other ∙ ap (λ (b : Bool). cond b None (get records other)) (ties other id)

pub other_left : (records : LastFields) (id other : ℕ) → other ≢ id → get (remove records id) other ≡ get records other
other_left records id other differ = get_left records id other ∙ ap (λ (b : Bool). cond b None (get records other)) (others other id differ)

none_left : (records : LastFields) (id other : ℕ) → get records other ≡ None → get (remove records id) other ≡ None
none_left records id other none = get_left records id other ∙ by (other == id)
  where
    by : (b : Bool) → cond b None (get records other) ≡ None
    by true = refl
    by false = none

-- where none was kept, a record that is put is taken out again
pub put_back : (records : LastFields) (id : ℕ) (last : Fields) → get records id ≡ None → remove (insert records id last) id ≡ records
put_back records id last none =
    same_maps (remove (insert records id last) id) records (λ other. get_left (insert records id last) id other ∙ by other (other == id) refl (get_put records id last other))
  where
    by : (other : ℕ) (b : Bool) → (other == id) ≡ b → get (insert records id last) other ≡ cond (other == id) (Some last) (get records other)
        → cond b None (get (insert records id last) other) ≡ get records other
    by other true e put = sym (ap (get records) (same_id other id e) ∙ none)
    by other false e put = put ∙ ap (λ (b : Bool). cond b (Some last) (get records other)) e

-- ---- what holds of trees

pub both_all : {X : Type 0} (P Q R : X → Type 0) → ((x : X) → P x → Q x → R x) → (xs : List X) → All P xs → All Q xs → All R xs
both_all P Q R f xs ps qs = λ k d lt. f (slice_index_or xs k d) (ps k d lt) (qs k d lt)

-- where each keyspace that lives has a tree, one of a living id has one
pub tree_there : (s : Keyspaces) (trees : Forest) → All (λ k. is_some (tree_at k.id trees) ≡ true) s.living → (id : ℕ) → is_some (keyspace_at id s.living) ≡ true → is_some (tree_at id trees) ≡ true
tree_there s trees planted id lives =
    let there = some_there (keyspace_at id s.living) lives in
    let k = there.0 in
    subst (λ i. is_some (tree_at i trees) ≡ true) (same_id k.id id (found_passes (λ j. j.id == id) s.living k there.1)) (found_has (λ j. j.id == id) (λ j. is_some (tree_at j.id trees) ≡ true) s.living k there.1 planted)

-- a batch of these items may be pushed under the next number
pub may_push : (items : List BatchItem) (m : Remembered) → IsLawful m → m.next < 2 ^ 63 → items_refusal items ≡ None → MayPush m.next items m.trees
may_push items m is small fits = record { forest = is.forest; before = is.below; small = small; fits = fits }

pub items_are_lawful : (items : List BatchItem) (m : Remembered) → IsLawful m → m.next < 2 ^ 63 → items_refusal items ≡ None → IsLawful (with_change (Items items) m)
items_are_lawful items m is small fits =
    let may = may_push items m is small fits in
    record {
      keyspaces = is.keyspaces;
      made = later m is;
      forest = pushed_forest m.next items m.trees may;
      planted = All-weaker (λ k. is_some (tree_at k.id m.trees) ≡ true) (λ k. is_some (tree_at k.id (pushed m.next items m.trees)) ≡ true) (λ k h. pushed_has m.next items m.trees k.id ∙ h) m.keyspaces.living is.planted;
      given = pushed_ids (λ id. id < m.keyspaces.next) m.next items m.trees is.given;
      below = pushed_before m.next items m.trees may;
      small = omega (arith, small);
      reached = reached_later m is;
      spared = spared_later m is;
      above = is.above;
      recorded = is.recorded;
      kept = is.kept;
      begun = pushed_flushes (IsFlushBegun m.next_job m.tickets.watermark) m.trees is.begun m.next items;
      merging = pushed_merges (IsMergeBegun m.next_job m.tickets.watermark) m.trees is.merging m.next items;
      jobs = is.jobs;
    }

pub clear_is_lawful : (id : ℕ) (m : Remembered) → IsLawful m → m.next < 2 ^ 63 → IsLawful (with_change (Emptied id) m)
clear_is_lawful id m is small = record {
  keyspaces = is.keyspaces;
  made = later m is;
  forest = emptied_forest m.next id m.trees is.forest is.below small;
  planted =
      All-weaker (λ k. is_some (tree_at k.id m.trees) ≡ true) (λ k. is_some (tree_at k.id (altered_at id (emptied m.next) m.trees)) ≡ true) (λ k h. emptied_has m.next id k.id m.trees ∙ h)
      m.keyspaces.living is.planted;
  given = emptied_ids (λ other. other < m.keyspaces.next) m.next id m.trees is.given;
  below = emptied_before m.next id m.trees is.below;
  small = omega (arith, small);
  reached = reached_later m is;
  spared = spared_later m is;
  above = is.above;
  recorded = is.recorded;
  kept = is.kept;
  begun = altered_flushes (IsFlushBegun m.next_job m.tickets.watermark) m.trees is.begun id (emptied m.next) (λ shape. refl);
  merging = altered_merges (IsMergeBegun m.next_job m.tickets.watermark) m.trees is.merging id (emptied m.next) (λ shape. refl);
  jobs = is.jobs;
}

pub change_is_lawful : (change : Change) (m : Remembered) → IsLawful m → m.next < 2 ^ 63 → FitsBatch change → IsLawful (with_change change m)
change_is_lawful (Items items) m is small fits = items_are_lawful items m is small fits
change_is_lawful (Emptied id) m is small fits = clear_is_lawful id m is small

pub made_is_lawful : (name : Bytes) (options : List Bytes) (m : Remembered) → IsLawful m → m.next < 2 ^ 63 → AreKeyspaces (with_creation name options m).keyspaces → IsLawful (with_creation name options m)
made_is_lawful name options m is small are =
    let k : LivingKeyspace = record { id = m.keyspaces.next; number = m.next; name = name; options = options } in
    let id = m.keyspaces.next in
    let new = with_tree id m.next m.trees in
    let first = fields (first_of m.next) in
    record {
      keyspaces = are;
      made = All-push (λ j. j.number < m.next + 1) m.keyspaces.living k (later m is) (omega arith);
      forest = planted_forest id m.next m.trees is.forest is.given is.small;
      planted =
          All-push (λ j. is_some (tree_at j.id new) ≡ true) m.keyspaces.living k
          (All-weaker (λ j. is_some (tree_at j.id m.trees) ≡ true) (λ j. is_some (tree_at j.id new) ≡ true) (λ j h. planted_has id m.next m.trees j.id h) m.keyspaces.living is.planted) (planted_here id m.next m.trees is.given);
      given =
          All-push (λ (j : Planted). j.id < m.keyspaces.next + 1) m.trees (record { id = id; shape = bare_tree m.next })
          (All-weaker (λ (j : Planted). j.id < m.keyspaces.next) (λ j. j.id < m.keyspaces.next + 1) (λ j h. omega arith) m.trees is.given) (omega arith);
      below = planted_before (m.next + 1) id m.next m.trees (below_later m is) (omega arith);
      small = omega (arith, small);
      reached = reached_later m is;
      spared = spared_later m is;
      above = is.above;
      recorded =
          All-push (λ j. is_some (get (insert m.records id first) j.id) ≡ true) m.keyspaces.living k
          (All-weaker (λ j. is_some (get m.records j.id) ≡ true) (λ j. is_some (get (insert m.records id first) j.id) ≡ true) (λ j h. still_kept m.records id first j.id h) m.keyspaces.living is.recorded)
          (kept_here m.records id first);
      kept = λ other le. other_kept m.records id first other (λ same. let gap : id + 1 ≤ other = le in omega (arith, gap, same)) ∙ is.kept other (omega (arith, le));
      begun = All-push (λ (j : Planted). IsFlushBegun m.next_job m.tickets.watermark j.shape.flush) m.trees (record { id = id; shape = bare_tree m.next }) is.begun tt;
      merging = All-push (λ (j : Planted). IsMergeBegun m.next_job m.tickets.watermark j.shape.merge) m.trees (record { id = id; shape = bare_tree m.next }) is.merging tt;
      jobs = is.jobs;
    }

not_last : (n : ℕ) → n < 2 ^ 64 → n ≢ 2 ^ 64 - 1 → n + 1 < 2 ^ 64
not_last n fits other = grind (arith, nat_tests, fits, other)

pub creation_is_lawful : (name : Bytes) (options : List Bytes) (m : Remembered) → IsLawful m → is_name name ≡ true → id_of name m.keyspaces.living ≡ None → AreOptions options → m.keyspaces.next ≢ 2 ^ 64 - 1
    → m.next < 2 ^ 63 → IsLawful (with_creation name options m)
creation_is_lawful name options m is named fresh are free small =
    let k : LivingKeyspace = record { id = m.keyspaces.next; number = m.next; name = name; options = options } in
    let fits : m.keyspaces.next < 2 ^ 64 = is.keyspaces.fits in
    made_is_lawful name options m is small (one_more_are m.keyspaces.living k is.keyspaces (not_last m.keyspaces.next fits free) named (none_named name m.keyspaces.living fresh) are)

pub deletion_is_lawful : (id : ℕ) (m : Remembered) → IsLawful m → m.next < 2 ^ 63 → IsLawful (with_deletion id m)
deletion_is_lawful id m is small = record {
  keyspaces = some_are m.keyspaces.living m.keyspaces.next (λ k. not (k.id == id)) is.keyspaces;
  made = All-filter (λ k. not (k.id == id)) (λ k. k.number < m.next + 1) m.keyspaces.living (later m is);
  forest = is.forest;
  planted = All-filter (λ k. not (k.id == id)) (λ k. is_some (tree_at k.id m.trees) ≡ true) m.keyspaces.living is.planted;
  given = is.given;
  below = below_later m is;
  small = omega (arith, small);
  reached = reached_later m is;
  spared = spared_later m is;
  above = is.above;
  recorded = All-filter (λ k. not (k.id == id)) (λ k. is_some (get m.records k.id) ≡ true) m.keyspaces.living is.recorded;
  kept = is.kept;
  begun = is.begun;
  merging = is.merging;
  jobs = is.jobs;
}

pub retained_is_lawful : (id : ℕ) (m : Remembered) → IsLawful m → IsLawful (retained id m)
retained_is_lawful id m is = alike m (retained id m) is refl refl refl refl refl refl

pub poisoned_is_lawful : (m : Remembered) → IsLawful m → IsLawful (poisoned m)
poisoned_is_lawful m is = alike m (poisoned m) is refl refl refl refl refl refl

-- where no keyspace of an id lives, each that lives has another id
pub others_live : (living : List LivingKeyspace) (id : ℕ) → keyspace_at id living ≡ None → All (λ k. k.id ≢ id) living
others_live [] id none = All-nil (λ (k : LivingKeyspace). k.id ≢ id)
others_live (k ∷ living) id none = either (k.id == id) refl none (others_live living id)
  where
    either : (b : Bool) → (k.id == id) ≡ b → cond b (Some k) (keyspace_at id living) ≡ None → (keyspace_at id living ≡ None → All (λ j. j.id ≢ id) living) → All (λ j. j.id ≢ id) (k ∷ living)
    either true same e rest = absurd (none-some k (sym e))
    either false other e rest = All-cons (λ j. j.id ≢ id) k living (λ same. true≢false (sym (itself id) ∙ ap (λ i. i == id) (sym same) ∙ other)) (rest e)

-- a deleted keyspace is found no more
pub gone_is_none : (m : Remembered) (id : ℕ) → is_living (store_of m.keyspaces m.trees) id ≡ false → keyspace_at id m.keyspaces.living ≡ None
gone_is_none m id gone = nothing (keyspace_at id m.keyspaces.living) (sym (living_names m.keyspaces m.trees id) ∙ gone)
  where
    nothing : (found : Option LivingKeyspace) → is_some found ≡ false → found ≡ None
    nothing None e = refl
    nothing (Some k) e = absurd (true≢false e)

pub let_go_is_lawful : (id : ℕ) (m : Remembered) → IsLawful m → is_living (store_of m.keyspaces m.trees) id ≡ false → IsLawful (let_go id m)
let_go_is_lawful id m is gone = record {
  keyspaces = is.keyspaces;
  made = is.made;
  forest = dropped_forest id m.trees is.forest;
  planted =
      both_all (λ k. is_some (tree_at k.id m.trees) ≡ true) (λ k. k.id ≢ id) (λ k. is_some (tree_at k.id (forests.without id m.trees)) ≡ true) (λ k there other. ap is_some (dropped_has id k.id m.trees other) ∙ there)
      m.keyspaces.living is.planted (others_live m.keyspaces.living id (gone_is_none m id gone));
  given = dropped_each (λ k. k.id < m.keyspaces.next) id m.trees is.given;
  below = dropped_each (λ k. k.shape.memory.active.until ≤ m.next) id m.trees is.below;
  small = is.small;
  reached = is.reached;
  spared = is.spared;
  above = is.above;
  recorded =
      both_all (λ k. is_some (get m.records k.id) ≡ true) (λ k. k.id ≢ id) (λ k. is_some (get (remove m.records id) k.id) ≡ true)
      (λ k there other. ap (λ (o : Option Fields). is_some o) (other_left m.records id k.id other) ∙ there) m.keyspaces.living is.recorded (others_live m.keyspaces.living id (gone_is_none m id gone));
  kept = λ other le. none_left m.records id other (is.kept other le);
  begun = dropped_each (λ k. IsFlushBegun m.next_job m.tickets.watermark k.shape.flush) id m.trees is.begun;
  merging = dropped_each (λ k. IsMergeBegun m.next_job m.tickets.watermark k.shape.merge) id m.trees is.merging;
  jobs = is.jobs;
}

-- a keyspace whose last handle is counted is deleted
pub last_gone : (m : Remembered) (id : ℕ) → is_last_in_memory m id ≡ true → is_living (store_of m.keyspaces m.trees) id ≡ false
last_gone m id = first (is_living (store_of m.keyspaces m.trees) id) (handles_of m.handles id == 1)
  where
    first : (lives one : Bool) → (not lives && one) ≡ true → lives ≡ false
    first true one e = absurd (true≢false (sym e))
    first false one e = refl

-- one handle less is counted, and the tree and the record are dropped where that was the last one
abbrev pub after_release : Remembered → ℕ → Bool → Remembered
after_release m id last = record m {
  handles = one_less m.handles id;
  lasting = if last then without_id m.lasting id else m.lasting;
  trees = if last then forests.without id m.trees else m.trees;
  records = if last then remove m.records id else m.records;
}

pub released_is_lawful : (id : ℕ) (m : Remembered) → IsLawful m → IsLawful (released_in_memory id m)
released_is_lawful id m is = either (is_last_in_memory m id) (λ e. last_gone m id e)
  where
    either : (last : Bool) → (last ≡ true → is_living (store_of m.keyspaces m.trees) id ≡ false) → IsLawful (after_release m id last)
    either true gone = alike (let_go id m) (after_release m id true) (let_go_is_lawful id m is (gone refl)) refl refl refl refl refl refl
    either false gone = alike m (after_release m id false) is refl refl refl refl refl refl

-- ---- tickets

-- These tickets read where something read before, and above their watermark, which hasn't fallen.
pub record IsTime (m : Remembered) (tickets : Tickets) : Type 0 where
  pub reads : (ticket instant : ℕ) → get tickets.instants ticket ≡ Some instant → IsReadAt m instant
  pub reached : All (λ i. i ≤ m.next) (values tickets.instants)
  pub spared : 0 < tickets.watermark → tickets.watermark < m.next
  pub above : All (λ i. 0 < tickets.watermark → tickets.watermark < i) (values tickets.instants)
  pub risen : m.tickets.watermark ≤ tickets.watermark

-- a flush that was begun was begun when more has come
pub begun_later : (job later watermark risen : ℕ) (flush : Option Flushing) → job ≤ later → watermark ≤ risen → IsFlushBegun job watermark flush → IsFlushBegun later risen flush
begun_later job later watermark risen None le up is = tt
begun_later job later watermark risen (Some out) le up is = let id = is.0 in let low = is.1 in (omega (arith, id, le), omega (arith, low, up))

-- so was a merge
pub merge_begun_later : (job later watermark risen : ℕ) (merge : Option Merging) → job ≤ later → watermark ≤ risen → IsMergeBegun job watermark merge → IsMergeBegun later risen merge
merge_begun_later job later watermark risen None le up is = tt
merge_begun_later job later watermark risen (Some out) le up is = let id = is.0 in let low = is.1 in (omega (arith, id, le), omega (arith, low, up))

-- where none is out, each was begun
abbrev pub IsStill : Planted → Type 0
IsStill k = (k.shape.flush ≡ None) × (k.shape.merge ≡ None)

pub still_begun : (job watermark : ℕ) (trees : Forest) → All IsStill trees → All (λ k. IsFlushBegun job watermark k.shape.flush) trees
still_begun job watermark trees still = All-weaker IsStill (λ k. IsFlushBegun job watermark k.shape.flush) (λ k none. subst (IsFlushBegun job watermark) (sym none.0) tt) trees still

pub still_merge_begun : (job watermark : ℕ) (trees : Forest) → All IsStill trees → All (λ k. IsMergeBegun job watermark k.shape.merge) trees
still_merge_begun job watermark trees still = All-weaker IsStill (λ k. IsMergeBegun job watermark k.shape.merge) (λ k none. subst (IsMergeBegun job watermark) (sym none.1) tt) trees still

pub all_begun_later : (job later watermark risen : ℕ) (trees : Forest) → job ≤ later → watermark ≤ risen → All (λ k. IsFlushBegun job watermark k.shape.flush) trees
    → All (λ k. IsFlushBegun later risen k.shape.flush) trees
all_begun_later job later watermark risen trees le up all =
    All-weaker (λ (k : Planted). IsFlushBegun job watermark k.shape.flush) (λ k. IsFlushBegun later risen k.shape.flush) (λ k is. begun_later job later watermark risen k.shape.flush le up is) trees all

pub all_merges_begun_later : (job later watermark risen : ℕ) (trees : Forest) → job ≤ later → watermark ≤ risen → All (λ k. IsMergeBegun job watermark k.shape.merge) trees
    → All (λ k. IsMergeBegun later risen k.shape.merge) trees
all_merges_begun_later job later watermark risen trees le up all =
    All-weaker (λ (k : Planted). IsMergeBegun job watermark k.shape.merge) (λ k. IsMergeBegun later risen k.shape.merge) (λ k is. merge_begun_later job later watermark risen k.shape.merge le up is) trees all

pub tickets_are_lawful : (m : Remembered) (tickets : Tickets) → IsLawful m → IsTime m tickets → IsLawful (with_tickets tickets m)
tickets_are_lawful m tickets is times = record {
  keyspaces = is.keyspaces;
  made = is.made;
  forest = is.forest;
  planted = is.planted;
  given = is.given;
  below = is.below;
  small = is.small;
  reached = times.reached;
  spared = times.spared;
  above = times.above;
  recorded = is.recorded;
  kept = is.kept;
  begun = all_begun_later m.next_job m.next_job m.tickets.watermark tickets.watermark m.trees (omega arith) times.risen is.begun;
  merging = all_merges_begun_later m.next_job m.next_job m.tickets.watermark tickets.watermark m.trees (omega arith) times.risen is.merging;
  jobs = is.jobs;
}

module _ (m : Remembered) (is : IsLawful m) where
  up_to : (instant : ℕ) → IsReadAt m instant → instant ≤ m.next
  up_to instant (inl same) = omega (arith, same)
  up_to instant (inr (ticket, there)) = of_value (λ i. i ≤ m.next) m.tickets.instants ticket instant there is.reached

  -- the watermark is below each instant at which something reads
  pub read_above : (instant : ℕ) → IsReadAt m instant → 0 < m.tickets.watermark → m.tickets.watermark < instant
  read_above instant (inl same) some = let lt = is.spared some in omega (arith, lt, same)
  read_above instant (inr (ticket, there)) some = of_value (λ i. 0 < m.tickets.watermark → m.tickets.watermark < i) m.tickets.instants ticket instant there is.above some

  pub time_opened : (instant : ℕ) → IsReadAt m instant → IsTime m (opened instant m.tickets)
  time_opened instant at = record {
    reads = λ ticket i there. either ticket i (ticket == m.tickets.next) (sym (get_put m.tickets.instants m.tickets.next instant ticket) ∙ there);
    reached = all_inserted (λ i. i ≤ m.next) m.tickets.instants m.tickets.next instant (up_to instant at) is.reached;
    spared = is.spared;
    above = all_inserted (λ i. 0 < m.tickets.watermark → m.tickets.watermark < i) m.tickets.instants m.tickets.next instant (read_above instant at) is.above;
    risen = omega arith;
  }
    where
      either : (ticket i : ℕ) (b : Bool) → cond b (Some instant) (get m.tickets.instants ticket) ≡ Some i → IsReadAt m i
      either ticket i true e = let same : instant ≡ i = cc in subst (IsReadAt m) same at
      either ticket i false e = inr (ticket, e)

  least_upto : (n : ℕ) (instants : List ℕ) → least n instants ≤ n
  least_upto n [] = omega arith
  least_upto n (instant ∷ instants) = let le = least_upto n instants in omega (arith, le)

  -- the least of instants is at most each of them
  least_each : (n : ℕ) (instants : List ℕ) → All (λ i. least n instants ≤ i) instants
  least_each n [] = All-nil (λ (i : ℕ). least n [] ≤ i)
  least_each n (instant ∷ instants) =
      All-cons (λ (i : ℕ). least n (instant ∷ instants) ≤ i) instant instants (omega arith)
      (All-weaker (λ i. least n instants ≤ i) (λ i. least n (instant ∷ instants) ≤ i) (λ i le. omega (arith, le)) instants (least_each n instants))

  still_above : (w l i : ℕ) → (0 < w → w < i) → l ≤ i → 0 < max w (l - 1) → max w (l - 1) < i
  still_above zero l i spared le some = omega (arith, le, some)
  still_above (suc w) l i spared le some = let lt = spared (omega arith) in omega (arith, lt, le)

  raised : (w l : ℕ) → (0 < w → w < m.next) → l ≤ m.next → 0 < max w (l - 1) → max w (l - 1) < m.next
  raised zero l spared le some = omega (arith, le, some)
  raised (suc w) l spared le some = let lt = spared (omega arith) in omega (arith, lt, le)

  pub time_collected_of : (tickets : Tickets) → IsTime m tickets → IsTime m (collected m.next tickets)
  time_collected_of tickets times =
      let l = least m.next (values tickets.instants) in
      let risen = times.risen in
      record {
        reads = times.reads;
        reached = times.reached;
        spared = raised tickets.watermark l times.spared (least_upto m.next (values tickets.instants));
        above =
            both_all (λ i. 0 < tickets.watermark → tickets.watermark < i) (λ i. l ≤ i) (λ i. 0 < max tickets.watermark (l - 1) → max tickets.watermark (l - 1) < i)
            (λ i spared le. still_above tickets.watermark l i spared le) (values tickets.instants) times.above (least_each m.next (values tickets.instants));
        risen = omega (arith, risen);
      }

  as_it_is : IsTime m m.tickets
  as_it_is = record { reads = λ ticket instant there. inr (ticket, there); reached = is.reached; spared = is.spared; above = is.above; risen = omega arith }

  pub time_collected : IsTime m (collected m.next m.tickets)
  time_collected = time_collected_of m.tickets as_it_is

  pub time_closed : (id : ℕ) → IsTime m (closed m.next id m.tickets)
  time_closed id = counting (m.tickets.closings + 1 == 10000)
    where
      left : (ticket i : ℕ) (b : Bool) → cond b None (get m.tickets.instants ticket) ≡ Some i → IsReadAt m i
      left ticket i true e = absurd (none-some i e)
      left ticket i false e = inr (ticket, e)

      gone : (n : ℕ) → IsTime m (record m.tickets { instants = remove m.tickets.instants id; closings = n })
      gone n = record {
        reads = λ ticket i there. left ticket i (eq_by_cmp nat_cmp ticket id) (sym (get-remove nat_cmp_total m.tickets.instants id ticket) ∙ there);
        reached = all_removed (λ i. i ≤ m.next) m.tickets.instants id is.reached;
        spared = is.spared;
        above = all_removed (λ i. 0 < m.tickets.watermark → m.tickets.watermark < i) m.tickets.instants id is.above;
        risen = omega arith;
      }

      counting : (b : Bool) → IsTime m (if b then collected m.next (record m.tickets { instants = remove m.tickets.instants id; closings = 0 }) else record m.tickets {
        instants = remove m.tickets.instants id;
        closings = m.tickets.closings + 1;
      })
      counting true = time_collected_of (record m.tickets { instants = remove m.tickets.instants id; closings = 0 }) (gone 0)
      counting false = gone (m.tickets.closings + 1)

-- ---- a rotation

pub rotated_is_lawful : (id : ℕ) (m : Remembered) → IsLawful m → IsLawful (rotated_in_memory id m)
rotated_is_lawful id m is =
    let times = time_collected m is in
    record {
      keyspaces = is.keyspaces;
      made = is.made;
      forest = rotated_forest id m.trees is.forest;
      planted =
          All-weaker (λ k. is_some (tree_at k.id m.trees) ≡ true) (λ k. is_some (tree_at k.id (altered_at id sealed_off m.trees)) ≡ true) (λ k h. rotated_has id k.id m.trees ∙ h)
          m.keyspaces.living is.planted;
      given = changed_has (λ k. k.id < m.keyspaces.next) (λ k shape. cond (k == id) (sealed_off shape) shape) m.trees is.given;
      below = rotated_before m.next id m.trees is.below;
      small = is.small;
      reached = times.reached;
      spared = times.spared;
      above = times.above;
      recorded = is.recorded;
      kept = is.kept;
      begun =
          altered_flushes (IsFlushBegun m.next_job (collected m.next m.tickets).watermark) m.trees
          (all_begun_later m.next_job m.next_job m.tickets.watermark (collected m.next m.tickets).watermark m.trees (omega arith) times.risen is.begun) id sealed_off (λ shape. refl);
      merging =
          altered_merges (IsMergeBegun m.next_job (collected m.next m.tickets).watermark) m.trees
          (all_merges_begun_later m.next_job m.next_job m.tickets.watermark (collected m.next m.tickets).watermark m.trees (omega arith) times.risen is.merging) id sealed_off (λ shape. refl);
      jobs = is.jobs;
    }

-- ---- tickets as calls leave them

abbrev pub with_tracked : Tracked → Remembered → Remembered
with_tracked t m = record m { next = t.visible; tickets = t.tickets }

module _ (m : Remembered) (is : IsLawful m) (new : Tracked) where
  at_tickets : (tickets : Tickets) → IsTime m tickets → new ≡ record { visible = m.next; tickets = tickets } → IsLawful (with_tracked new m)
  at_tickets tickets times same = subst (λ t. IsLawful (with_tracked t m)) (sym same) (tickets_are_lawful m tickets is times)

  pub unturned : new ≡ record { visible = m.next; tickets = m.tickets } → IsLawful (with_tracked new m)
  unturned same = at_tickets m.tickets (as_it_is m is) same

  pub opening_is_lawful : (result : Result Ticket Error) → OnOk result (new ≡ record { visible = m.next; tickets = opened m.next m.tickets })
      → OnErr result (new ≡ record { visible = m.next; tickets = m.tickets }) → IsLawful (with_tracked new m)
  opening_is_lawful (Ok ticket) done refused = at_tickets (opened m.next m.tickets) (time_opened m is m.next (inl refl)) done
  opening_is_lawful (Err error) done refused = unturned refused

  pub cloning_is_lawful : (id : ℕ) (result : Result Ticket Error)
      → IfOk result (λ ticket. (ticket.id ≡ m.tickets.next) × (get m.tickets.instants id ≡ Some ticket.instant) × (new ≡ record { visible = m.next; tickets = opened ticket.instant m.tickets }))
      → OnErr result (new ≡ record { visible = m.next; tickets = m.tickets }) → IsLawful (with_tracked new m)
  cloning_is_lawful id (Ok ticket) (at, there, done) refused = at_tickets (opened ticket.instant m.tickets) (time_opened m is ticket.instant (inr (id, there))) done
  cloning_is_lawful id (Err error) done refused = unturned refused

  pub closing_is_lawful : (id : ℕ) (result : Result Unit Error) → OnOk result (new ≡ record { visible = m.next; tickets = closed m.next id m.tickets })
      → OnErr result (new ≡ record { visible = m.next; tickets = m.tickets }) → IsLawful (with_tracked new m)
  closing_is_lawful id (Ok _) done refused = at_tickets (closed m.next id m.tickets) (time_closed m is id) done
  closing_is_lawful id (Err error) done refused = unturned refused

  pub collecting_is_lawful : new ≡ record { visible = m.next; tickets = collected m.next m.tickets } → IsLawful (with_tracked new m)
  collecting_is_lawful done = at_tickets (collected m.next m.tickets) (time_collected m is) done

-- what was just opened is lawful where it is with a watermark of 0
pub remembered_is_lawful : (keyspaces : Keyspaces) (trees : Forest) (next : ℕ) (journals : Journals) (records : LastFields)
    → IsLawful (record (remembered keyspaces trees next journals records) { tickets = no_tickets }) → IsLawful (remembered keyspaces trees next journals records)
remembered_is_lawful keyspaces trees next journals records is =
    collecting_is_lawful (record (remembered keyspaces trees next journals records) { tickets = no_tickets }) is (record { visible = next; tickets = collected next no_tickets }) refl

-- ---- a release

either_release : (m : Remembered) (id : ℕ) (last : Bool) → record (if last then let_go id m else m) { handles = one_less (if last then let_go id m else m).handles id } ≡ after_release m id last
either_release m id true = refl
either_release m id false = refl

pub release_is : (m mid : Remembered) (id : ℕ) (last : Bool) → last ≡ is_last_in_memory m id → mid ≡ (if last then let_go id m else m) → record mid { handles = one_less mid.handles id } ≡ released_in_memory id m
release_is m mid id last is held = ap (λ (k : Remembered). record k { handles = one_less k.handles id }) held ∙ either_release m id last ∙ ap (after_release m id) is

-- ---- a read

-- trees that are the same but for what is kept of their tables
pub read_is_lawful : (trees : Forest) (m : Remembered) → AreSameTrees m.trees trees → IsLawful m → IsLawful (with_trees trees m)
read_is_lawful trees m same is = record {
  keyspaces = is.keyspaces;
  made = is.made;
  forest = same_forest m.trees trees same is.forest;
  planted = All-weaker (λ k. is_some (tree_at k.id m.trees) ≡ true) (λ k. is_some (tree_at k.id trees) ≡ true) (λ k h. same_has k.id m.trees trees same ∙ h) m.keyspaces.living is.planted;
  given = all_same (λ id tables. id < m.keyspaces.next) (λ id a b alike h. h) m.trees trees same is.given;
  below = same_before m.next m.trees trees same is.below;
  small = is.small;
  reached = is.reached;
  spared = is.spared;
  above = is.above;
  recorded = is.recorded;
  kept = is.kept;
  begun = all_alike (λ id shape. IsFlushBegun m.next_job m.tickets.watermark shape.flush) (λ id a b alike here. subst (IsFlushBegun m.next_job m.tickets.watermark) (sym alike.flush) here) m.trees trees same is.begun;
  merging = all_alike (λ id shape. IsMergeBegun m.next_job m.tickets.watermark shape.merge) (λ id a b alike here. subst (IsMergeBegun m.next_job m.tickets.watermark) (sym alike.merge) here) m.trees trees same is.merging;
  jobs = is.jobs;
}
