-- A flush keeps the store.
use Rattle.std.proofs.Common.{◌≡◌, ℕ, ◌<◌, ◌≤◌, ◌^◌, ◌==◌, ◌&&◌, Bool, true, false, cond, ltb, leb, List, [], ◌∷◌, ◌++◌, All, get_or, map, filter, Option, Some, None, refl, sym, ◌∙◌, ap, subst, arith, append_assoc}
use Rattle.std.proofs.lemmas.Bool.{lt-ltb, lt-leb, ltb-true}
use Rattle.std.proofs.lemmas.Grind.{flat_map-append}
use Rattle.std.proofs.lemmas.List.{append-nil, map-append}
use Rattle.std.proofs.lemmas.List.Elements.{All-cons, All-head, All-map, All-nil, All-tail, All-weaker, filter-append}
use Rattle.fjall_base.specs.Pairs.{Bytes}
use Rattle.fjall_base.specs.Store.{Clear}
use Rattle.fjall_meta.specs.Contents.{Stored, clears_held, commands_beyond, counts_beyond, is_beyond, journal_beyond, versions_held}
use Rattle.fjall_meta.proofs.Beyond.{beyond_is_later}
use Rattle.fjall_meta.proofs.Held.{views_alone_matter}
use Rattle.fjall_manifest.specs.Homes.{Home}
use Rattle.fjall_journal.specs.Batches.{Shown, Written, shown}
use Rattle.fjall_meta.specs.Keyspaces.{Keyspaces}
use Rattle.fjall_recovery.specs.Folders.{store_of_contents}
use Rattle.fjall_recovery.specs.Halves.{Tree}
use Rattle.fjall_recovery.specs.Homes.{HasVersions, stored_at, stored_in, stored_of}
use Rattle.fjall_recovery.specs.Journals.{batches_in}
use Rattle.fjall_recovery.specs.Places.{Journaling, contents_with, journals_with}
use Rattle.fjall_recovery.proofs.Roots.{batches_are}
use Rattle.fjall_recovery.proofs.Storing.{stored_inserted}
use Rattle.fjall_memtable.specs.Sorted.{flat}
use Rattle.fjall_table.specs.Blocks.{Entry}
use Rattle.fjall_meta.specs.Replays.{counts, item_of, writing}
use Rattle.fjall_meta.specs.Views.{clear_in, clears_of, entries_in, versions_of}
use Rattle.fjall_meta.proofs.Slots.{same_id}
use Rattle.fjall_meta.proofs.Viewing.{clears_numbered, versions_numbered}
use Rattle.fjall_memtable.specs.Views.{value_at}
use Rattle.fjall_memtable.proofs.Tests.{filter-filter, filters_same, filters_swap}
use Rattle.fjall_compaction.specs.Covering.{MayCount, ShowsBatches}
use Rattle.fjall_compaction.specs.Flushes.{Flush, home_after, raised, tree_after}
use Rattle.fjall_compaction.proofs.FlushAfterHomes.{versions_at}
use Rattle.fjall_compaction.proofs.FlushAfterRecords.{raised_is}
use Rattle.fjall_compaction.proofs.Covered.{instead, still_shows}
use Rattle.fjall_compaction.proofs.Layers.{high_clears_of, high_of, low_clears_of, low_of}

-- ---- numbers beyond the persisted one

beyond_test : (p : Option ℕ) (q n : ℕ) → is_beyond p q ≡ true → (is_beyond p n && ltb q n) ≡ ltb q n
beyond_test None q n beyond = refl
beyond_test (Some m) q n beyond = by (ltb q n) refl
  where
    none : (a : Bool) → (a && false) ≡ false
    none true = refl
    none false = refl

    by : (b : Bool) → ltb q n ≡ b → (ltb m n && b) ≡ b
    by true is = ap (λ a. a && true) (lt-ltb m n (let one = ltb-true m q beyond in let two = ltb-true q n is in omega (arith, one, two)))
    by false is = none (ltb m n)

-- a greater number is beyond it too
pub later_is_beyond : (p : Option ℕ) (q n : ℕ) → is_beyond p q ≡ true → q < n → is_beyond p n ≡ true
later_is_beyond None q n beyond lt = refl
later_is_beyond (Some m) q n beyond lt = lt-ltb m n (let one = ltb-true m q beyond in omega (arith, one, lt))

-- within the persisted number is within a number that is beyond it
within_number : (p : Option ℕ) (q n : ℕ) → is_beyond p q ≡ true → is_beyond p n ≡ false → n ≤ q
within_number p q n beyond within = let lt = beyond_is_later p n q within beyond in omega (arith, lt)

pub none_passes : {X : Type 0} (p : X → Bool) (xs : List X) → All (λ x. p x ≡ false) xs → filter p xs ≡ []
none_passes p [] each = refl
none_passes p (x ∷ xs) each = ap (λ b. cond b (x ∷ filter p xs) (filter p xs)) (All-head (λ y. p y ≡ false) x xs each) ∙ none_passes p xs (All-tail (λ y. p y ≡ false) x xs each)

-- ---- what batches tell

-- what batches tell of an id beyond a persisted number
abbrev told : Keyspaces → Option ℕ → ℕ → List Shown → List Entry
told s p id batches = filter (λ v. is_beyond p v.number) (versions_of s id batches)

abbrev told_clears : Keyspaces → Option ℕ → ℕ → List Shown → List ℕ
told_clears s p id batches = filter (is_beyond p) (clears_of s id batches)

module _ (s : Keyspaces) (p : Option ℕ) (id q : ℕ) where
  -- beyond a greater number they tell what is above that one
  high_told : is_beyond p q ≡ true → (batches : List Shown) → high_of q (told s p id batches) ≡ told s (Some q) id batches
  high_told beyond batches =
      filter-filter (λ (v : Entry). ltb q v.number) (λ v. is_beyond p v.number) (versions_of s id batches)
      ∙ filters_same (λ (v : Entry). is_beyond p v.number && ltb q v.number) (λ v. ltb q v.number) (versions_of s id batches) (λ v. beyond_test p q v.number beyond)

  high_told_clears : is_beyond p q ≡ true → (batches : List Shown) → high_clears_of q (told_clears s p id batches) ≡ told_clears s (Some q) id batches
  high_told_clears beyond batches =
      filter-filter (λ n. ltb q n) (is_beyond p) (clears_of s id batches)
      ∙ filters_same (λ n. is_beyond p n && ltb q n) (λ n. ltb q n) (clears_of s id batches) (λ n. beyond_test p q n beyond)

  -- up to a number batches above it tell nothing
  low_told : (front behind : List Shown) → All (λ b. q < b.number) behind → low_of q (told s p id (front ++ behind)) ≡ low_of q (told s p id front)
  low_told front behind above =
      let low = λ (v : Entry). leb v.number q in
      let beyond = λ (v : Entry). is_beyond p v.number in
      let none = none_passes low (versions_of s id behind)
      (All-weaker (λ v. q < v.number) (λ v. leb v.number q ≡ false) (λ v lt. lt-leb v.number q lt) (versions_of s id behind) (versions_numbered (λ n. q < n) s id behind above)) in
      ap (λ (l : List Entry). filter low (filter beyond l)) (flat_map-append (entries_in s id) front behind)
      ∙ filters_swap low beyond (versions_of s id front ++ versions_of s id behind)
      ∙ ap (filter beyond) (filter-append low (versions_of s id front) (versions_of s id behind) ∙ ap (λ (l : List Entry). filter low (versions_of s id front) ++ l) none ∙ append-nil
      (filter low (versions_of s id front)))
      ∙ sym (filters_swap low beyond (versions_of s id front))

  low_told_clears : (front behind : List Shown) → All (λ b. q < b.number) behind → low_clears_of q (told_clears s p id (front ++ behind)) ≡ low_clears_of q (told_clears s p id front)
  low_told_clears front behind above =
      let low = λ (n : ℕ). leb n q in
      let none = none_passes low (clears_of s id behind)
      (All-weaker (λ n. q < n) (λ n. leb n q ≡ false) (λ n lt. lt-leb n q lt) (clears_of s id behind) (clears_numbered (λ n. q < n) s id behind above)) in
      ap (λ (l : List ℕ). filter low (filter (is_beyond p) l)) (flat_map-append (clear_in s id) front behind)
      ∙ filters_swap low (is_beyond p) (clears_of s id front ++ clears_of s id behind)
      ∙ ap (filter (is_beyond p)) (filter-append low (clears_of s id front) (clears_of s id behind) ∙ ap (λ (l : List ℕ). filter low (clears_of s id front) ++ l) none ∙ append-nil
      (filter low (clears_of s id front)))
      ∙ sym (filters_swap low (is_beyond p) (clears_of s id front))

-- ---- journals

-- the synced batches, and those behind them
abbrev pub front_of : Journaling → List Shown
front_of j = map shown (batches_in j.sealed ++ j.whole)

in_journals : (j : Journaling) (behind : List Written) → map shown (batches_in (journals_with j behind)) ≡ front_of j ++ map shown behind
in_journals j behind =
    ap (map shown) (batches_are j behind ∙ sym (append_assoc (batches_in j.sealed) j.whole behind)) ∙ map-append shown (batches_in j.sealed ++ j.whole) behind

pub first_all : {X : Type 0} (P : X → Type 0) (xs ys : List X) → All P (xs ++ ys) → All P xs
first_all P [] ys all = All-nil P
first_all P (x ∷ xs) ys all = All-cons P x xs (All-head P x (xs ++ ys) all) (first_all P xs ys (All-tail P x (xs ++ ys) all))

beginning_above : (number : ℕ) (behind rest later : List Written) → behind ++ rest ≡ later → All (λ b. number < b.number) later → All (λ b. number < b.number) behind
beginning_above number behind rest later is above = first_all (λ (b : Written). number < b.number) behind rest (subst (All (λ (b : Written). number < b.number)) (sym is) above)

shown_above : (number : ℕ) (batches : List Written) → All (λ b. number < b.number) batches → All (λ b. number < b.number) (map shown batches)
shown_above number batches above = All-map (λ (b : Shown). number < b.number) shown batches above

-- ---- one keyspace

module _ (j : Journaling) (t : Tree) (id : ℕ) (f : Flush) (lists : List (List Entry)) (h : Home) (versions : List Entry) (may : MayCount j t id f lists h versions) where
  abbrev s : Keyspaces
  s = t.keyspaces

  abbrev q : ℕ
  q = f.number

  abbrev p : Option ℕ
  p = h.last.persisted

  abbrev next : Tree
  next = tree_after id f lists h versions t

  has : HasVersions h versions
  has = versions_at t id h versions may.at may.have

  low : All (λ v. v.number ≤ q) versions
  low = All-weaker (λ (v : Entry). is_beyond p v.number ≡ false) (λ v. v.number ≤ q) (λ v within. within_number p q v.number may.beyond within) versions has.within.0

  low_clears : All (λ n. n ≤ q) h.last.clears
  low_clears = All-weaker (λ n. is_beyond p n ≡ false) (λ n. n ≤ q) (λ n within. within_number p q n may.beyond within) h.last.clears has.within.1

  above_later : All (λ b. q < b.number) (map shown j.later)
  above_later = shown_above q j.later may.synced

  shows : (key : Bytes) (i : ℕ) → value_at key i (h.last.clears ++ (f.clears ++ may.rest_clears)) (versions ++ (may.covered ++ may.rest))
      ≡ value_at key i (h.last.clears ++ told_clears s p id (front_of j ++ map shown j.later)) (versions ++ told s p id (front_of j ++ map shown j.later))
  shows key i = may.memory key i ∙ ap (λ (l : List Shown). value_at key i (h.last.clears ++ told_clears s p id l) (versions ++ told s p id l)) (in_journals j j.later)

  -- what the keyspace shows of a key after the flush it showed before, whatever beginning of the later batches there is
  module _ (behind : List Written) (above : All (λ b. q < b.number) behind) (key : Bytes) where
    abbrev batches : List Shown
    batches = map shown (batches_in (journals_with j behind))

    abbrev value_of : Stored → ℕ → Option Bytes
    value_of stored other = value_at key (2 ^ 63) (clears_held s stored other batches) (versions_held s stored other batches)

    flushed_one : value_of (stored_of (home_after f h) (versions ++ flat lists)) id ≡ value_of (stored_of h versions) id
    flushed_one =
        let all = front_of j ++ map shown j.later in
        let here = front_of j ++ map shown behind in
        let lower = low_told s p id q (front_of j) (map shown behind) (shown_above q behind above) ∙ sym (low_told s p id q (front_of j) (map shown j.later) above_later) in
        let lower_clears = low_told_clears s p id q (front_of j) (map shown behind) (shown_above q behind above) ∙ sym (low_told_clears s p id q (front_of j) (map shown j.later) above_later) in
        ap (λ n. value_at key (2 ^ 63) ((h.last.clears ++ f.clears) ++ told_clears s (Some n) id batches) ((versions ++ flat lists) ++ told s (Some n) id batches)) (raised_is p q may.beyond)
        ∙ ap (λ (l : List Shown). value_at key (2 ^ 63) ((h.last.clears ++ f.clears) ++ told_clears s (Some q) id l) ((versions ++ flat lists) ++ told s (Some q) id l)) (in_journals j behind)
        ∙ sym (λ i. value_at key (2 ^ 63) ((h.last.clears ++ f.clears) ++ high_told_clears s p id q may.beyond here i) ((versions ++ flat lists) ++ high_told s p id q may.beyond here i))
        ∙ instead key q h.last.clears f.clears may.rest_clears (told_clears s p id all) versions may.covered may.rest (told s p id all)
        low_clears low may.covers.low_clears may.covers.low may.covers.high_clears may.covers.high (shows key)
        may.watermark (flat lists) may.covers.once may.covers.made_is (2 ^ 63) may.small (told_clears s p id here) (told s p id here) lower_clears lower
        ∙ sym (ap (λ (l : List Shown). value_at key (2 ^ 63) (h.last.clears ++ told_clears s p id l) (versions ++ told s p id l)) (in_journals j behind))

    each_one : (other : ℕ) → value_of (stored_in next.homes next.versions other) other ≡ value_of (stored_in t.homes t.versions other) other
    each_one other = ap (λ (h : Stored). value_of h other) (stored_inserted t.homes t.versions id (home_after f h) (versions ++ flat lists) other) ∙ by (other == id) refl
      where
        by : (b : Bool) → (other == id) ≡ b
            → value_of (cond b (stored_of (home_after f h) (versions ++ flat lists)) (stored_in t.homes t.versions other)) other ≡ value_of (stored_in t.homes t.versions other) other
        by true is =
            subst (λ i. value_of (stored_of (home_after f h) (versions ++ flat lists)) i ≡ value_of (stored_in t.homes t.versions i) i) (sym (same_id other id is))
            (flushed_one ∙ sym (λ i. value_of (stored_at (may.at.home i) (may.at.stored i)) id))
        by false is = refl

  pub same_store : (behind rest : List Written) → behind ++ rest ≡ j.later → store_of_contents (contents_with j next behind) ≡ store_of_contents (contents_with j t behind)
  same_store behind rest is =
      let above = beginning_above q behind rest j.later is may.synced in
      let batches = map shown (batches_in (journals_with j behind)) in
      views_alone_matter s (stored_in next.homes next.versions) (stored_in t.homes t.versions) batches batches (λ i d lt key. each_one behind above key (get_or s.living i d).id)

  -- ---- what is pending

  counts_alike : (number other : ℕ) → q < number → counts_beyond s (stored_in next.homes next.versions) number other ≡ counts_beyond s (stored_in t.homes t.versions) number other
  counts_alike number other lt =
      ap (λ b. counts s number other && b)
      (ap (λ (h : Stored). is_beyond h.persisted number) (stored_inserted t.homes t.versions id (home_after f h) (versions ++ flat lists) other) ∙ by (other == id) refl)
    where
      by : (b : Bool) → (other == id) ≡ b
          → is_beyond (cond b (stored_of (home_after f h) (versions ++ flat lists)) (stored_in t.homes t.versions other)).persisted number ≡ is_beyond
          (stored_in t.homes t.versions other).persisted number
      by true is =
          subst (λ i. is_beyond (Some (raised p q)) number ≡ is_beyond (stored_in t.homes t.versions i).persisted number) (sym (same_id other id is))
          (ap (λ n. ltb n number) (raised_is p q may.beyond) ∙ lt-ltb q number lt ∙ sym (later_is_beyond p q number may.beyond lt)
          ∙ sym (λ i. is_beyond (stored_at (may.at.home i) (may.at.stored i)).persisted number))
      by false is = refl

  commands_alike : (b : Shown) → q < b.number → commands_beyond s (stored_in next.homes next.versions) b ≡ commands_beyond s (stored_in t.homes t.versions) b
  commands_alike b lt =
      let clears = filters_same (counts_beyond s (stored_in next.homes next.versions) b.number) (counts_beyond s (stored_in t.homes t.versions) b.number) b.clears
      (λ other. counts_alike b.number other lt) in
      let items = filters_same (λ item. counts_beyond s (stored_in next.homes next.versions) b.number item.keyspace_id) (λ item. counts_beyond s
      (stored_in t.homes t.versions) b.number item.keyspace_id) b.items
      (λ item. counts_alike b.number item.keyspace_id lt) in
      λ i. map Clear (clears i) ++ writing (map item_of (items i))

  all_alike : (batches : List Shown) → All (λ b. q < b.number) batches → journal_beyond s (stored_in next.homes next.versions) batches ≡ journal_beyond s (stored_in t.homes t.versions) batches
  all_alike [] above = refl
  all_alike (b ∷ batches) above =
      let here = commands_alike b (All-head (λ (c : Shown). q < c.number) b batches above) in
      let rest = all_alike batches (All-tail (λ (c : Shown). q < c.number) b batches above) in
      λ i. here i ++ rest i

  pub same_pending : journal_beyond s (stored_in next.homes next.versions) (map shown j.later) ≡ journal_beyond s (stored_in t.homes t.versions) (map shown j.later)
  same_pending = all_alike (map shown j.later) above_later

  -- ---- what stays in memory

  pub same_memory : ShowsBatches s (stored_of (home_after f h) (versions ++ flat lists)) id (map shown (batches_in (journals_with j j.later))) may.rest_clears may.rest
  same_memory key i =
      let all = front_of j ++ map shown j.later in
      still_shows key q h.last.clears f.clears may.rest_clears (told_clears s p id all) versions may.covered may.rest (told s p id all)
      low_clears low may.covers.low_clears may.covers.low may.covers.high_clears may.covers.high (shows key)
      may.watermark (flat lists) may.covers.once may.covers.made_is i
      ∙ (λ d. value_at key i ((h.last.clears ++ f.clears) ++ high_told_clears s p id q may.beyond all d) ((versions ++ flat lists) ++ high_told s p id q may.beyond all d))
      ∙ sym (ap (λ (l : List Shown). value_at key i ((h.last.clears ++ f.clears) ++ told_clears s (Some q) id l) ((versions ++ flat lists) ++ told s (Some q) id l)) (in_journals j j.later))
      ∙ sym (ap (λ n. value_at key i ((h.last.clears ++ f.clears) ++ told_clears s (Some n) id (map shown (batches_in (journals_with j j.later))))
      ((versions ++ flat lists) ++ told s (Some n) id (map shown (batches_in (journals_with j j.later))))) (raised_is p q may.beyond))
