-- An ingestion is its one command on the store, changes nothing that is pending, and leaves nothing for memory to show.
use Rattle.std.proofs.Common.{◌≡◌, ℕ, ◌<◌, ◌≤◌, ◌^◌, ◌-◌, ◌==◌, Bool, true, false, cond, List, [], ◌∷◌, ◌++◌, All, get_or, map, filter, Option, Some, None, refl, sym, ◌∙◌, ap, subst, arith, append_assoc}
use Rattle.std.specs.Prelude.{nat_lt, unwrap_or}
use Rattle.std.specs.Option.{option_map}
use Rattle.std.proofs.lemmas.Bool.{le-ltb, ltb-true, true≢false}
use Rattle.std.proofs.lemmas.Grind.{flat_map-append}
use Rattle.std.proofs.lemmas.List.{append-nil, map-append}
use Rattle.std.proofs.lemmas.List.Elements.{All-append, All-filter, All-head, All-map, All-nil, All-tail, All-weaker, filter-append}
use Rattle.fjall_base.specs.Pairs.{Bytes}
use Rattle.fjall_base.specs.Store.{apply, fold}
use Rattle.fjall_meta.specs.Contents.{Stored, clears_held, is_beyond, journal_beyond, store_held, versions_held}
use Rattle.fjall_meta.proofs.Beyond.{beyond_is_later}
use Rattle.fjall_meta.proofs.Following.{before_least, beyond_all, one_more_batch}
use Rattle.fjall_meta.proofs.Held.{views_alone_matter}
use Rattle.fjall_compaction.specs.Covering.{ShowsBatches}
use Rattle.fjall_compaction.specs.Flushes.{raised}
use Rattle.fjall_compaction.proofs.FlushAfterHomes.{versions_at}
use Rattle.fjall_compaction.proofs.FlushAfterRecords.{raised_is}
use Rattle.fjall_compaction.proofs.Layers.{same_over}
use Rattle.fjall_compaction.proofs.FlushSameStore.{first_all, none_passes}
use Rattle.fjall_manifest.specs.Homes.{Home}
use Rattle.fjall_jobs.specs.declared.made_table.MadeTable.{MadeTable}
use Rattle.fjall_journal.specs.Batches.{Shown, Written, shown}
use Rattle.fjall_meta.specs.Keyspaces.{Keyspaces, keyspace_at}
use Rattle.fjall_meta.specs.declared.living.LivingKeyspace.{LivingKeyspace}
use Rattle.fjall_recovery.specs.Folders.{store_of_contents}
use Rattle.fjall_recovery.specs.Halves.{Tree}
use Rattle.fjall_recovery.specs.Homes.{HasVersions, stored_at, stored_in, stored_of}
use Rattle.fjall_recovery.specs.Journals.{batches_in}
use Rattle.fjall_recovery.specs.Places.{Journaling, contents_with, journals_with}
use Rattle.fjall_recovery.proofs.Roots.{batches_are, fewer_sound}
use Rattle.fjall_recovery.proofs.Storing.{are_within, beyond_lasts, stored_inserted}
use Rattle.fjall_table.specs.Blocks.{Entry}
use Rattle.fjall_meta.specs.Replays.{counts, first_fault, least_after}
use Rattle.fjall_meta.specs.Views.{clear_in, clears_of, entries_in, versions_of}
use Rattle.fjall_meta.proofs.ContentFaults.{first_fault-append, least_after-append}
use Rattle.fjall_meta.proofs.Ids.{living_has}
use Rattle.fjall_meta.proofs.Slots.{same_id}
use Rattle.fjall_meta.proofs.Viewing.{clears_numbered, no_fault, versions_numbered}
use Rattle.fjall_memtable.specs.Views.{value_at}
use Rattle.fjall_memtable.proofs.Tests.{all_of}
use Rattle.fjall_reading.specs.Ingestions.{KeyOp}
use Rattle.fjall_compaction.specs.Commands.{ArePersisted, HasNothingOf, MayCome, MayIngest, MayIngestSynced}
use Rattle.fjall_compaction.specs.Ingests.{home_with, ingestion, tree_with, version_of, versions_made}
use Rattle.fjall_compaction.proofs.Batch.{batch_of, commanded, no_clear, other_entries, own_entries, still_sound}
use Rattle.fjall_compaction.proofs.Silence.{itself, no_clears_left, no_versions, same_journal, turned}

-- ---- journals with some of the later batches

-- all batches are those with a beginning of the later ones, and the rest
pub split : (j : Journaling) (behind rest : List Written) → behind ++ rest ≡ j.later
    → map shown (batches_in (journals_with j j.later)) ≡ map shown (batches_in (journals_with j behind)) ++ map shown rest
split j behind rest is =
    ap (map shown)
    (batches_are j j.later ∙ ap (λ (l : List Written). batches_in j.sealed ++ (j.whole ++ l)) (sym is)
    ∙ ap (λ (l : List Written). batches_in j.sealed ++ l) (sym (append_assoc j.whole behind rest))
    ∙ sym (append_assoc (batches_in j.sealed) (j.whole ++ behind) rest) ∙ ap (λ (l : List Written). l ++ rest) (sym (batches_are j behind)))
    ∙ map-append shown (batches_in (journals_with j behind)) rest

pub last_all : {X : Type 0} (P : X → Type 0) (xs ys : List X) → All P (xs ++ ys) → All P ys
last_all P [] ys all = all
last_all P (x ∷ xs) ys all = last_all P xs ys (All-tail P x (xs ++ ys) all)

all_pass : {X : Type 0} (p : X → Bool) (xs : List X) → All (λ x. p x ≡ true) xs → filter p xs ≡ xs
all_pass p [] all = refl
all_pass p (x ∷ xs) all =
    ap (λ b. cond b (x ∷ filter p xs) (filter p xs)) (All-head (λ y. p y ≡ true) x xs all) ∙ ap (λ l. x ∷ l) (all_pass p xs (All-tail (λ y. p y ≡ true) x xs all))

-- the keyspace lives
pub living_at : (s : Keyspaces) (number id : ℕ) → counts s number id ≡ true → (k : LivingKeyspace) × (keyspace_at id s.living ≡ Some k)
living_at s number id is = by (keyspace_at id s.living) refl is
  where
    by : (o : Option LivingKeyspace) → keyspace_at id s.living ≡ o → unwrap_or (option_map (λ k. nat_lt k.number number) o) false ≡ true
        → (k : LivingKeyspace) × (keyspace_at id s.living ≡ Some k)
    by (Some k) at is = (k, at)
    by None at is = absurd (true≢false (sym is))

module _ (j : Journaling) (t : Tree) (id number : ℕ) (items : List KeyOp) (tables : List MadeTable) (h : Home) (versions : List Entry) (may : MayCome j t id number h versions) where
  abbrev s : Keyspaces
  s = t.keyspaces

  abbrev p : Option ℕ
  p = h.last.persisted

  abbrev next : Tree
  next = tree_with id number items tables h versions t

  abbrev after : Stored
  after = stored_of (home_with number tables h) (versions ++ versions_made number items)

  abbrev batch : Shown
  batch = batch_of id number items

  pub lives : (k : LivingKeyspace) × (keyspace_at id s.living ≡ Some k)
  lives = living_at s number id may.lives

  stored_id : stored_in t.homes t.versions id ≡ stored_of h versions
  stored_id i = stored_at (may.at.home i) (may.at.stored i)

  all_beyond : All (λ k. is_beyond (stored_in t.homes t.versions k.id).persisted number ≡ true) s.living
  all_beyond = let above = may.above in beyond_lasts t.homes t.versions s.living number (omega (arith, above))

  pub beyond : is_beyond p number ≡ true
  beyond =
      sym (ap (λ (x : Stored). is_beyond x.persisted number) stored_id)
      ∙ living_has (λ i. is_beyond (stored_in t.homes t.versions i).persisted number ≡ true) s.living id lives.0 lives.1 all_beyond

  -- and the number isn't 0
  positive : 0 < number
  positive =
      let lt : nat_lt lives.0.number number ≡ true = sym (ap (λ o. unwrap_or (option_map (λ (k : LivingKeyspace). nat_lt k.number number) o) false) lives.1) ∙ may.lives in
      let less = ltb-true lives.0.number number lt in
      omega (arith, less)

  has : HasVersions h versions
  has = versions_at t id h versions may.at may.have

  raised_to : Some (raised p number) ≡ Some number
  raised_to = ap (λ n. Some n) (raised_is p number beyond)

  -- ---- what is pending

  new_at : (other : ℕ) → stored_in next.homes next.versions other ≡ cond (other == id) after (stored_in t.homes t.versions other)
  new_at other = stored_inserted t.homes t.versions id (home_with number tables h) (versions ++ versions_made number items) other

  pub same_pending : ArePersisted p id (map shown (batches_in (journals_with j j.later))) → journal_beyond s (stored_in next.homes next.versions) (map shown j.later)
      ≡ journal_beyond s (stored_in t.homes t.versions) (map shown j.later)
  same_pending are =
      same_journal s (stored_in t.homes t.versions) (stored_in next.homes next.versions) p id number (ap (λ (x : Stored). x.persisted) stored_id)
      (ap (λ (x : Stored). x.persisted) (new_at id ∙ ap (λ b. cond b after (stored_in t.homes t.versions id)) (itself id)) ∙ raised_to) beyond
      (λ other differ. ap (λ (x : Stored). x.persisted) (new_at other ∙ ap (λ b. cond b after (stored_in t.homes t.versions other)) differ)) (map shown j.later) later
    where
      later : ArePersisted p id (map shown j.later)
      later =
          let P = λ (b : Shown). is_beyond p b.number ≡ true → HasNothingOf id b in
          let front = map shown (batches_in (journals_with j [])) in
          last_all P front (map shown j.later) (subst (All P) (split j [] j.later refl) are)

  -- ---- nothing is left for memory

  -- all batches are numbered below it
  below : All (λ b. b.number < number) (map shown (batches_in (journals_with j j.later)))
  below =
      let all = map shown (batches_in (journals_with j j.later)) in
      let above = may.above in
      All-weaker (λ (b : Shown). b.number < least_after 0 all) (λ b. b.number < number) (λ b lt. omega (arith, lt, above)) all (before_least 0 all may.sound).1

  -- so what batches tell beyond the new persisted number is nothing
  none_told : (batches : List Shown) → All (λ b. b.number < number) batches → filter (λ v. is_beyond (Some (raised p number)) v.number) (versions_of s id batches) ≡ []
  none_told batches low =
      ap (λ (q : Option ℕ). filter (λ (v : Entry). is_beyond q v.number) (versions_of s id batches)) raised_to
      ∙ none_passes (λ (v : Entry). is_beyond (Some number) v.number) (versions_of s id batches)
      (All-weaker (λ (v : Entry). v.number < number) (λ v. is_beyond (Some number) v.number ≡ false) (λ v lt. le-ltb number v.number (omega (arith, lt))) (versions_of s id batches)
      (versions_numbered (λ n. n < number) s id batches low))

  no_clears_told : (batches : List Shown) → All (λ b. b.number < number) batches → filter (is_beyond (Some (raised p number))) (clears_of s id batches) ≡ []
  no_clears_told batches low =
      ap (λ (q : Option ℕ). filter (is_beyond q) (clears_of s id batches)) raised_to
      ∙ none_passes (is_beyond (Some number)) (clears_of s id batches)
      (All-weaker (λ n. n < number) (λ n. is_beyond (Some number) n ≡ false) (λ n lt. le-ltb number n (omega (arith, lt))) (clears_of s id batches)
      (clears_numbered (λ n. n < number) s id batches low))

  pub same_memory : ShowsBatches s after id (map shown (batches_in (journals_with j j.later))) [] []
  same_memory key i =
      let all = map shown (batches_in (journals_with j j.later)) in
      let none = sym (none_told all below) in
      let no_clear = sym (no_clears_told all below) in
      λ d. value_at key i (after.clears ++ no_clear d) (after.versions ++ none d)

  -- ---- the store

  module _ (behind rest : List Written) (is : behind ++ rest ≡ j.later) where
    abbrev batches : List Shown
    batches = map shown (batches_in (journals_with j behind))

    below_here : All (λ b. b.number < number) batches
    below_here = first_all (λ (b : Shown). b.number < number) batches (map shown rest) (subst (All (λ (b : Shown). b.number < number)) (split j behind rest is) below)

    pub sound : first_fault 0 batches ≡ None
    sound = fewer_sound j behind rest is may.sound

    pub least : least_after 0 batches ≤ number
    least =
        let all = split j behind rest is in
        let faults = no_fault (first_fault 0 batches) (first_fault (least_after 0 batches) (map shown rest)) (sym (first_fault-append 0 batches (map shown rest))
        ∙ sym (ap (first_fault 0) all) ∙ may.sound) in
        let grows = (before_least (least_after 0 batches) (map shown rest) faults.1).0 in
        let same : least_after 0 (map shown (batches_in (journals_with j j.later))) ≡ least_after (least_after 0 batches) (map shown rest) =
        ap (least_after 0) all ∙ least_after-append 0 batches (map shown rest) in
        let above = may.above in
        omega (arith, grows, same, above)

    -- the batch makes its versions beyond what is stored, behind those that the others make
    told_more : filter (λ v. is_beyond p v.number) (versions_of s id (batches ++ batch ∷ [])) ≡ filter (λ v. is_beyond p v.number) (versions_of s id batches) ++ versions_made number items
    told_more =
        let test = λ (v : Entry). is_beyond p v.number in
        let made = versions_made number items in
        ap (filter test) (flat_map-append (entries_in s id) batches (batch ∷ []) ∙ ap (λ (l : List Entry). versions_of s id batches ++ l) (append-nil (entries_in s id batch)
        ∙ own_entries s id number items may.lives))
        ∙ filter-append test (versions_of s id batches) made
        ∙ ap (λ (l : List Entry). filter test (versions_of s id batches) ++ l)
        (all_pass test made (All-map (λ (v : Entry). test v ≡ true) (version_of number) items (all_of (λ (item : KeyOp). is_beyond p number ≡ true) items (λ item. beyond))))

    clears_more : filter (is_beyond p) (clears_of s id (batches ++ batch ∷ [])) ≡ filter (is_beyond p) (clears_of s id batches)
    clears_more =
        ap (filter (is_beyond p))
        (flat_map-append (clear_in s id) batches (batch ∷ []) ∙ ap (λ (l : List ℕ). clears_of s id batches ++ l) (append-nil (clear_in s id batch) ∙ no_clear s id id number items)
        ∙ append-nil (clears_of s id batches))

    -- what shows of a key of a keyspace, with that stored
    abbrev without : Bytes → Stored → ℕ → Option Bytes
    without key x other = value_at key (2 ^ 63) (clears_held s x other batches) (versions_held s x other batches)

    -- and with the batch
    abbrev with_batch : Bytes → ℕ → Option Bytes
    with_batch key other =
        value_at key (2 ^ 63) (clears_held s (stored_in t.homes t.versions other) other (batches ++ batch ∷ [])) (versions_held s (stored_in t.homes t.versions other) other (batches ++
        batch ∷ []))

    -- of its own keyspace
    own_batch : (key : Bytes) → with_batch key id ≡ value_at key (2 ^ 63) (h.last.clears ++ filter (is_beyond p) (clears_of s id batches))
        (versions ++ (filter (λ v. is_beyond p v.number) (versions_of s id batches) ++ versions_made number items))
    own_batch key =
        ap (λ (x : Stored). value_at key (2 ^ 63) (clears_held s x id (batches ++ batch ∷ [])) (versions_held s x id (batches ++ batch ∷ []))) stored_id
        ∙ (λ d. value_at key (2 ^ 63) (h.last.clears ++ clears_more d) (versions ++ told_more d))

    -- and after the ingestion
    own_after : (key : Bytes) → without key after id ≡ value_at key (2 ^ 63) h.last.clears (versions ++ versions_made number items)
    own_after key =
        let made = versions_made number items in
        let same_clears : (h.last.clears ++ []) ++ filter (is_beyond (Some (raised p number))) (clears_of s id batches) ≡ h.last.clears =
        ap (λ (l : List ℕ). (h.last.clears ++ []) ++ l) (no_clears_told batches below_here) ∙ append-nil (h.last.clears ++ []) ∙ append-nil h.last.clears in
        let same_versions : (versions ++ made) ++ filter (λ v. is_beyond (Some (raised p number)) v.number) (versions_of s id batches) ≡ versions ++ made =
        ap (λ (l : List Entry). (versions ++ made) ++ l) (none_told batches below_here) ∙ append-nil (versions ++ made) in
        λ d. value_at key (2 ^ 63) (same_clears d) (same_versions d)

    -- those of another are as they were
    other_versions : (x : Stored) (other : ℕ) → (id == other) ≡ false → versions_held s x other batches ≡ versions_held s x other (batches ++ batch ∷ [])
    other_versions x other differ =
        let same : versions_of s other (batches ++ batch ∷ []) ≡ versions_of s other batches =
        flat_map-append (entries_in s other) batches (batch ∷ [])
        ∙ ap (λ (l : List Entry). versions_of s other batches ++ l) (append-nil (entries_in s other batch) ∙ other_entries s id other number items differ)
        ∙ append-nil (versions_of s other batches) in
        sym (ap (λ (l : List Entry). x.versions ++ filter (λ (v : Entry). is_beyond x.persisted v.number) l) same)

    other_clears : (x : Stored) (other : ℕ) → clears_held s x other batches ≡ clears_held s x other (batches ++ batch ∷ [])
    other_clears x other =
        let same : clears_of s other (batches ++ batch ∷ []) ≡ clears_of s other batches =
        flat_map-append (clear_in s other) batches (batch ∷ [])
        ∙ ap (λ (l : List ℕ). clears_of s other batches ++ l) (append-nil (clear_in s other batch) ∙ no_clear s id other number items) ∙ append-nil (clears_of s other batches) in
        sym (ap (λ (l : List ℕ). x.clears ++ filter (is_beyond x.persisted) l) same)

    -- where the keyspace shows what it would show with the batch, so does each
    each_one : ((key : Bytes) → without key after id ≡ with_batch key id) → (key : Bytes) (other : ℕ)
        → without key (stored_in next.homes next.versions other) other ≡ with_batch key other
    each_one own key other = ap (λ (x : Stored). without key x other) (new_at other) ∙ by (other == id) refl
      where
        by : (b : Bool) → (other == id) ≡ b → without key (cond b after (stored_in t.homes t.versions other)) other ≡ with_batch key other
        by true is =
            subst (λ i. without key after i ≡ with_batch key i) (sym (same_id other id is)) (own key)
        by false is =
            λ d. value_at key (2 ^ 63) (other_clears (stored_in t.homes t.versions other) other d) (other_versions (stored_in t.homes t.versions other) other (turned other id is) d)

    by_views : ((key : Bytes) → without key after id ≡ with_batch key id)
        → store_of_contents (contents_with j next behind) ≡ apply (store_of_contents (contents_with j t behind)) (ingestion id items)
    by_views own =
        let stored = stored_in t.homes t.versions in
        views_alone_matter s (stored_in next.homes next.versions) stored batches (batches ++ batch ∷ []) (λ i d lt key. each_one own key (get_or s.living i d).id)
        ∙ one_more_batch s stored (are_within t.homes t.versions may.have s) 0 batches batch (still_sound id number items batches sound least may.small)
        ∙ ap (fold (store_held s stored batches)) (beyond_all s stored batch all_beyond)
        ∙ commanded s id number items (store_held s stored batches) may.lives

    -- all that the journals have of the keyspace is persisted
    pub one_command : ArePersisted p id (map shown (batches_in (journals_with j j.later))) → store_of_contents (contents_with j next behind)
        ≡ apply (store_of_contents (contents_with j t behind)) (ingestion id items)
    one_command are =
        let P = λ (b : Shown). is_beyond p b.number ≡ true → HasNothingOf id b in
        let persisted = first_all P batches (map shown rest) (subst (All P) (split j behind rest is) are) in
        by_views (λ key. own_after key
        ∙ (λ d. value_at key (2 ^ 63) (sym (append-nil h.last.clears) d) (versions ++ versions_made number items))
        ∙ sym (own_batch key ∙ (λ d. value_at key (2 ^ 63) (h.last.clears ++ no_clears_left s p id batches persisted d) (versions ++ (no_versions s p id batches persisted d ++ versions_made
        number items)))))

    -- ---- memory has nothing to show

    -- what is stored, and what batches tell beyond it, is numbered below
    low : All (λ v. v.number ≤ number - 1) versions
    low =
        All-weaker (λ (v : Entry). is_beyond p v.number ≡ false) (λ v. v.number ≤ number - 1) (λ v within. let lt = beyond_is_later p v.number number within beyond in omega (arith, lt)) versions
        has.within.0

    low_clears : All (λ n. n ≤ number - 1) h.last.clears
    low_clears =
        All-weaker (λ n. is_beyond p n ≡ false) (λ n. n ≤ number - 1) (λ n within. let lt = beyond_is_later p n number within beyond in omega (arith, lt)) h.last.clears has.within.1

    low_told : All (λ v. v.number ≤ number - 1) (filter (λ v. is_beyond p v.number) (versions_of s id batches))
    low_told =
        All-filter (λ (v : Entry). is_beyond p v.number) (λ v. v.number ≤ number - 1) (versions_of s id batches)
        (All-weaker (λ (v : Entry). v.number < number) (λ v. v.number ≤ number - 1) (λ v lt. omega (arith, lt)) (versions_of s id batches) (versions_numbered (λ n. n < number) s id batches
        below_here))

    low_clears_told : All (λ n. n ≤ number - 1) (filter (is_beyond p) (clears_of s id batches))
    low_clears_told =
        All-filter (is_beyond p) (λ n. n ≤ number - 1) (clears_of s id batches)
        (All-weaker (λ n. n < number) (λ n. n ≤ number - 1) (λ n lt. omega (arith, lt)) (clears_of s id batches) (clears_numbered (λ n. n < number) s id batches below_here))

    high : All (λ v. number - 1 < v.number) (versions_made number items)
    high =
        let some = positive in
        All-map (λ (v : Entry). number - 1 < v.number) (version_of number) items (all_of (λ (item : KeyOp). number - 1 < number) items (λ item. omega (arith, some)))

    -- so beside the ingestion's versions the one shows what the other shows
    shown_more : ShowsBatches s (stored_of h versions) id batches [] [] → (key : Bytes) → value_at key (2 ^ 63) h.last.clears (versions ++ versions_made number items)
        ≡ value_at key (2 ^ 63) (h.last.clears ++ filter (is_beyond p) (clears_of s id batches)) (versions ++ (filter (λ v. is_beyond p v.number) (versions_of s id batches) ++ versions_made
        number items))
    shown_more shows key =
        let made = versions_made number items in
        let told = filter (λ (v : Entry). is_beyond p v.number) (versions_of s id batches) in
        let told_clears = filter (is_beyond p) (clears_of s id batches) in
        let same : value_at key (2 ^ 63) h.last.clears versions ≡ value_at key (2 ^ 63) (h.last.clears ++ told_clears) (versions ++ told) =
        (λ d. value_at key (2 ^ 63) (sym (append-nil h.last.clears) d) (sym (append-nil versions) d)) ∙ shows key (2 ^ 63) in
        (λ d. value_at key (2 ^ 63) (sym (append-nil h.last.clears) d) (versions ++ made))
        ∙ same_over key (2 ^ 63) (number - 1) h.last.clears (h.last.clears ++ told_clears) [] versions (versions ++ told) made low_clears
        (All-append (λ n. n ≤ number - 1) h.last.clears told_clears low_clears low_clears_told) low (All-append (λ (v : Entry). v.number ≤ number - 1) versions told low low_told)
        (All-nil (λ n. number - 1 < n)) high same
        ∙ (λ d. value_at key (2 ^ 63) (append-nil (h.last.clears ++ told_clears) d) (append_assoc versions told made d))

    pub synced_command : ShowsBatches s (stored_of h versions) id batches [] [] → store_of_contents (contents_with j next behind) ≡ apply (store_of_contents (contents_with j t behind)) (ingestion id items)
    synced_command shows = by_views (λ key. own_after key ∙ shown_more shows key ∙ sym (own_batch key))

-- ---- nothing is pending

-- what holds of all batches where there are no later ones
pub synced_store : (j : Journaling) (t : Tree) (id number : ℕ) (items : List KeyOp) (tables : List MadeTable) (h : Home) (versions : List Entry)
    → (may : MayIngestSynced j t id number h versions)
    → store_of_contents (contents_with j (tree_with id number items tables h versions t) []) ≡ apply (store_of_contents (contents_with j t [])) (ingestion id items)
synced_store j t id number items tables h versions may =
    synced_command j t id number items tables h versions may.come [] [] (sym may.synced)
    (subst (λ (l : List Written). ShowsBatches t.keyspaces (stored_of h versions) id (map shown (batches_in (journals_with j l))) [] []) may.synced may.memory)

-- where all of the keyspace is persisted memory has nothing to show
pub nothing_to_show : (j : Journaling) (t : Tree) (id number : ℕ) (h : Home) (versions : List Entry) → MayIngest j t id number h versions → j.later ≡ []
    → MayIngestSynced j t id number h versions
nothing_to_show j t id number h versions may none =
    let all = map shown (batches_in (journals_with j j.later)) in
    record {
      come = may.come;
      synced = none;
      memory = λ key i. λ d. value_at key i (h.last.clears ++ sym (no_clears_left t.keyspaces h.last.persisted id all may.persisted) d) (versions ++ sym (no_versions t.keyspaces
          h.last.persisted id all may.persisted) d);
    }
