-- Journals of which nothing counts beyond what is stored.
use Rattle.std.proofs.Common.{◌≡◌, inl, inr, ◌==◌, ◌||◌, ℕ, ◌+◌, ◌^◌, ◌<◌, ◌≤◌, max, Bool, true, false, cond, List, [], ◌∷◌, ◌++◌, take, drop, get_or, map, filter, None, subst, refl, sym, ◌∙◌, ap, arith, append_assoc, take-append-drop}
use Rattle.std.proofs.lemmas.Bool.{true≢false}
use Rattle.std.proofs.lemmas.Bool.Decides.{nat_tests}
use Rattle.std.proofs.lemmas.Grind.{flat_map-append}
use Rattle.std.proofs.lemmas.List.{append-nil, map-append}
use Rattle.std.proofs.lemmas.List.Elements.{filter-append}
use Rattle.std.specs.List.{AllByRecursion, list_any}
use Rattle.fjall_base.proofs.Names.{bool_cases}
use Rattle.fjall_manifest.specs.Catalog.{fields}
use Rattle.fjall_meta.specs.Contents.{Stored, clears_held, counts_beyond, is_beyond, map_held, store_held, versions_held}
use Rattle.fjall_meta.proofs.Beyond.{clear_beyond, clear_where, clears_more, entries_beyond, entries_where, versions_more}
use Rattle.fjall_meta.proofs.Held.{same_stores}
use Rattle.fjall_journal.specs.Batches.{Shown, Written, shown}
use Rattle.fjall_journal.specs.declared.batch.ReadBatchItem.{ReadBatchItem}
use Rattle.fjall_meta.specs.Keyspaces.{Keyspaces}
use Rattle.fjall_recovery.specs.Folders.{number_of_contents, past_records, store_of_contents}
use Rattle.fjall_recovery.specs.Halves.{Tree}
use Rattle.fjall_recovery.specs.Homes.{lasts, stored_in}
use Rattle.fjall_recovery.specs.Journals.{WholeJournal, batches_in}
use Rattle.fjall_recovery.specs.Places.{Journaling, contents_with, journals_with}
use Rattle.fjall_recovery.proofs.Roots.{batches_are}
use Rattle.fjall_table.specs.Blocks.{Entry}
use Rattle.fjall_meta.specs.Replays.{first_fault, least_after}
use Rattle.fjall_meta.specs.Views.{clear_in, clears_of, entries_in, entry_of, versions_of}
use Rattle.fjall_meta.proofs.ContentFaults.{least_after-append}
use Rattle.fjall_memtable.specs.Views.{view_of}
use Rattle.fjall_changes.specs.Evictions.{evicted}
use Rattle.fjall_changes.specs.Journaling.{CanFollow, next_number}
use Rattle.fjall_changes.specs.Rotations.{rotated}
use Rattle.fjall_changes.specs.Watermarks.{AreStored, IsStored}
use Rattle.fjall_changes.proofs.ComingAndGoing.{batches-rotated, sound_behind}

-- ---- a rotation

pub rotated_batches : (j : Journaling) → batches_in (journals_with (rotated j) []) ≡ batches_in (journals_with j j.later)
rotated_batches j = batches-rotated j.sealed j.active (j.whole ++ j.later) ∙ sym (batches_are j j.later)

pub rotated_next : (j : Journaling) → next_number (rotated j) ≡ next_number j
rotated_next j = ap (λ (l : List Written). least_after 0 (map shown l)) (rotated_batches j)

pub rotated_store : (j : Journaling) (t : Tree) → store_of_contents (contents_with (rotated j) t []) ≡ store_of_contents (contents_with j t j.later)
rotated_store j t = ap (λ (l : List Written). store_held t.keyspaces (stored_in t.homes t.versions) (map shown l)) (rotated_batches j)

pub rotated_number : (j : Journaling) (t : Tree) → number_of_contents (contents_with (rotated j) t []) ≡ number_of_contents (contents_with j t j.later)
rotated_number j t = ap (λ (l : List Written). max (least_after 0 (map shown l)) (past_records (fields t.last ∷ lasts t.keyspaces.living t.homes))) (rotated_batches j)

-- ---- one batch that is stored

same_number : (a b : ℕ) → (a == b) ≡ true → a ≡ b
same_number a b test = grind (arith, nat_tests)

-- where none of the items' ids passes, none of them is one that does
no_items : (passes : ℕ → Bool) (id : ℕ) (items : List ReadBatchItem) → passes id ≡ true → AllByRecursion (λ item. passes item.keyspace_id ≡ false) items → filter (λ item. item.keyspace_id == id) items ≡ []
no_items passes id [] passed none = refl
no_items passes id (item ∷ items) passed none =
    let rest = filter (λ (i : ReadBatchItem). i.keyspace_id == id) items in
    elim (bool_cases (item.keyspace_id == id)) [
      | inl is ↦ absurd (true≢false (sym passed ∙ ap passes (sym (same_number item.keyspace_id id is)) ∙ none.0))
      | inr not ↦ ap (λ (b : Bool). cond b (item ∷ rest) rest) not ∙ no_items passes id items passed none.1
    ]

no_clear : (passes : ℕ → Bool) (id : ℕ) (ids : List ℕ) → passes id ≡ true → AllByRecursion (λ i. passes i ≡ false) ids → list_any (λ i. i == id) ids ≡ false
no_clear passes id [] passed none = refl
no_clear passes id (i ∷ ids) passed none = elim (bool_cases (i == id)) [
  | inl is ↦ absurd (true≢false (sym passed ∙ ap passes (sym (same_number i id is)) ∙ none.0))
  | inr not ↦ ap (λ (b : Bool). b || list_any (λ k. k == id) ids) not ∙ no_clear passes id ids passed none.1
]

module _ (s : Keyspaces) (stored : ℕ → Stored) where
  entries_none : (b : Shown) (id : ℕ) → IsStored s stored b → filter (λ v. is_beyond (stored id).persisted v.number) (entries_in s id b) ≡ []
  entries_none b id is = entries_beyond (is_beyond (stored id).persisted) s id b ∙ elim (bool_cases (counts_beyond s stored b.number id)) [
    | inl passed ↦ ap (λ (c : Bool). entries_where c id b) passed ∙ ap (map (entry_of b.number)) (no_items (counts_beyond s stored b.number) id b.items passed is.0)
    | inr not ↦ ap (λ (c : Bool). entries_where c id b) not
  ]

  clear_none : (b : Shown) (id : ℕ) → IsStored s stored b → filter (is_beyond (stored id).persisted) (clear_in s id b) ≡ []
  clear_none b id is = clear_beyond (is_beyond (stored id).persisted) s id b ∙ elim (bool_cases (counts_beyond s stored b.number id)) [
    | inl passed ↦
        ap (λ (c : Bool). clear_where c id b) passed
        ∙ ap (λ (c : Bool). cond c (b.number ∷ []) []) (no_clear (counts_beyond s stored b.number) id b.clears passed is.1)
    | inr not ↦ ap (λ (c : Bool). clear_where c id b) not
  ]

  versions_none : (front : List Shown) (id : ℕ) → AllByRecursion (IsStored s stored) front → filter (λ v. is_beyond (stored id).persisted v.number) (versions_of s id front) ≡ []
  versions_none [] id are = refl
  versions_none (b ∷ front) id are =
      filter-append (λ (v : Entry). is_beyond (stored id).persisted v.number) (entries_in s id b) (versions_of s id front)
      ∙ ap (λ (l : List Entry). l ++ filter (λ v. is_beyond (stored id).persisted v.number) (versions_of s id front)) (entries_none b id are.0) ∙ versions_none front id are.1

  clears_none : (front : List Shown) (id : ℕ) → AllByRecursion (IsStored s stored) front → filter (is_beyond (stored id).persisted) (clears_of s id front) ≡ []
  clears_none [] id are = refl
  clears_none (b ∷ front) id are =
      filter-append (is_beyond (stored id).persisted) (clear_in s id b) (clears_of s id front)
      ∙ ap (λ (l : List ℕ). l ++ filter (is_beyond (stored id).persisted) (clears_of s id front)) (clear_none b id are.0) ∙ clears_none front id are.1

  -- the clears of an id, and its versions, without them
  pub same_clears : (id : ℕ) (front behind : List Shown) → AllByRecursion (IsStored s stored) front → clears_held s (stored id) id (front ++ behind) ≡ clears_held s (stored id) id behind
  same_clears id front behind are =
      let h = stored id in
      let later = filter (is_beyond h.persisted) (clears_of s id behind) in
      clears_more s h id front behind ∙ ap (λ (l : List ℕ). (h.clears ++ l) ++ later) (clears_none front id are) ∙ ap (λ (l : List ℕ). l ++ later) (append-nil h.clears)

  pub same_versions : (id : ℕ) (front behind : List Shown) → AllByRecursion (IsStored s stored) front → versions_held s (stored id) id (front ++ behind) ≡ versions_held s (stored id) id behind
  same_versions id front behind are =
      let h = stored id in
      let later = filter (λ (v : Entry). is_beyond h.persisted v.number) (versions_of s id behind) in
      versions_more s h id front behind ∙ ap (λ (l : List Entry). (h.versions ++ l) ++ later) (versions_none front id are) ∙ ap (λ (l : List Entry). l ++ later) (append-nil h.versions)

  same_map : (id : ℕ) (front behind : List Shown) → AllByRecursion (IsStored s stored) front → map_held s (stored id) id (front ++ behind) ≡ map_held s (stored id) id behind
  same_map id front behind are = λ i. view_of (2 ^ 63) (same_clears id front behind are i) (same_versions id front behind are i)

  -- the store without them
  pub same_store : (front behind : List Shown) → AllByRecursion (IsStored s stored) front → store_held s stored (front ++ behind) ≡ store_held s stored behind
  same_store front behind are =
      same_stores s stored stored (front ++ behind) behind (λ i d within. same_map (get_or s.living i d).id front behind are)

-- ---- journals

-- the batches of those that go, and the others
parted : (j : Journaling) (n : ℕ) (behind : List Written) → batches_in (journals_with j behind) ≡ batches_in (take n j.sealed) ++ batches_in (journals_with (evicted n j) behind)
parted j n behind =
    let active : List WholeJournal = record { id = j.active; batches = j.whole ++ behind } ∷ [] in
    ap (λ (l : List WholeJournal). batches_in (l ++ active)) (sym (take-append-drop n j.sealed)) ∙ ap (λ (l : List WholeJournal). batches_in l) (append_assoc (take n j.sealed) (drop n j.sealed) active)
    ∙ flat_map-append (λ (k : WholeJournal). k.batches) (take n j.sealed) (drop n j.sealed ++ active)

pub shown_parted : (j : Journaling) (n : ℕ) (behind : List Written)
    → map shown (batches_in (journals_with j behind)) ≡ map shown (batches_in (take n j.sealed)) ++ map shown (batches_in (journals_with (evicted n j) behind))
shown_parted j n behind = ap (map shown) (parted j n behind) ∙ map-append shown (batches_in (take n j.sealed)) (batches_in (journals_with (evicted n j) behind))

pub evicted_store : (j : Journaling) (t : Tree) (n : ℕ) (behind : List Written) → AreStored t (batches_in (take n j.sealed)) → store_of_contents (contents_with (evicted n j) t behind) ≡ store_of_contents (contents_with j t behind)
evicted_store j t n behind are =
    let stored = stored_in t.homes t.versions in
    sym (ap (store_held t.keyspaces stored) (shown_parted j n behind)
    ∙ same_store t.keyspaces stored (map shown (batches_in (take n j.sealed))) (map shown (batches_in (journals_with (evicted n j) behind))) are)

pub evicted_sound : (j : Journaling) (n : ℕ) (behind : List Written) → first_fault 0 (map shown (batches_in (journals_with j behind))) ≡ None
    → first_fault 0 (map shown (batches_in (journals_with (evicted n j) behind))) ≡ None
evicted_sound j n behind sound =
    sound_behind (batches_in (take n j.sealed)) (batches_in (journals_with (evicted n j) behind)) (ap (λ (l : List Written). first_fault 0 (map shown l)) (sym (parted j n behind)) ∙ sound)

-- ---- numbers

all_shown : (bound : ℕ) (batches : List Written) → AllByRecursion (λ b. b.number < bound) batches → AllByRecursion (λ b. b.number < bound) (map shown batches)
all_shown bound [] low = tt
all_shown bound (b ∷ batches) low = (low.0, all_shown bound batches low.1)

least_low : (bound least : ℕ) (front : List Shown) → least ≤ bound → AllByRecursion (λ b. b.number < bound) front → least_after least front ≤ bound
least_low bound least [] le low = le
least_low bound least (b ∷ front) le low = let lt = low.0 in least_low bound (b.number + 1) front (omega (arith, lt)) low.1

least_without : (bound : ℕ) (front behind : List Shown) → AllByRecursion (λ b. b.number < bound) front → max (least_after 0 behind) bound ≡ max (least_after 0 (front ++ behind)) bound
least_without bound front [] low =
    let le = least_low bound 0 front (omega arith) low in
    let same : max 0 bound ≡ max (least_after 0 front) bound = omega (arith, le) in
    same ∙ ap (λ (l : List Shown). max (least_after 0 l) bound) (sym (append-nil front))
least_without bound front (b ∷ behind) low = ap (λ n. max n bound) (sym (least_after-append 0 front (b ∷ behind)))

pub evicted_number : (j : Journaling) (t : Tree) (n : ℕ) (behind : List Written)
    → AllByRecursion (λ b. b.number < past_records (fields t.last ∷ lasts t.keyspaces.living t.homes)) (batches_in (take n j.sealed)) → number_of_contents (contents_with (evicted n j) t behind) ≡ number_of_contents (contents_with j t behind)
evicted_number j t n behind low =
    let bound = past_records (fields t.last ∷ lasts t.keyspaces.living t.homes) in
    least_without bound (map shown (batches_in (take n j.sealed))) (map shown (batches_in (journals_with (evicted n j) behind))) (all_shown bound (batches_in (take n j.sealed)) low)
    ∙ ap (λ (l : List Shown). max (least_after 0 l) bound) (sym (shown_parted j n behind))

-- the least number behind fewer batches is no greater
fewer_least : (front behind : List Shown) → least_after 0 behind ≤ least_after 0 (front ++ behind)
fewer_least front [] = omega arith
fewer_least front (b ∷ behind) = let same = least_after-append 0 front (b ∷ behind) in omega (arith, same)

pub evicted_follow : (j : Journaling) (n seqno : ℕ) → CanFollow j seqno → CanFollow (evicted n j) seqno
evicted_follow j n seqno can =
    let front = map shown (batches_in (take n j.sealed)) in
    let rest = map shown (batches_in (journals_with (evicted n j) j.later)) in
    let fewer : least_after 0 rest ≤ least_after 0 (front ++ rest) = fewer_least front rest in
    let all : least_after 0 (front ++ rest) ≤ seqno = subst (λ (l : List Shown). least_after 0 l ≤ seqno) (shown_parted j n j.later) can.above in
    record { above = omega (arith, fewer, all); room = can.room }

-- nor is the greatest number of a folder without them
pub evicted_least : (j : Journaling) (t : Tree) (n : ℕ) (behind : List Written) → number_of_contents (contents_with (evicted n j) t behind) ≤ number_of_contents (contents_with j t behind)
evicted_least j t n behind =
    let bound = past_records (fields t.last ∷ lasts t.keyspaces.living t.homes) in
    let front = map shown (batches_in (take n j.sealed)) in
    let rest = map shown (batches_in (journals_with (evicted n j) behind)) in
    let fewer : least_after 0 rest ≤ least_after 0 (front ++ rest) = fewer_least front rest in
    let no_greater : max (least_after 0 rest) bound ≤ max (least_after 0 (front ++ rest)) bound = omega (arith, fewer) in
    subst (λ (l : List Shown). max (least_after 0 rest) bound ≤ max (least_after 0 l) bound) (sym (shown_parted j n behind)) no_greater
