-- The root of a disk in which a journal came behind the others, or the oldest one went.
use Rattle.std.proofs.Common.{◌≡◌, ◌≢◌, ◌⊎◌, inl, inr, ⊎_elim, ◌||◌, nat_lt, nat_le, ℕ, zero, suc, ◌+◌, ◌^◌, ◌<◌, ◌≤◌, Bool, true, false, if◌then◌else◌, List, [], ◌∷◌, ◌++◌, length, map, codes, slice_index, All, Contains, Option, None, Some, refl, sym, ◌∙◌, ap, subst, arith, append_assoc}
use Rattle.std.proofs.lemmas.List.{append-nil, map-append}
use Rattle.std.proofs.lemmas.List.Elements.{All-append, All-head, All-tail, Contains-append_left, Contains-append_right}
use Rattle.std.proofs.lemmas.List.Kept.{AllPairs-from_increasing}
use Rattle.std.proofs.lemmas.Bool.Decides.{nat_tests}
use Rattle.std.proofs.lemmas.Grind.{flat_map-append}
use Rattle.std.specs.List.{AllByRecursion, list_any}
use Rattle.std.specs.List.Sorted.{IsStrictlyIncreasing}
use Rattle.std.specs.Option.{option_or}
use Rattle.fjall_base.specs.Disk.{Name, File, Missing, DiskState}
use Rattle.fjall_files.specs.Regions.{IsSafe}
use Rattle.fjall_files.specs.Names.{journal_name}
use Rattle.fjall_manifest.specs.Homes.{only}
use Rattle.fjall_journal.specs.Batches.{Shown, Written, IsWritten, shown}
use Rattle.fjall_meta.specs.Replays.{Unordered, Indirect, JournalFault, fault_of, first_fault, is_indirect, least_after}
use Rattle.fjall_meta.proofs.ContentFaults.{first_fault-append}
use Rattle.fjall_recovery.specs.Journals.{WholeJournal, batches_in}
use Rattle.fjall_recovery.specs.Places.{Journaling, LiesInRoot, IsNeverFile, journal_ids, journals_with, texts_of}
use Rattle.fjall_recovery.proofs.Roots.{all_behind, all_both, batches_are, by_ids}
use Rattle.fjall_changes.proofs.AppendsAndSyncs.{place_of}
use Rattle.fjall_changes.proofs.RootAfterWrites.{AreOthers, below_last, ids_are, ids_of, last_of_all, lesser_others, no_marker, same_id, still_safe}
use Rattle.fjall_changes.proofs.SyncedNames.{NarrowsBut, narrow_never, narrow_only}

-- ---- ids

one_all : (P : ℕ → Type 0) (x : ℕ) → P x → All P (x ∷ [])
one_all P x is zero d lt = is
one_all P x is (suc k) d lt = absurd (omega (arith, lt))

-- one number behind another, and both one further behind
one_on : (k : ℕ) → suc k + 1 ≡ suc (k + 1)
one_on k = omega arith

tail_rises : (x : ℕ) (xs : List ℕ) → IsStrictlyIncreasing (x ∷ xs) → IsStrictlyIncreasing xs
tail_rises x xs rise k within = subst (λ n. slice_index xs k < slice_index (x ∷ xs) n) (one_on k) (rise (suc k) (omega (arith, within)))

first_of : (xs : List ℕ) (a b : ℕ) → slice_index (xs ++ a ∷ []) 0 ≡ slice_index (xs ++ a ∷ b ∷ []) 0
first_of [] a b = refl
first_of (x ∷ xs) a b = refl

-- numbers that rise, and a greater one behind them
rises_on : (xs : List ℕ) (a b : ℕ) → IsStrictlyIncreasing (xs ++ a ∷ []) → a < b → IsStrictlyIncreasing (xs ++ a ∷ b ∷ [])
rises_on [] a b rise lt zero within = lt
rises_on [] a b rise lt (suc k) within = absurd (omega (arith, within))
rises_on (x ∷ xs) a b rise lt zero within = subst (λ n. x < n) (first_of xs a b) (rise zero (long xs))
  where
    long : (xs : List ℕ) → zero + 1 < length (x ∷ (xs ++ a ∷ []))
    long [] = omega arith
    long (y ∷ ys) = omega arith
rises_on (x ∷ xs) a b rise lt (suc k) within =
    let all = xs ++ a ∷ b ∷ [] in
    subst (λ n. slice_index all k < slice_index (x ∷ all) n) (sym (one_on k)) (rises_on xs a b (tail_rises x (xs ++ a ∷ []) rise) lt k (omega (arith, within)))

pub all_by_recursion : (P : ℕ → Type 0) (front : List WholeJournal) (last : ℕ) → All P (ids_of front ++ last ∷ []) → AllByRecursion (λ k. P k.id) front
all_by_recursion P [] last all = tt
all_by_recursion P (k ∷ front) last all = (All-head P k.id (ids_of front ++ last ∷ []) all, all_by_recursion P front last (All-tail P k.id (ids_of front ++ last ∷ []) all))

-- journals of greater ids have other names
greater_others : (first : ℕ) (front : List WholeJournal) → first < 2 ^ 64 → AllByRecursion (λ k. (k.id < 2 ^ 64) × (first < k.id)) front → AreOthers (journal_name first) front
greater_others first [] small above = tt
greater_others first (k ∷ front) small above = (
  (λ e. let is = same_id k.id first above.0.0 small e in let lt = above.0.1 in absurd (omega (arith, is, lt))),
  greater_others first front small above.1,
)

pub same_or_not : (x n : ℕ) → (x ≡ n) ⊎ (x ≢ n)
same_or_not zero zero = inl refl
same_or_not zero (suc n) = inr (λ e. omega (arith, e))
same_or_not (suc x) zero = inr (λ e. omega (arith, e))
same_or_not (suc x) (suc n) = ⊎_elim (λ is. inl (ap suc is)) (λ not. inr (λ e. not (omega (arith, e)))) (same_or_not x n)

-- ---- batches

-- the batches once the active journal is sealed
pub batches-rotated : (sealed : List WholeJournal) (active : ℕ) (whole : List Written)
    → batches_in ((sealed ++ record { id = active; batches = whole } ∷ []) ++ record { id = active + 1; batches = [] } ∷ []) ≡ batches_in sealed ++ whole
batches-rotated sealed active whole =
    let batches = λ (k : WholeJournal). k.batches in
    flat_map-append batches (sealed ++ record { id = active; batches = whole } ∷ []) (record { id = active + 1; batches = [] } ∷ [])
    ∙ append-nil (batches_in (sealed ++ record { id = active; batches = whole } ∷ []))
    ∙ flat_map-append batches sealed (record { id = active; batches = whole } ∷ []) ∙ ap (λ (l : List Written). batches_in sealed ++ l) (append-nil whole)

no_fault_then : (a b : Option JournalFault) → option_or a b ≡ None → (a ≡ None) × (b ≡ None)
no_fault_then None b e = (refl, e)
no_fault_then (Some x) b e = let no : Some x ≡ None = e in cc

no_test : (test : Bool) (rest : Option JournalFault) → (if test then Some Unordered else rest) ≡ None → (test ≡ false) × (rest ≡ None)
no_test true rest e = let no : Some Unordered ≡ None = e in cc
no_test false rest e = (refl, e)

lesser_test : (least other number : ℕ) → other ≤ least → (nat_lt number least || nat_le (2 ^ 63) number) ≡ false → (nat_lt number other || nat_le (2 ^ 63) number) ≡ false
lesser_test least other number le test = grind (arith, nat_tests)

-- where the first batch may have this number it may have a lesser one too
fault_less : (least other : ℕ) (batch : Shown) → other ≤ least → fault_of least batch ≡ None → fault_of other batch ≡ None
fault_less least other batch le none =
    let rest = if list_any is_indirect batch.items then Some Indirect else None in
    let parts = no_test (nat_lt batch.number least || nat_le (2 ^ 63) batch.number) rest none in
    ap (λ (b : Bool). if b then Some Unordered else rest) (lesser_test least other batch.number le parts.0) ∙ parts.1

first_fault_less : (least other : ℕ) (batches : List Shown) → other ≤ least → first_fault least batches ≡ None → first_fault other batches ≡ None
first_fault_less least other [] le none = refl
first_fault_less least other (batch ∷ batches) le none =
    let parts = no_fault_then (fault_of least batch) (first_fault (batch.number + 1) batches) none in
    ap (λ (f : Option JournalFault). option_or f (first_fault (batch.number + 1) batches)) (fault_less least other batch le parts.0) ∙ parts.1

-- the last of batches without a fault have none
pub sound_behind : (front behind : List Written) → first_fault 0 (map shown (front ++ behind)) ≡ None → first_fault 0 (map shown behind) ≡ None
sound_behind front behind sound =
    let parts = no_fault_then (first_fault 0 (map shown front)) (first_fault (least_after 0 (map shown front)) (map shown behind))
    (sym (first_fault-append 0 (map shown front) (map shown behind)) ∙ ap (first_fault 0) (sym (map-append shown front behind)) ∙ sound) in
    first_fault_less (least_after 0 (map shown front)) 0 (map shown behind) (omega arith) parts.1

-- ---- a journal came

-- the journals, all of whose batches are synced
abbrev Rest : List WholeJournal → ℕ → List Written → Journaling
Rest sealed active whole = record { sealed = sealed; active = active; whole = whole; later = []; cut = 0 }

-- and those with an empty one behind
abbrev Begun : List WholeJournal → ℕ → List Written → Journaling
Begun sealed active whole = record { sealed = sealed ++ record { id = active; batches = whole } ∷ []; active = active + 1; whole = []; later = []; cut = 0 }

abbrev pub Fits : ℕ → Type 0
Fits id = id < 2 ^ 64

-- ids of 64 bits, below this one
abbrev AreBelow : ℕ → List WholeJournal → Type 0
AreBelow bound journals = AllByRecursion (λ k. (k.id < 2 ^ 64) × (k.id < bound)) journals

further : (bound : ℕ) (front : List WholeJournal) → AreBelow bound front → AreBelow (bound + 1) front
further bound [] all = tt
further bound (k ∷ front) all = let lt = all.0.1 in ((all.0.0, omega (arith, lt)), further bound front all.1)

least : (bound : ℕ) (front : List WholeJournal) → AreBelow bound front → AllByRecursion (λ k. k.id < bound) front
least bound [] all = tt
least bound (k ∷ front) all = (all.0.1, least bound front all.1)

module _ (state : DiskState) (j : Journaling) (lies : LiesInRoot state j) (room : j.active + 1 < 2 ^ 64) where
  was : journal_ids j ≡ ids_of j.sealed ++ j.active ∷ []
  was = ids_are j.sealed j.active (j.whole ++ [])

  old_fit : All Fits (ids_of j.sealed ++ j.active ∷ [])
  old_fit = subst (All Fits) was lies.fit

  rise : IsStrictlyIncreasing (ids_of j.sealed ++ j.active ∷ [])
  rise = subst IsStrictlyIncreasing was lies.ascending

  below : (batches : List Written) → AreBelow (j.active + 1) (j.sealed ++ record { id = j.active; batches = batches } ∷ [])
  below batches =
      let all = below_last Fits j.sealed j.active (AllPairs-from_increasing (ids_of j.sealed ++ j.active ∷ []) rise) old_fit in
      all_both (λ k. (k.id < 2 ^ 64) × (k.id < j.active + 1)) j.sealed (record { id = j.active; batches = batches } ∷ []) (further j.active j.sealed all) ((omega (arith, room), omega arith), tt)

  not_there : Contains (journal_ids j) (j.active + 1) → ⊥
  not_there has =
      let lt = by_ids (λ n. n < j.active + 1) (journals_with j []) (j.active + 1) (least (j.active + 1) (journals_with j []) (below (j.whole ++ []))) has in
      omega (arith, lt)

  -- no file stands in the place of the next one
  pub free_next : IsNeverFile (state (journal_name (j.active + 1)))
  free_next = lies.others (j.active + 1) room not_there

module _ (state : DiskState) (sealed : List WholeJournal) (active : ℕ) (whole : List Written) (lies : LiesInRoot state (Rest sealed active whole)) (room : active + 1 < 2 ^ 64) where
  abbrev next : Name
  next = journal_name (active + 1)

  abbrev old : Journaling
  old = Rest sealed active whole

  is : journal_ids (Begun sealed active whole) ≡ (ids_of sealed ++ active ∷ []) ++ (active + 1) ∷ []
  is = ids_are (sealed ++ record { id = active; batches = whole } ∷ []) (active + 1) ([] ++ []) ∙ ap (λ (l : List ℕ). l ++ (active + 1) ∷ []) (ids_are sealed active whole)

  among : Contains (journal_ids (Begun sealed active whole)) (active + 1)
  among = subst (λ (l : List ℕ). Contains l (active + 1)) (sym is) (Contains-append_right (ids_of sealed ++ active ∷ []) ((active + 1) ∷ []) (active + 1) (0, omega arith, refl))

  batches_same : batches_in (journals_with (Begun sealed active whole) []) ≡ batches_in (journals_with (Rest sealed active whole) [])
  batches_same =
      batches-rotated sealed active whole
      ∙ ap (λ (l : List Written). batches_in sealed ++ l) (sym (append-nil whole)) ∙ sym (batches_are (Rest sealed active whole) [])

  pub came : (new : DiskState) → NarrowsBut next state new → new next ≡ place_of [] [] → LiesInRoot new (Begun sealed active whole)
  came new same place =
      let other : (id : ℕ) → id < 2 ^ 64 → id ≢ active + 1 → journal_name id ≢ next = λ id little not e. not (same_id id (active + 1) little room e) in
      let safe = all_both (λ k. IsSafe state (journal_name k.id) (texts_of k.batches)) sealed (record { id = active; batches = whole } ∷ []) lies.sealed (lies.active, tt) in
      record {
        marker_text = lies.marker_text;
        marker = narrow_only (state (codes "version")) (new (codes "version")) (File lies.marker_text []) lies.marker (same (codes "version") (no_marker (active + 1)));
        marker_is = lies.marker_is;
        named = λ name root misnamed. narrow_never (state name) (new name) (lies.named name root misnamed) (same name (λ at. misnamed.1 (active + 1) (room, at)));
        ascending = subst IsStrictlyIncreasing (sym (is ∙ append_assoc (ids_of sealed) (active ∷ []) ((active + 1) ∷ []))) (rises_on (ids_of sealed) active (active + 1) (rise state old lies room) (omega arith));
        fit = subst (All Fits) (sym is) (All-append Fits (ids_of sealed ++ active ∷ []) ((active + 1) ∷ []) (old_fit state old lies room) (one_all Fits (active + 1) room));
        others = λ id little none.
            let absent : Contains (journal_ids (Rest sealed active whole)) id → ⊥ = λ there.
            none (subst (λ (l : List ℕ). Contains l id) (sym is) (Contains-append_left (ids_of sealed ++ active ∷ []) ((active + 1) ∷ []) id (subst (λ (l : List ℕ). Contains l id) (was state old lies room) there))) in
            narrow_never (state (journal_name id)) (new (journal_name id)) (lies.others id little absent)
            (same (journal_name id) (other id little (λ e. none (subst (Contains (journal_ids (Begun sealed active whole))) (sym e) among))));
        sealed = still_safe state new next (sealed ++ record { id = active; batches = whole } ∷ []) same
            (lesser_others (active + 1) (sealed ++ record { id = active; batches = whole } ∷ []) room (below state old lies room whole)) safe;
        active = place;
        written = subst (AllByRecursion IsWritten) (sym batches_same) lies.written;
        sound = ap (λ (l : List Written). first_fault 0 (map shown l)) batches_same ∙ lies.sound;
      }

-- ---- the oldest went

-- the journals with these sealed ones
abbrev pub with_sealed : List WholeJournal → Journaling → Journaling
with_sealed sealed j = record j { sealed = sealed }

pub went : (state new : DiskState) (gone : WholeJournal) (sealed : List WholeJournal) (j : Journaling) → LiesInRoot state (with_sealed (gone ∷ sealed) j)
    → NarrowsBut (journal_name gone.id) state new → new (journal_name gone.id) ≡ only Missing → LiesInRoot new (with_sealed sealed j)
went state new gone sealed j lies same place =
    let rest = journal_ids (with_sealed sealed j) in
    let is = ids_are sealed j.active (j.whole ++ []) in
    let fit : All Fits rest = All-tail Fits gone.id rest lies.fit in
    let small : gone.id < 2 ^ 64 = All-head Fits gone.id rest lies.fit in
    let ascends = AllPairs-from_increasing (gone.id ∷ rest) lies.ascending in
    let above : All (λ id. Fits id × (gone.id < id)) (ids_of sealed ++ j.active ∷ []) =
    subst (All (λ id. Fits id × (gone.id < id))) is (λ i d within. (fit i d within, ascends zero (suc i) d (omega arith) (omega (arith, within)))) in
    let last = last_of_all (λ id. Fits id × (gone.id < id)) (ids_of sealed) j.active above in
    let active_other : journal_name j.active ≢ journal_name gone.id = λ e. let at = same_id j.active gone.id last.0 small e in let lt = last.1 in absurd (omega (arith, at, lt)) in
    record {
      marker_text = lies.marker_text;
      marker = narrow_only (state (codes "version")) (new (codes "version")) (File lies.marker_text []) lies.marker (same (codes "version") (no_marker gone.id));
      marker_is = lies.marker_is;
      named = λ name root misnamed. narrow_never (state name) (new name) (lies.named name root misnamed) (same name (λ at. misnamed.1 gone.id (small, at)));
      ascending = tail_rises gone.id rest lies.ascending;
      fit = fit;
      others = λ id little none. ⊎_elim
          (λ (at : gone.id ≡ id). subst (λ n. IsNeverFile (new (journal_name n))) at (subst IsNeverFile (sym place) (tt, tt)))
          (λ (not : gone.id ≢ id).
          let absent : Contains (gone.id ∷ rest) id → ⊥ = λ there. ⊎_elim not none (in_cases gone.id id rest there) in
          narrow_never (state (journal_name id)) (new (journal_name id)) (lies.others id little absent)
          (same (journal_name id) (λ e. not (sym (same_id id gone.id little small e)))))
          (same_or_not gone.id id);
      sealed = still_safe state new (journal_name gone.id) sealed same (greater_others gone.id sealed small (all_by_recursion (λ id. Fits id × (gone.id < id)) sealed j.active above)) lies.sealed.1;
      active = narrow_only (state (journal_name j.active)) (new (journal_name j.active)) _ lies.active (same (journal_name j.active) active_other);
      written = all_behind IsWritten gone.batches (batches_in (journals_with (with_sealed sealed j) j.later)) lies.written;
      sound = sound_behind gone.batches (batches_in (journals_with (with_sealed sealed j) j.later)) lies.sound;
    }
  where
    in_cases : (x n : ℕ) (xs : List ℕ) → Contains (x ∷ xs) n → (x ≡ n) ⊎ Contains xs n
    in_cases x n xs (zero, lt, at) = inl at
    in_cases x n xs (suc k, lt, at) = inr (k, omega (arith, lt), at)
