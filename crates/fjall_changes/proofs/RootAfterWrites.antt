-- The root of a disk on which no more than the active journal's file changed.
use Rattle.std.proofs.Common.{◌≡◌, ◌≢◌, inl, ◌==◌, ◌||◌, ℕ, zero, suc, ◌+◌, ◌^◌, ◌<◌, Bool, true, false, List, [], ◌∷◌, ◌++◌, length, take, map, codes, decimal, All, Contains, None, refl, sym, ◌∙◌, ap, subst, arith, append_assoc}
use Rattle.std.proofs.lemmas.List.{append-nil, append_cancel_right, map-append, take_all}
use Rattle.std.proofs.lemmas.List.Elements.{All-head, All-tail, Contains-append_right}
use Rattle.std.proofs.lemmas.List.Folds.{list_any-append}
use Rattle.std.proofs.lemmas.List.Kept.{AllPairs-from_increasing}
use Rattle.std.proofs.lemmas.Bool.{true≢false}
use Rattle.std.proofs.lemmas.Fmt.{decimal_injective}
use Rattle.std.proofs.Math.Seq.{take-append-add, take-append_seam}
use Rattle.std.specs.List.{AllByRecursion, AllPairs, list_any}
use Rattle.std.specs.List.Sorted.{IsStrictlyIncreasing}
use Rattle.fjall_base.specs.Disk.{Name, File, DiskState}
use Rattle.fjall_files.specs.Regions.{IsSafe}
use Rattle.fjall_journal.specs.Batches.{Written, IsWritten, shown}
use Rattle.fjall_journal.specs.Writer as journal
use Rattle.fjall_files.specs.Names.{journal_name}
use Rattle.fjall_meta.specs.Replays.{first_fault}
use Rattle.fjall_recovery.specs.Journals.{WholeJournal, batches_in}
use Rattle.fjall_recovery.specs.Places.{Journaling, LiesInRoot, IsNeverFile, journal_ids, journals_with, texts_of}
use Rattle.fjall_recovery.proofs.Roots.{all_both, batches_are}
use Rattle.fjall_changes.specs.Journaling.{IsWriting, handed, synced}
use Rattle.fjall_changes.proofs.Batches.{texts-append, batches-more}
use Rattle.fjall_changes.proofs.AppendsAndSyncs.{SameBut, place_of}
use Rattle.fjall_changes.proofs.SyncedNames.{NarrowsBut, narrow_only}

-- ---- names

abbrev dot : ℕ → Bool
dot b = b == 46

or_true : (b : Bool) → (b || true) ≡ true
or_true true = refl
or_true false = refl

has_dot : (id : ℕ) → list_any dot (journal_name id) ≡ true
has_dot id = list_any-append dot (decimal id) (codes ".jnl") ∙ or_true (list_any dot (decimal id))

pub no_marker : (id : ℕ) → codes "version" ≢ journal_name id
no_marker id e = true≢false (sym (has_dot id) ∙ ap (list_any dot) (sym e))

pub same_id : (id other : ℕ) → id < 2 ^ 64 → other < 2 ^ 64 → journal_name id ≡ journal_name other → id ≡ other
same_id id other small little e = decimal_injective id other small little (append_cancel_right (decimal id) (decimal other) (codes ".jnl") e)

-- ---- ids

abbrev pub ids_of : List WholeJournal → List ℕ
ids_of journals = map (λ journal. journal.id) journals

pub last_of_all : (P : ℕ → Type 0) (ids : List ℕ) (last : ℕ) → All P (ids ++ last ∷ []) → P last
last_of_all P [] last all = all 0 0 (omega arith)
last_of_all P (id ∷ ids) last all = last_of_all P ids last (All-tail P id (ids ++ last ∷ []) all)

-- each of them has this and is below the last
pub below_last : (P : ℕ → Type 0) (front : List WholeJournal) (last : ℕ) → AllPairs (λ x y. x < y) (ids_of front ++ last ∷ []) → All P (ids_of front ++ last ∷ []) → AllByRecursion (λ k. P k.id × (k.id < last)) front
below_last P [] last ascends each = tt
below_last P (k ∷ front) last ascends each = (
  (All-head P k.id (ids_of front ++ last ∷ []) each, last_of_all (λ y. k.id < y) (ids_of front) last (λ i d within. ascends zero (suc i) d (omega arith) (omega arith))),
  below_last P front last (λ i i' d lt within. ascends (suc i) (suc i') d (omega arith) (omega arith)) (All-tail P k.id (ids_of front ++ last ∷ []) each),
)

-- none of these journals' files has this name
abbrev pub AreOthers : Name → List WholeJournal → Type 0
AreOthers name journals = AllByRecursion (λ k. journal_name k.id ≢ name) journals

-- what was safe under other names still is
pub still_safe : (state new : DiskState) (name : Name) (front : List WholeJournal) → NarrowsBut name state new → AreOthers name front
    → AllByRecursion (λ k. IsSafe state (journal_name k.id) (texts_of k.batches)) front → AllByRecursion (λ k. IsSafe new (journal_name k.id) (texts_of k.batches)) front
still_safe state new name [] same others safe = tt
still_safe state new name (k ∷ front) same others safe = (
  narrow_only (state (journal_name k.id)) (new (journal_name k.id)) (File (texts_of k.batches) []) safe.0 (same (journal_name k.id) others.0),
  still_safe state new name front same others.1 safe.1,
)

-- journals of lesser ids have other names
pub lesser_others : (last : ℕ) (front : List WholeJournal) → last < 2 ^ 64 → AllByRecursion (λ k. (k.id < 2 ^ 64) × (k.id < last)) front → AreOthers (journal_name last) front
lesser_others last [] small below = tt
lesser_others last (k ∷ front) small below = (
  (λ e. let is = same_id k.id last below.0.0 small e in let lt = below.0.1 in absurd (omega (arith, is, lt))),
  lesser_others last front small below.1,
)

-- the ids of all journals, whatever the batches of the active one
pub ids_are : (front : List WholeJournal) (active : ℕ) (batches : List Written) → ids_of (front ++ record { id = active; batches = batches } ∷ []) ≡ ids_of front ++ active ∷ []
ids_are front active batches = map-append (λ (k : WholeJournal). k.id) front (record { id = active; batches = batches } ∷ [])

pub active_fits : (state : DiskState) (j : Journaling) → LiesInRoot state j → j.active < 2 ^ 64
active_fits state j lies = last_of_all (λ id. id < 2 ^ 64) (ids_of j.sealed) j.active (subst (All (λ id. id < 2 ^ 64)) (ids_are j.sealed j.active (j.whole ++ [])) lies.fit)

-- ---- the root

-- the journals, the active one with these batches
abbrev pub with_active : Journaling → List Written → List Written → ℕ → Journaling
with_active j whole later cut = record j { whole = whole; later = later; cut = cut }

pub moved : (state new : DiskState) (j : Journaling) (whole later : List Written) (cut : ℕ) → LiesInRoot state j → SameBut (journal_name j.active) state new
    → new (journal_name j.active) ≡ place_of (texts_of whole) (take cut (texts_of later))
    → AllByRecursion IsWritten (batches_in j.sealed ++ (whole ++ later)) → first_fault 0 (map shown (batches_in j.sealed ++ (whole ++ later))) ≡ None
    → LiesInRoot new (with_active j whole later cut)
moved state new j whole later cut lies same place each sound =
    let Fits : ℕ → Type 0 = λ id. id < 2 ^ 64 in
    let was = ids_are j.sealed j.active (j.whole ++ []) in
    let is = ids_are j.sealed j.active (whole ++ []) in
    let ids : journal_ids j ≡ journal_ids (with_active j whole later cut) = was ∙ sym is in
    let fit = subst (All Fits) was lies.fit in
    let small = active_fits state j lies in
    let below = below_last Fits j.sealed j.active (AllPairs-from_increasing (ids_of j.sealed ++ j.active ∷ []) (subst IsStrictlyIncreasing was lies.ascending)) fit in
    let among : Contains (journal_ids (with_active j whole later cut)) j.active =
    subst (λ (l : List ℕ). Contains l j.active) (sym is) (Contains-append_right (ids_of j.sealed) (j.active ∷ []) j.active (0, omega arith, refl)) in
    record {
      marker_text = lies.marker_text;
      marker = same (codes "version") (no_marker j.active) ∙ lies.marker;
      marker_is = lies.marker_is;
      named = λ name root misnamed. subst IsNeverFile (sym (same name (λ at. misnamed.1 j.active (small, at)))) (lies.named name root misnamed);
      ascending = subst IsStrictlyIncreasing ids lies.ascending;
      fit = subst (All Fits) ids lies.fit;
      others = λ id little none.
          let other : journal_name id ≢ journal_name j.active = λ e. none (subst (Contains (journal_ids (with_active j whole later cut))) (sym (same_id id j.active little small e)) among) in
          subst IsNeverFile (sym (same (journal_name id) other)) (lies.others id little (λ there. none (subst (λ (l : List ℕ). Contains l id) ids there)));
      sealed = still_safe state new (journal_name j.active) j.sealed (λ q other. inl (same q other)) (lesser_others j.active j.sealed small below) lies.sealed;
      active = place;
      written = subst (AllByRecursion IsWritten) (sym (batches_are (with_active j whole later cut) later)) each;
      sound = ap (λ (l : List Written). first_fault 0 (map shown l)) (batches_are (with_active j whole later cut) later) ∙ sound;
    }

-- ---- more batches behind

-- what stands behind the synced bytes with some beginning of the buffer and more text
behind_part : (part buffer all more : List ℕ) (n : ℕ) → part ++ buffer ≡ all → take (length part + n) (all ++ more) ≡ part ++ take n (buffer ++ more)
behind_part part buffer all more n is =
    ap (λ (l : List ℕ). take (length part + n) (l ++ more)) (sym is) ∙ ap (take (length part + n)) (append_assoc part buffer more) ∙ take-append-add part (buffer ++ more) n

module _ (state new : DiskState) (writer : journal.Journal) (j : Journaling) (more : List Written) (writing : IsWriting state writer j) (each : AllByRecursion IsWritten more)
    (sound : first_fault 0 (map shown (batches_in (journals_with j (j.later ++ more)))) ≡ None) (same : SameBut (journal_name j.active) state new) where
  abbrev part : List ℕ
  part = take j.cut (texts_of j.later)

  -- whatever beginning of their texts is in the file
  more_in : (cut : ℕ) → new (journal_name j.active) ≡ place_of (texts_of j.whole) (take cut (texts_of (j.later ++ more))) → LiesInRoot new (with_active j j.whole (j.later ++ more) cut)
  more_in cut place =
      let active = batches_are j (j.later ++ more) in
      moved state new j j.whole (j.later ++ more) cut writing.root same place
      (subst (AllByRecursion IsWritten) (sym (batches-more j more) ∙ active) (all_both IsWritten (batches_in (journals_with j j.later)) more writing.root.written each))
      (ap (λ (l : List Written). first_fault 0 (map shown l)) (sym active) ∙ sound)

  -- some beginning of what waits and of their texts went out
  pub part_lies : (n : ℕ) → new (journal_name j.active) ≡ place_of (texts_of j.whole) (part ++ take n (writer.buffer ++ texts_of more)) → LiesInRoot new (with_active j j.whole (j.later ++ more) (length part + n))
  part_lies n place =
      more_in (length part + n)
      (place ∙ ap (place_of (texts_of j.whole)) (sym (behind_part part writer.buffer (texts_of j.later) (texts_of more) n writing.exact) ∙ ap (take (length part + n)) (sym (texts-append j.later more))))

  -- all of it went out
  pub whole_goes_on : (now : journal.Journal) → new (journal_name j.active) ≡ place_of (texts_of j.whole) (part ++ (writer.buffer ++ texts_of more)) → now.name ≡ writer.name → now.buffer ≡ []
      → IsWriting new now (handed (record j { later = j.later ++ more }))
  whole_goes_on now place name empty =
      let all = texts_of (j.later ++ more) in
      let full : take (length all) all ≡ all = take_all (length all) all (omega arith) in
      let bytes : part ++ (writer.buffer ++ texts_of more) ≡ all = sym (append_assoc part writer.buffer (texts_of more)) ∙ ap (λ (l : List ℕ). l ++ texts_of more) writing.exact ∙ sym (texts-append j.later more) in
      record {
        root = more_in (length all) (place ∙ ap (place_of (texts_of j.whole)) (bytes ∙ sym full));
        name = name ∙ writing.name;
        exact = ap (λ (l : List ℕ). take (length all) all ++ l) empty ∙ append-nil (take (length all) all) ∙ full;
      }

  -- nothing went out: their texts wait behind the buffer's
  pub waiting_goes_on : (now : journal.Journal) → new (journal_name j.active) ≡ state (journal_name j.active) → now.name ≡ writer.name → now.buffer ≡ writer.buffer ++ texts_of more
      → IsWriting new now (record j { later = j.later ++ more; cut = length part })
  waiting_goes_on now place name behind =
      let all = texts_of (j.later ++ more) in
      let parts : all ≡ part ++ (writer.buffer ++ texts_of more) = texts-append j.later more ∙ ap (λ (l : List ℕ). l ++ texts_of more) (sym writing.exact) ∙ append_assoc part writer.buffer (texts_of more) in
      let front : take (length part) all ≡ part = ap (take (length part)) parts ∙ take-append_seam part (writer.buffer ++ texts_of more) in
      record {
        root = more_in (length part) (place ∙ writing.root.active ∙ ap (place_of (texts_of j.whole)) (sym front));
        name = name ∙ writing.name;
        exact = ap (λ (l : List ℕ). l ++ now.buffer) front ∙ ap (λ (l : List ℕ). part ++ l) behind ∙ sym parts;
      }

-- a writer with nothing in its buffer, where all are synced
pub begins : (state : DiskState) (writer : journal.Journal) (j : Journaling) → LiesInRoot state j → j.later ≡ [] → writer.name ≡ journal_name j.active → writer.buffer ≡ [] → IsWriting state writer j
begins state writer j lies none named empty =
    let none_out : take j.cut (texts_of []) ≡ texts_of [] = take_all j.cut [] (omega arith) in
    record {
      root = lies;
      name = named;
      exact = ap (λ (l : List Written). take j.cut (texts_of l) ++ writer.buffer) none ∙ ap (λ (l : List ℕ). l ++ writer.buffer) none_out ∙ empty ∙ ap texts_of (sym none);
    }

-- ---- all of them synced

pub synced_lies : (state new : DiskState) (j : Journaling) → LiesInRoot state j → SameBut (journal_name j.active) state new → new (journal_name j.active) ≡ place_of (texts_of j.whole ++ texts_of j.later) [] → LiesInRoot new (synced j)
synced_lies state new j lies same place =
    let all = j.whole ++ j.later in
    let batches : batches_in (journals_with j j.later) ≡ batches_in j.sealed ++ (all ++ []) =
    batches_are j j.later ∙ ap (λ (l : List Written). batches_in j.sealed ++ l) (sym (append-nil all)) in
    moved state new j all [] 0 lies same (place ∙ ap (λ (l : List ℕ). place_of l []) (sym (texts-append j.whole j.later)))
    (subst (AllByRecursion IsWritten) batches lies.written)
    (ap (λ (l : List Written). first_fault 0 (map shown l)) (sym batches) ∙ lies.sound)
