-- The root of an image with its journals: what a crash leaves of it, and what stands.
use Rattle.std.proofs.Common.{◌≡◌, ◌⊎◌, inl, inr, ⊎_elim, ℕ, zero, suc, ◌+◌, ◌<◌, ◌^◌, true, List, [], ◌∷◌, ◌++◌, length, take, drop, map, codes, Option, None, Some, refl, sym, ◌∙◌, ap, subst, arith, append_assoc, take-append-drop}
use Rattle.std.specs.Prelude.{Contains, Ok}
use Rattle.std.specs.List.{AllByRecursion}
use Rattle.std.specs.Option.{option_or}
use Rattle.std.proofs.lemmas.Bool.{cases_lt}
use Rattle.std.proofs.lemmas.List.{append-nil, drop_at, map-append}
use Rattle.std.proofs.lemmas.Grind.{flat_map-append}
use Rattle.std.proofs.Math.Seq.{drop-append-add}
use Rattle.fjall_base.specs.Disk.{Name, DiskEntry, File, DiskState, Image, Survives, IsFile, folder_of, standing}
use Rattle.fjall_files.specs.Texts.{text_in}
use Rattle.fjall_files.specs.Regions.{IsImageIn, IsSafe}
use Rattle.fjall_journal.specs.declared.batch.Tail.TheVariants.{Clean, Torn}
use Rattle.fjall_journal.specs.Batches.{Written, IsWritten, IsWhole, IsTail, shown}
use Rattle.fjall_journal.proofs.Cuts.{cut_reads}
use Rattle.fjall_journal.proofs.Wholes.{texts_are_whole, whole_behind}
use Rattle.fjall_files.specs.declared.marker.Marker.TheVariants.{Whole}
use Rattle.fjall_files.specs.Marker.{marker_tells}
use Rattle.fjall_files.specs.Names.{IsMisnamed, journal_name}
use Rattle.fjall_meta.specs.Replays.{first_fault}
use Rattle.fjall_meta.proofs.ContentFaults.{first_fault-append}
use Rattle.fjall_recovery.specs.Folders.{file_bytes, marker_bytes}
use Rattle.fjall_recovery.specs.Journals.{AreJournalIds, AreJournalsRead, IsSealed, ReadsAs, WholeJournal, batches_in, journal_text}
use Rattle.fjall_recovery.specs.Naming.{JournalsAreNamed}
use Rattle.fjall_recovery.proofs.Listed.{in_root}
use Rattle.fjall_recovery.specs.Halves.{HasRoot, is_of_root}
use Rattle.fjall_recovery.specs.Places.{Journaling, LiesInRoot, journal_ids, journals_with, texts_of}
use Rattle.fjall_recovery.proofs.Named.{journal_within, keyspaces_not_misnamed, root_cases}
use Rattle.fjall_recovery.proofs.Seen.{IsSeen, ShowsPart, crash_seen, standing_seen, never_file, part_shows, safe_seen, shows_at}

-- ---- ids of journals

first_in : (x : ℕ) (xs : List ℕ) → Contains (x ∷ xs) x
first_in x xs = (0, omega arith, refl)

later_in : (x n : ℕ) (xs : List ℕ) → Contains xs n → Contains (x ∷ xs) n
later_in x n xs (k, lt, at) = (suc k, omega (arith, lt), at)

in_cases : (x n : ℕ) (xs : List ℕ) → Contains (x ∷ xs) n → (x ≡ n) ⊎ Contains xs n
in_cases x n xs (zero, lt, at) = inl at
in_cases x n xs (suc k, lt, at) = inr (k, omega (arith, lt), at)

same_or_not : (x n : ℕ) → (x ≡ n) ⊎ (x ≡ n → ⊥)
same_or_not x n = elim (cases_lt x n) [
  | inl below ↦ inr (λ e. omega (arith, below, e))
  | inr most ↦ elim (cases_lt n x) [ inl above ↦ inr (λ e. omega (arith, above, e)) | inr least ↦ inl (omega (arith, most, least)) ]
]

-- a number is in a list, or it isn't
pub in_or_not : (xs : List ℕ) (n : ℕ) → Contains xs n ⊎ (Contains xs n → ⊥)
in_or_not [] n = inr (λ has. let none : has.0 < 0 = has.1 in omega (arith, none))
in_or_not (x ∷ xs) n = elim (same_or_not x n) [
  | inl is ↦ inl (subst (λ m. Contains (x ∷ xs) m) is (first_in x xs))
  | inr other ↦ elim (in_or_not xs n) [
    | inl later ↦ inl (later_in x n xs later)
    | inr none ↦ inr (λ has. ⊎_elim other none (in_cases x n xs has))
  ]
]

-- what all journals have by their ids, each of these ids has
pub by_ids : (P : ℕ → Type 0) (journals : List WholeJournal) (n : ℕ) → AllByRecursion (λ journal. P journal.id) journals → Contains (map (λ (j : WholeJournal). j.id) journals) n → P n
by_ids P [] n all has = let none : has.0 < 0 = has.1 in absurd (omega (arith, none))
by_ids P (j ∷ journals) n all has = ⊎_elim (λ is. subst P is all.0) (λ later. by_ids P journals n all.1 later) (in_cases j.id n (map (λ (k : WholeJournal). k.id) journals) has)

-- ---- images that agree outside `keyspaces`

reads_alike : (image other : Image) (journals : List WholeJournal) → ((n : ℕ) → Contains (map (λ (j : WholeJournal). j.id) journals) n → other (journal_name n) ≡ image (journal_name n)) → AreJournalsRead image journals → AreJournalsRead other journals
reads_alike image other [] agree read = tt
reads_alike image other (j ∷ []) agree read =
    let same = ap (λ (e : DiskEntry). text_in e) (sym (agree j.id (first_in j.id []))) in
    subst (λ (l : List ℕ). ReadsAs l j.batches Clean ⊎ ReadsAs l j.batches Torn) same read
reads_alike image other (j ∷ k ∷ journals) agree read =
    let same = ap (λ (e : DiskEntry). text_in e) (sym (agree j.id (first_in j.id (map (λ (i : WholeJournal). i.id) (k ∷ journals))))) in (
      subst (λ (l : List ℕ). ReadsAs l j.batches Clean) same read.0,
      reads_alike image other (k ∷ journals) (λ n has. agree n (later_in j.id n (map (λ (i : WholeJournal). i.id) (k ∷ journals)) has)) read.1,
    )

pub roots_alike : (image other : Image) (journals : List WholeJournal) → ((q : Name) → is_of_root q ≡ true → other q ≡ image q) → HasRoot image journals → HasRoot other journals
roots_alike image other journals agree has =
    let at : (id : ℕ) → id < 2 ^ 64 → other (journal_name id) ≡ image (journal_name id) = λ id small. agree (journal_name id) (journal_within id small) in
    let ids = has.holds.ids in
    record {
      marker = ap (λ (e : DiskEntry). marker_tells (file_bytes e)) (agree (codes "version") refl) ∙ has.marker;
      named = λ name root file misnamed. elim (root_cases name root) [
        | inl within ↦ has.named name root (subst IsFile (agree name within) file) misnamed
        | inr is ↦ keyspaces_not_misnamed (subst IsMisnamed is misnamed)
      ];
      holds = record {
        ids = record {
          ascending = ids.ascending;
          each = λ id. (
            (λ is. let stands = (ids.each id).0 is in (stands.0, subst IsFile (sym (at id stands.0)) stands.1)),
            (λ stands. (ids.each id).1 (stands.0, subst IsFile (at id stands.0) stands.1)),
          );
        };
        read = reads_alike image other journals (λ n is. at n ((ids.each n).0 is).0) has.holds.read;
        sound = has.holds.sound;
      };
    }

-- ---- batches

pub all_front : {X : Type 0} (P : X → Type 0) (xs ys : List X) → AllByRecursion P (xs ++ ys) → AllByRecursion P xs
all_front P [] ys all = tt
all_front P (x ∷ xs) ys all = (all.0, all_front P xs ys all.1)

pub all_behind : {X : Type 0} (P : X → Type 0) (xs ys : List X) → AllByRecursion P (xs ++ ys) → AllByRecursion P ys
all_behind P [] ys all = all
all_behind P (x ∷ xs) ys all = all_behind P xs ys all.1

pub all_both : {X : Type 0} (P : X → Type 0) (xs ys : List X) → AllByRecursion P xs → AllByRecursion P ys → AllByRecursion P (xs ++ ys)
all_both P [] ys all others = others
all_both P (x ∷ xs) ys all others = (all.0, all_both P xs ys all.1 others)

first_none : {A : Type 0} (a b : Option A) → option_or a b ≡ None → a ≡ None
first_none None b e = refl
first_none (Some x) b e = e

-- the first of batches without a fault have none
pub sound_front : (front behind : List Written) → first_fault 0 (map shown (front ++ behind)) ≡ None → first_fault 0 (map shown front) ≡ None
sound_front front behind sound =
    first_none (first_fault 0 (map shown front)) _ (sym (first_fault-append 0 (map shown front) (map shown behind)) ∙ ap (first_fault 0) (sym (map-append shown front behind)) ∙ sound)

-- the texts of whole batches, and nothing behind them
pub clean_reads : (batches : List Written) → AllByRecursion IsWritten batches → ReadsAs (texts_of batches) batches Clean
clean_reads batches written = record {
  end = length (texts_of batches);
  whole = texts_are_whole batches written;
  behind = ap (drop (length (texts_of batches))) (sym (append-nil (texts_of batches))) ∙ drop_at (texts_of batches) [] (length (texts_of batches)) refl;
}

-- a text of whole batches and a beginning of the later ones' texts reads as the whole ones and some of the later ones
pub record ReadsSome (whole later : List Written) (text : List ℕ) : Type 0 where
  pub behind : List Written
  pub rest : List Written
  pub all : behind ++ rest ≡ later
  pub read : ReadsAs text (whole ++ behind) Clean ⊎ ReadsAs text (whole ++ behind) Torn

pub part_reads : (whole later : List Written) (part lost : List ℕ) → AllByRecursion IsWritten (whole ++ later) → part ++ lost ≡ texts_of later → ReadsSome whole later (texts_of whole ++ part)
part_reads whole later part lost written all =
    let cut = cut_reads later part lost (all_behind IsWritten whole later written) all in
    let count = length (texts_of cut.kept) in
    let front = texts_of whole in
    let reads : IsWhole (front ++ part) (whole ++ cut.kept) (length front + count) = whole_behind whole cut.kept part count (all_front IsWritten whole later written) cut.whole in
    let left : drop count part ≡ drop (length front + count) (front ++ part) = sym (drop-append-add front part count) in
    record {
      behind = cut.kept;
      rest = cut.gone;
      all = cut.all;
      read = ⊎_elim
          (λ clean. inl (record { end = length front + count; whole = reads; behind = subst (λ (l : List ℕ). IsTail l Clean) left clean }))
          (λ torn. inr (record { end = length front + count; whole = reads; behind = subst (λ (l : List ℕ). IsTail l Torn) left torn })) cut.tail;
    }

-- a beginning of a beginning
twice_taken : (n m : ℕ) (xs : List ℕ) → take n (take m xs) ++ (drop n (take m xs) ++ drop m xs) ≡ xs
twice_taken n m xs =
    sym (append_assoc (take n (take m xs)) (drop n (take m xs)) (drop m xs)) ∙ ap (λ (l : List ℕ). l ++ drop m xs) (take-append-drop n (take m xs)) ∙ take-append-drop m xs

-- ---- an image that shows a root

reads_all : (image : Image) (sealed : List WholeJournal) (active : WholeJournal) → AllByRecursion (IsSealed image) sealed → ReadsAs (journal_text image active.id) active.batches Clean ⊎ ReadsAs (journal_text image active.id) active.batches Torn → AreJournalsRead image (sealed ++ active ∷ [])
reads_all image [] active all last = last
reads_all image (j ∷ []) active all last = (all.0, last)
reads_all image (j ∷ k ∷ sealed) active all last = (all.0, reads_all image (k ∷ sealed) active all.1 last)

-- what the last batches are matters to no id
pub same_ids : (j : Journaling) (behind : List Written) → journal_ids j ≡ map (λ (k : WholeJournal). k.id) (journals_with j behind)
same_ids j behind =
    map-append (λ (k : WholeJournal). k.id) j.sealed (record { id = j.active; batches = j.whole ++ [] } ∷ [])
    ∙ sym (map-append (λ (k : WholeJournal). k.id) j.sealed (record { id = j.active; batches = j.whole ++ behind } ∷ []))

-- the batches of all journals are those of the sealed ones and then the active one's
pub batches_are : (j : Journaling) (behind : List Written) → batches_in (journals_with j behind) ≡ batches_in j.sealed ++ (j.whole ++ behind)
batches_are j behind =
    flat_map-append (λ (k : WholeJournal). k.batches) j.sealed (record { id = j.active; batches = j.whole ++ behind } ∷ []) ∙ ap (λ (l : List Written). batches_in j.sealed ++ l) (append-nil (j.whole ++ behind))

-- fewer later batches have no fault either
pub fewer_sound : (j : Journaling) (behind rest : List Written) → behind ++ rest ≡ j.later → first_fault 0 (map shown (batches_in (journals_with j j.later))) ≡ None → first_fault 0 (map shown (batches_in (journals_with j behind))) ≡ None
fewer_sound j behind rest all sound =
    let sealed = batches_in j.sealed in
    let more : batches_in (journals_with j behind) ++ rest ≡ batches_in (journals_with j j.later) =
    ap (λ (l : List Written). l ++ rest) (batches_are j behind) ∙ append_assoc sealed (j.whole ++ behind) rest ∙ ap (λ (l : List Written). sealed ++ l) (append_assoc j.whole behind rest ∙ ap (λ (l : List Written). j.whole ++ l) all)
    ∙ sym (batches_are j j.later) in
    sound_front (batches_in (journals_with j behind)) rest (ap (λ (l : List Written). first_fault 0 (map shown l)) more ∙ sound)

-- what the active journal's file has
pub active_written : (j : Journaling) → AllByRecursion IsWritten (batches_in (journals_with j j.later)) → AllByRecursion IsWritten (j.whole ++ j.later)
active_written j written = all_behind IsWritten (batches_in j.sealed) (j.whole ++ j.later) (subst (AllByRecursion IsWritten) (batches_are j j.later) written)

pub sealed_written : (j : Journaling) → AllByRecursion IsWritten (batches_in (journals_with j j.later)) → AllByRecursion IsWritten (batches_in j.sealed)
sealed_written j written = all_front IsWritten (batches_in j.sealed) (j.whole ++ j.later) (subst (AllByRecursion IsWritten) (batches_are j j.later) written)

-- the root of an image, with some of the later batches
abbrev pub HasSomeRoot : Image → Journaling → Type 0
HasSomeRoot image j = (behind rest : List Written) × (behind ++ rest ≡ j.later) × HasRoot image (journals_with j behind)

module _ (state : DiskState) (image : Image) (seen : IsSeen is_of_root state image) where
  -- a safe file of the root stands there with its bytes
  pub root_file : (q : Name) (bytes : List ℕ) → folder_of q ≡ [] → is_of_root q ≡ true → IsSafe state q bytes → image q ≡ File bytes []
  root_file q bytes root within safe = safe_seen is_of_root state image seen q bytes within (inl root) safe

  pub journal_file : (id : ℕ) (bytes : List ℕ) → id < 2 ^ 64 → IsSafe state (journal_name id) bytes → image (journal_name id) ≡ File bytes []
  journal_file id bytes small safe = root_file (journal_name id) bytes (in_root id small) (journal_within id small) safe

  sealed_seen : (sealed : List WholeJournal) → AllByRecursion (λ journal. journal.id < 2 ^ 64) sealed → AllByRecursion (λ journal. IsSafe state (journal_name journal.id) (texts_of journal.batches)) sealed → AllByRecursion IsWritten (batches_in sealed) → AllByRecursion (IsSealed image) sealed
  sealed_seen [] small safe written = tt
  sealed_seen (j ∷ sealed) small safe written =
      let text : journal_text image j.id ≡ texts_of j.batches = ap (λ (e : DiskEntry). text_in e) (journal_file j.id (texts_of j.batches) small.0 safe.0) ∙ append-nil (texts_of j.batches) in (
        subst (λ (l : List ℕ). ReadsAs l j.batches Clean) (sym text) (clean_reads j.batches (all_front IsWritten j.batches (batches_in sealed) written)),
        sealed_seen sealed small.1 safe.1 (all_behind IsWritten j.batches (batches_in sealed) written),
      )

  sealed_files : (sealed : List WholeJournal) → AllByRecursion (λ journal. journal.id < 2 ^ 64) sealed → AllByRecursion (λ journal. IsSafe state (journal_name journal.id) (texts_of journal.batches)) sealed → AllByRecursion (λ journal. IsFile (image (journal_name journal.id))) sealed
  sealed_files [] small safe = tt
  sealed_files (j ∷ sealed) small safe = (subst IsFile (sym (journal_file j.id (texts_of j.batches) small.0 safe.0)) tt, sealed_files sealed small.1 safe.1)

  module _ (j : Journaling) (lies : LiesInRoot state j) where
    small_id : (id : ℕ) → Contains (journal_ids j) id → id < 2 ^ 64
    small_id id (k, lt, at) = subst (λ m. m < 2 ^ 64) at (lies.fit k id lt)

    small_all : (front behind : List WholeJournal) → ((id : ℕ) → Contains (map (λ (k : WholeJournal). k.id) (front ++ behind)) id → id < 2 ^ 64) → AllByRecursion (λ journal. journal.id < 2 ^ 64) front
    small_all [] behind small = tt
    small_all (k ∷ front) behind small = (small k.id (first_in k.id _), small_all front behind (λ id has. small id (later_in k.id id _ has)))

    small_sealed : AllByRecursion (λ journal. journal.id < 2 ^ 64) j.sealed
    small_sealed = small_all j.sealed (record { id = j.active; batches = j.whole ++ [] } ∷ []) small_id

    last_in : (front : List WholeJournal) (active : WholeJournal) → Contains (map (λ (k : WholeJournal). k.id) (front ++ active ∷ [])) active.id
    last_in [] active = first_in active.id []
    last_in (k ∷ front) active = later_in k.id active.id _ (last_in front active)

    small_active : j.active < 2 ^ 64
    small_active = small_id j.active (last_in j.sealed (record { id = j.active; batches = j.whole ++ [] }))

    -- the active journal's file stands there, with a beginning of the later batches' texts
    pub active_seen : ShowsPart (texts_of j.whole) (take j.cut (texts_of j.later)) (image (journal_name j.active))
    active_seen =
        part_shows (texts_of j.whole) (take j.cut (texts_of j.later)) (image (journal_name j.active))
        (shows_at is_of_root state image seen (journal_name j.active) (File (texts_of j.whole) (take j.cut (texts_of j.later))) (journal_within j.active small_active) (inl (in_root j.active small_active)) lies.active)

    journal_stands : (id : ℕ) → Contains (journal_ids j) id → IsFile (image (journal_name id))
    journal_stands id has =
        by_ids (λ n. IsFile (image (journal_name n))) (journals_with j []) id
        (all_both (λ (journal : WholeJournal). IsFile (image (journal_name journal.id))) j.sealed (record { id = j.active; batches = j.whole ++ [] } ∷ []) (sealed_files j.sealed small_sealed lies.sealed) (active_seen.file, tt)) has

    no_other : (id : ℕ) → id < 2 ^ 64 → IsFile (image (journal_name id)) → Contains (journal_ids j) id
    no_other id small file = elim (in_or_not (journal_ids j) id) [
      | inl has ↦ has
      | inr none ↦ absurd (never_file (state (journal_name id)) (image (journal_name id)) (lies.others id small none) (seen (journal_name id) (journal_within id small) (inl (in_root id small))) file)
    ]

    ids_seen : AreJournalIds image (journal_ids j)
    ids_seen = record {
      ascending = lies.ascending;
      each = λ id. ((λ has. (small_id id has, journal_stands id has)), (λ stands. no_other id stands.0 stands.1));
    }

    named_seen : JournalsAreNamed image
    named_seen name root file misnamed = elim (root_cases name root) [
      | inl within ↦ never_file (state name) (image name) (lies.named name root misnamed) (seen name within (inl root)) file
      | inr is ↦ keyspaces_not_misnamed (subst IsMisnamed is misnamed)
    ]

    marker_seen : marker_tells (marker_bytes image) ≡ Ok Whole
    marker_seen =
        ap (λ (e : DiskEntry). marker_tells (file_bytes e)) (root_file (codes "version") lies.marker_text refl refl lies.marker)
        ∙ ap (λ (l : List ℕ). marker_tells (Some l)) (append-nil lies.marker_text) ∙ lies.marker_is

    pub root_seen : HasSomeRoot image j
    root_seen =
        let part = take active_seen.count (take j.cut (texts_of j.later)) in
        let reads = part_reads j.whole j.later part (drop active_seen.count (take j.cut (texts_of j.later)) ++ drop j.cut (texts_of j.later)) (active_written j lies.written) (twice_taken active_seen.count j.cut (texts_of j.later)) in
        let read = subst (λ (l : List ℕ). ReadsAs l (j.whole ++ reads.behind) Clean ⊎ ReadsAs l (j.whole ++ reads.behind) Torn) (sym active_seen.text) reads.read in (
          reads.behind,
          reads.rest,
          reads.all,
          record {
            marker = marker_seen;
            named = named_seen;
            holds = record {
              ids = subst (AreJournalIds image) (same_ids j reads.behind) ids_seen;
              read = reads_all image j.sealed (record { id = j.active; batches = j.whole ++ reads.behind }) (sealed_seen j.sealed small_sealed lies.sealed (sealed_written j lies.written)) read;
              sound = fewer_sound j reads.behind reads.rest reads.all lies.sound;
            };
          },
        )

pub crashes_leave_the_root : (state : DiskState) (image : Image) (j : Journaling) → LiesInRoot state j → IsImageIn Survives is_of_root state image → HasSomeRoot image j
crashes_leave_the_root state image j lies is = root_seen state image (crash_seen is_of_root state image is) j lies

-- what stands has the root that lies there
pub standing_root : (state : DiskState) (j : Journaling) → LiesInRoot state j → HasSomeRoot (standing state) j
standing_root state j lies = root_seen state (standing state) (standing_seen is_of_root state) j lies
