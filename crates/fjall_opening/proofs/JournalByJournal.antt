-- The journals of a folder, taken one after another as they were read before.
use Rattle.std.proofs.Common.{◌≡◌, ◌↔◌, ℕ, ◌+◌, ◌-◌, ◌<◌, ◌≤◌, Bool, false, IsTrue, IfErr, IfOk, List, [], ◌∷◌, ◌++◌, length, get_or, map, take, drop, All, None, Result, Ok, Err, refl, sym, ◌∙◌, ap, subst, arith}
use Rattle.std.specs.List.{AllByRecursion, flat_map}
use Rattle.std.proofs.lemmas.Bool.{true≢false}
use Rattle.std.proofs.lemmas.List.{append-nil, drop_more, get_or-append-add, get_or-map, get_or_append_left, length-append, length-map, map-append, take_more, take-append-drop}
use Rattle.std.proofs.lemmas.List.Elements.{All-from_recursion, All-head}
use Rattle.std.proofs.Math.Seq.{get_or-append_seam, take-append_seam}
use Rattle.fjall_base.specs.Disk.{Image}
use Rattle.fjall_base.specs.declared.error.Error.{Error}
use Rattle.fjall_journal.specs.Batches.{IsWritten, Shown, Written, batch_text, shown}
use Rattle.fjall_recovery.specs.Journals.{AreJournalsRead, EndsAt, IsSealed, WholeJournal, batches_in, journal_text}
use Rattle.fjall_recovery.specs.Refusals.{HasRisen}
use Rattle.fjall_recovery.proofs.Gathering.{batches-append}
use Rattle.fjall_trees.specs.Forests.{AreBefore, Forest}
use Rattle.fjall_meta.specs.Replays.{first_fault, least_after}
use Rattle.fjall_meta.proofs.ContentFaults.{first_fault-append, least_after-append}
use Rattle.fjall_meta.proofs.Viewing.{no_fault}
use Rattle.fjall_opening.specs.declared.replaying.Progress.{Progress}
use Rattle.fjall_opening.specs.declared.replaying.Replay.{Replay}
use Rattle.fjall_opening.specs.Opened.{IsFit}
use Rattle.fjall_meta.specs.Keyspaces.{Keyspaces}
use Rattle.fjall_trees.specs.declared.trees.Trees.{Trees}
use Rattle.fjall_trees.specs.Views.{forest_of}
use Rattle.fjall_meta.specs.declared.recovery.Persisted.{Persisted}
use Rattle.fjall_opening.specs.Replaying.{IsHeldBy, IsReplayed, IsUnderway, MayTake}
use Rattle.fjall_opening.proofs.Openings as openings
use Rattle.fjall_repair.proofs.Rested.{parted}
use Rattle.fjall_repair.proofs.Suiting.{ends_last}

-- ---- refusals

-- a batch that is refused isn't one that may be taken
pub too_high : (r : Replay) (least : ℕ) (b : Shown) → MayTake r least (b ∷ []) → r.bound ≤ b.number → ⊥
too_high r least b may high = let low = All-head (λ (c : Shown). c.number < r.bound) b [] may.below in omega (arith, low, high)

pub unfit : (r : Replay) (least : ℕ) (b : Shown) (fit : Bool) → MayTake r least (b ∷ []) → (IsTrue fit ↔ IsFit b) → fit ≡ false → ⊥
unfit r least b fit may is none = true≢false (sym (is.1 (All-head IsFit b [] may.fit)) ∙ none)

-- nothing is blamed on a disk that wasn't called
pub none_risen : {X : Type 0} (result : Result X Error) (old new : ℕ) → ((faults : ℕ) → IfErr result (HasRisen faults faults)) → IfErr result (HasRisen old new)
none_risen (Ok x) old new risen = tt
none_risen (Err error) old new risen = openings.no_fault old new error (risen old)

-- ---- batches that may be taken

all_front : {X : Type 0} (P : X → Type 0) (xs ys : List X) → All P (xs ++ ys) → All P xs
all_front P xs ys all i d lt = let n = length-append xs ys in subst P (get_or_append_left xs ys d i lt) (all i d (omega (arith, n, lt)))

all_behind : {X : Type 0} (P : X → Type 0) (xs ys : List X) → All P (xs ++ ys) → All P ys
all_behind P xs ys all i d lt = let n = length-append xs ys in subst P (get_or-append-add xs ys i d) (all (length xs + i) d (omega (arith, n, lt)))

module _ (r : Replay) (least : ℕ) (own more : List Shown) (may : MayTake r least (own ++ more)) where
  parts : (first_fault least own ≡ None) × (first_fault (least_after least own) more ≡ None)
  parts = no_fault (first_fault least own) (first_fault (least_after least own) more) (sym (first_fault-append least own more) ∙ may.sound)

  pub may_front : MayTake r least own
  may_front = record { fit = all_front IsFit own more may.fit; sound = parts.0; below = all_front (λ (b : Shown). b.number < r.bound) own more may.below }

  pub may_behind : (next : ℕ) → next ≡ least_after least own → MayTake r next more
  may_behind next is = record {
    fit = all_behind IsFit own more may.fit;
    sound = ap (λ n. first_fault n more) is ∙ parts.1;
    below = all_behind (λ (b : Shown). b.number < r.bound) own more may.below;
  }

-- what was taken tells the least number that comes next
pub least_taken : (r : Replay) (loaded : Forest) (front own : List Shown) (old new : Progress) → IsUnderway r loaded front old → IsUnderway r loaded (front ++ own) new → new.least ≡ least_after old.least own
least_taken r loaded front own old new before after = after.least_is ∙ least_after-append 0 front own ∙ ap (λ n. least_after n own) (sym before.least_is)

-- ---- one journal after another

-- the text of a sealed journal is that of its batches
pub sealed_text : (image : Image) (j : WholeJournal) → IsSealed image j → AllByRecursion IsWritten j.batches × (journal_text image j.id ≡ flat_map batch_text j.batches)
sealed_text image j read =
    let text = journal_text image j.id in
    let behind : drop read.end text ≡ [] = read.behind in
    (read.whole.each, sym (take-append-drop read.end text) ∙ ap (λ (l : List ℕ). take read.end text ++ l) behind ∙ append-nil (take read.end text) ∙ read.whole.texts)

module _ (image : Image) (ids : List ℕ) (journals : List WholeJournal) (named : map (λ (j : WholeJournal). j.id) journals ≡ ids) (sealed : AllByRecursion (IsSealed image) journals) (n : ℕ) (lt : n < length ids) where
  here : n < length journals
  here = let l = length-map journals (λ (j : WholeJournal). j.id) in let m = ap length named in omega (arith, l, m, lt)

  pub journal_at : WholeJournal
  journal_at = get_or journals n (record { id = 0; batches = [] })

  pub id_at : journal_at.id ≡ get_or ids n 0
  unfolding journal_at
  id_at = sym (get_or-map (λ (j : WholeJournal). j.id) journals n (record { id = 0; batches = [] }) 0 here) ∙ ap (λ (l : List ℕ). get_or l n 0) named

  pub sealed_at : AllByRecursion IsWritten journal_at.batches × (journal_text image (get_or ids n 0) ≡ flat_map batch_text journal_at.batches)
  unfolding journal_at
  sealed_at =
      let one = sealed_text image journal_at (All-from_recursion (IsSealed image) journals sealed n (record { id = 0; batches = [] }) here) in
      (one.0, ap (journal_text image) (sym id_at) ∙ one.1)

  -- one more is taken
  pub taken_more : map shown (batches_in (take (n + 1) journals)) ≡ map shown (batches_in (take n journals)) ++ map shown journal_at.batches
  unfolding journal_at
  taken_more =
      ap (λ (l : List WholeJournal). map shown (batches_in l)) (take_more journals n (record { id = 0; batches = [] }) here)
      ∙ batches-append (take n journals) (journal_at ∷ []) ∙ ap (λ (l : List Written). map shown (batches_in (take n journals)) ++ map shown l) (append-nil journal_at.batches)

  -- the whole are those that were taken, this one's, and the others
  pub whole_at : map shown (batches_in journals) ≡ map shown (batches_in (take n journals)) ++ (map shown journal_at.batches ++ map shown (batches_in (drop (n + 1) journals)))
  unfolding journal_at
  whole_at =
      ap (λ (l : List WholeJournal). map shown (batches_in l)) (sym (take-append-drop n journals) ∙ ap (λ (l : List WholeJournal). take n journals ++ l) (drop_more journals n (record { id = 0; batches = [] }) here))
      ∙ batches-append (take n journals) (journal_at ∷ drop (n + 1) journals)
      ∙ ap (λ (l : List Shown). map shown (batches_in (take n journals)) ++ l) (map-append shown journal_at.batches (batches_in (drop (n + 1) journals)))

-- ---- all journals

read_apart : (image : Image) (front : List WholeJournal) (j : WholeJournal) → AreJournalsRead image (front ++ j ∷ []) → AllByRecursion (IsSealed image) front
read_apart image [] j read = tt
read_apart image (k ∷ []) j read = (read.0, tt)
read_apart image (k ∷ l ∷ front) j read = (read.0, read_apart image (l ∷ front) j read.1)

-- The sealed journals, and the active one behind them.
pub record IsSplit (image : Image) (ids : List ℕ) (end : ℕ) (journals : List WholeJournal) : Type 0 where
  pub sealed : List WholeJournal
  pub active : WholeJournal
  pub batches : map shown (batches_in journals) ≡ map shown (batches_in sealed) ++ map shown active.batches
  pub named : map (λ j. j.id) sealed ≡ take (length ids - 1) ids
  pub last : active.id ≡ get_or ids (length ids - 1) 0
  pub whole : AllByRecursion (IsSealed image) sealed
  pub each : AllByRecursion IsWritten active.batches
  pub text : take end (journal_text image active.id) ≡ flat_map batch_text active.batches

pub split_of : (image : Image) (ids : List ℕ) (end : ℕ) (torn : Bool) (journals : List WholeJournal) → 1 ≤ length ids → IsHeldBy image ids end torn journals → IsSplit image ids end journals
split_of image ids end torn [] some held = absurd (let none = ap length held.named in omega (arith, some, none))
split_of image ids end torn (k ∷ journals) some held =
    let p = parted k journals in
    let names : map (λ (j : WholeJournal). j.id) p.sealed ++ p.active.id ∷ [] ≡ ids = sym (map-append (λ (j : WholeJournal). j.id) p.sealed (p.active ∷ [])) ∙ ap (map (λ (j : WholeJournal). j.id)) (sym p.is) ∙ held.named in
    let l = length-append (map (λ (j : WholeJournal). j.id) p.sealed) (p.active.id ∷ []) in
    let size : length ids - 1 ≡ length (map (λ (j : WholeJournal). j.id) p.sealed) = let m = ap length names in omega (arith, l, m) in
    let ends = ends_last image p.sealed p.active end torn (subst (λ (js : List WholeJournal). EndsAt image js end torn) p.is held.ends) in
    record {
      sealed = p.sealed;
      active = p.active;
      batches = ap (λ (js : List WholeJournal). map shown (batches_in js)) p.is ∙ batches-append p.sealed (p.active ∷ [])
          ∙ ap (λ (bs : List Written). map shown (batches_in p.sealed) ++ map shown bs) (append-nil p.active.batches);
      named = sym (take-append_seam (map (λ (j : WholeJournal). j.id) p.sealed) (p.active.id ∷ [])) ∙ ap (take (length (map (λ (j : WholeJournal). j.id) p.sealed))) names ∙ ap (λ n. take n ids) (sym size);
      last = sym (get_or-append_seam (map (λ (j : WholeJournal). j.id) p.sealed) p.active.id [] 0) ∙ ap (λ (is : List ℕ). get_or is (length (map (λ (j : WholeJournal). j.id) p.sealed)) 0) names ∙ ap (λ n. get_or ids n 0) (sym size);
      whole = read_apart image p.sealed p.active (subst (AreJournalsRead image) p.is held.read);
      each = ends.0.each;
      text = ends.0.texts;
    }

-- where there is no id there is no journal
pub none_held : (image : Image) (ids : List ℕ) (end : ℕ) (torn : Bool) (journals : List WholeJournal) → length ids < 1 → IsHeldBy image ids end torn journals → map shown (batches_in journals) ≡ []
none_held image ids end torn [] none held = refl
none_held image ids end torn (k ∷ journals) none held = absurd (let some = ap length held.named in omega (arith, some, none))

-- ---- what is so of trees that come back

pub some_front : (result : Result Trees Error) (s : Keyspaces) (persisted : List Persisted) (loaded : Forest) (front : List Shown) → IfOk result (λ trees. IsReplayed s persisted loaded front (forest_of trees))
    → IfOk result (λ trees. (own : List Shown) × IsReplayed s persisted loaded own (forest_of trees))
some_front (Ok trees) s persisted loaded front is = (front, is)
some_front (Err error) s persisted loaded front is = tt

pub now_before : (result : Result Trees Error) (bound : ℕ) (loaded : Forest) → IfOk result (λ trees. AreBefore bound loaded → AreBefore bound (forest_of trees)) → AreBefore bound loaded
    → IfOk result (λ trees. AreBefore bound (forest_of trees))
now_before (Ok trees) bound loaded made low = made low
now_before (Err error) bound loaded made low = tt

pub now_is : (result : Result Trees Error) (made other : Forest) → IfOk result (λ trees. forest_of trees ≡ made) → made ≡ other → IfOk result (λ trees. forest_of trees ≡ other)
now_is (Ok trees) made other is same = is ∙ same
now_is (Err error) made other is same = tt
