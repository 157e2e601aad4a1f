-- Watermarks, and the journals that may go by them.
use Rattle.std.proofs.Common.{◌≡◌, ◌⊎◌, inl, inr, ◌==◌, ◌||◌, ◌&&◌, ℕ, zero, suc, ◌≤◌, nat_lt, nat_eq, Bool, true, false, cond, List, [], ◌∷◌, ◌++◌, take, drop, length, map, Option, None, Some, unwrap_or, refl, sym, ◌∙◌, ap, subst, arith}
use Rattle.std.proofs.lemmas.Bool.{true≢false}
use Rattle.std.proofs.lemmas.Bool.Decides.{nat_tests}
use Rattle.std.proofs.lemmas.List.{map-append}
use Rattle.std.specs.List.{AllByRecursion, list_all, list_any}
use Rattle.std.specs.Option.{option_map}
use Rattle.fjall_meta.specs.Contents.{counts_beyond, is_beyond}
use Rattle.fjall_journal.specs.Batches.{Shown, Written, shown}
use Rattle.fjall_journal.specs.declared.batch.ReadBatchItem.{ReadBatchItem}
use Rattle.fjall_files.specs.Journals.{Sealed, going, may_go, staying}
use Rattle.fjall_files.specs.Marks.{JournalMarks, all_flushed, lsn_of, raised_mark}
use Rattle.fjall_meta.specs.declared.living.LivingKeyspace.{LivingKeyspace}
use Rattle.fjall_meta.specs.Keyspaces.{keyspace_at}
use Rattle.fjall_recovery.specs.Halves.{Tree}
use Rattle.fjall_recovery.specs.Homes.{stored_in}
use Rattle.fjall_recovery.specs.Journals.{WholeJournal, batches_in}
use Rattle.fjall_recovery.proofs.Roots.{all_behind, all_both, all_front}
use Rattle.fjall_meta.specs.Replays.{counts}
use Rattle.fjall_changes.specs.Watermarks.{AreMarked, AreMarksOf, AreStored, IsStored, TellsTrue, changed_by, greatest, is_among}

-- ---- bits

and_first : (a b : Bool) → (a && b) ≡ true → a ≡ true
and_first true b is = refl
and_first false b is = is

and_second : (a b : Bool) → (a && b) ≡ true → b ≡ true
and_second true b is = is
and_second false b is = absurd (true≢false (sym is))

and_none : (a b : Bool) → b ≡ false → (a && b) ≡ false
and_none true b none = none
and_none false b none = refl

or_first : (a b : Bool) → a ≡ true → (a || b) ≡ true
or_first true b is = refl
or_first false b is = absurd (true≢false (sym is))

or_second : (a b : Bool) → b ≡ true → (a || b) ≡ true
or_second true b is = refl
or_second false b is = is

all_weaker : {X : Type 0} (P Q : X → Type 0) (xs : List X) → ((x : X) → P x → Q x) → AllByRecursion P xs → AllByRecursion Q xs
all_weaker P Q [] to all = tt
all_weaker P Q (x ∷ xs) to all = (to x all.0, all_weaker P Q xs to all.1)

-- ---- what a batch changes

same_test : (n : ℕ) → (n == n) ≡ true
same_test n = grind (arith, nat_tests)

-- each is among them
each_among : {X : Type 0} (id_of : X → ℕ) (xs : List X) → AllByRecursion (λ x. list_any (λ y. id_of y == id_of x) xs ≡ true) xs
each_among id_of [] = tt
each_among {X} id_of (x ∷ xs) = (
  or_first (id_of x == id_of x) (list_any (λ y. id_of y == id_of x) xs) (same_test (id_of x)),
  all_weaker (λ y. list_any (λ z. id_of z == id_of y) xs ≡ true) (λ y. list_any (λ z. id_of z == id_of y) (x ∷ xs) ≡ true) xs
      (λ y is. or_second (id_of x == id_of y) (list_any (λ z. id_of z == id_of y) xs) is) (each_among id_of xs),
)

all_among : (ids : List ℕ) → AllByRecursion (λ id. is_among id ids ≡ true) ids
all_among ids = each_among (λ id. id) ids

before_map : {X Y : Type 0} (P : Y → Type 0) (f : X → Y) (xs : List X) → AllByRecursion P (map f xs) → AllByRecursion (λ x. P (f x)) xs
before_map P f [] all = tt
before_map P f (x ∷ xs) all = (all.0, before_map P f xs all.1)

items_change : (b : Shown) → AllByRecursion (λ item. is_among item.keyspace_id (changed_by b) ≡ true) b.items
items_change b =
    let ids = map (λ (item : ReadBatchItem). item.keyspace_id) b.items in
    before_map (λ id. is_among id (changed_by b) ≡ true) (λ (item : ReadBatchItem). item.keyspace_id) b.items
    (all_front (λ id. is_among id (changed_by b) ≡ true) ids b.clears (all_among (changed_by b)))

clears_change : (b : Shown) → AllByRecursion (λ id. is_among id (changed_by b) ≡ true) b.clears
clears_change b = all_behind (λ id. is_among id (changed_by b) ≡ true) (map (λ (item : ReadBatchItem). item.keyspace_id) b.items) b.clears (all_among (changed_by b))

-- ---- the greatest number

-- there is one, and this is at most it
abbrev AtMost : Option ℕ → ℕ → Type 0
AtMost None number = ⊥
AtMost (Some lsn) number = number ≤ lsn

raised_own : (o : Option ℕ) (number : ℕ) → AtMost (raised_mark o number) number
raised_own None number = omega arith
raised_own (Some lsn) number = omega arith

raised_more : (o : Option ℕ) (number other : ℕ) → AtMost o other → AtMost (raised_mark o number) other
raised_more None number other most = absurd most
raised_more (Some lsn) number other most = omega (arith, most)

more : (b : Shown) (batches : List Shown) (id number : ℕ) → AtMost (greatest id batches) number → AtMost (greatest id (b ∷ batches)) number
more b batches id number most = by (is_among id (changed_by b))
  where
    by : (test : Bool) → AtMost (cond test (raised_mark (greatest id batches) b.number) (greatest id batches)) number
    by true = raised_more (greatest id batches) b.number number most
    by false = most

own : (b : Shown) (batches : List Shown) (id : ℕ) → is_among id (changed_by b) ≡ true → AtMost (greatest id (b ∷ batches)) b.number
own b batches id is = subst (λ (test : Bool). AtMost (cond test (raised_mark (greatest id batches) b.number) (greatest id batches)) b.number) (sym is) (raised_own (greatest id batches) b.number)

abbrev IsCovered : List Shown → Shown → Type 0
IsCovered batches b = (id : ℕ) → is_among id (changed_by b) ≡ true → AtMost (greatest id batches) b.number

all_covered : (batches : List Shown) → AllByRecursion (IsCovered batches) batches
all_covered [] = tt
all_covered (b ∷ batches) = (
  own b batches,
  all_weaker (IsCovered batches) (IsCovered (b ∷ batches)) batches (λ later is id changed. more b batches id later.number (is id changed)) (all_covered batches),
)

-- ---- what is flushed

marked_flushed : (flushed : ℕ → ℕ → Bool) (marks : JournalMarks) (id lsn : ℕ) → lsn_of marks id ≡ Some lsn → all_flushed flushed marks ≡ true → flushed id lsn ≡ true
marked_flushed flushed [] id lsn at all = let no : None ≡ Some lsn = at in cc
marked_flushed flushed (mark ∷ marks) id lsn at all = by (marked_flushed flushed marks id lsn) (nat_eq id mark.0) refl at
  where
    by : (lsn_of marks id ≡ Some lsn → all_flushed flushed marks ≡ true → flushed id lsn ≡ true) → (test : Bool) → nat_eq id mark.0 ≡ test → cond test (Some mark.1) (lsn_of marks id) ≡ Some lsn → flushed id lsn ≡ true
    by later true is here =
        let same : id ≡ mark.0 = grind (arith, nat_tests) in
        let number : mark.1 ≡ lsn = cc in
        ap (λ n. flushed n lsn) same ∙ ap (flushed mark.0) (sym number) ∙ and_first (flushed mark.0 mark.1) (list_all (λ m. flushed m.0 m.1) marks) all
    by later false not here = later here (and_second (flushed mark.0 mark.1) (list_all (λ m. flushed m.0 m.1) marks) all)

within_less : (persisted : Option ℕ) (lsn number : ℕ) → number ≤ lsn → is_beyond persisted lsn ≡ false → is_beyond persisted number ≡ false
within_less None lsn number le within = absurd (true≢false within)
within_less (Some p) lsn number le within = grind (arith, nat_tests)

module _ (flushed : ℕ → ℕ → Bool) (t : Tree) (true_told : TellsTrue flushed t) where
  out_by : (id number lsn : ℕ) → number ≤ lsn → (keyspace_at id t.keyspaces.living ≡ None) ⊎ (is_beyond (stored_in t.homes t.versions id).persisted lsn ≡ false)
      → counts_beyond t.keyspaces (stored_in t.homes t.versions) number id ≡ false
  out_by id number lsn le (inl gone) =
      ap (λ (k : Option LivingKeyspace). unwrap_or (option_map (λ (k : LivingKeyspace). nat_lt k.number number) k) false && is_beyond (stored_in t.homes t.versions id).persisted number) gone
  out_by id number lsn le (inr within) =
      and_none (counts t.keyspaces number id) (is_beyond (stored_in t.homes t.versions id).persisted number) (within_less (stored_in t.homes t.versions id).persisted lsn number le within)

  -- where the watermark is flushed nothing up to it counts
  out : (marks : JournalMarks) (id number : ℕ) (greatest_one : Option ℕ) → all_flushed flushed marks ≡ true → lsn_of marks id ≡ greatest_one → AtMost greatest_one number
      → counts_beyond t.keyspaces (stored_in t.homes t.versions) number id ≡ false
  out marks id number None all at most = absurd most
  out marks id number (Some lsn) all at most = out_by id number lsn most (true_told id lsn (marked_flushed flushed marks id lsn at all))

  pub one_stored : (marks : JournalMarks) (batches : List Shown) → AreMarksOf batches marks → all_flushed flushed marks ≡ true → AllByRecursion (IsStored t.keyspaces (stored_in t.homes t.versions)) batches
  one_stored marks batches are all = all_weaker (IsCovered batches) (IsStored t.keyspaces (stored_in t.homes t.versions)) batches stored (all_covered batches)
    where
      stored : (b : Shown) → IsCovered batches b → IsStored t.keyspaces (stored_in t.homes t.versions) b
      stored b covered = (
        all_weaker (λ item. is_among item.keyspace_id (changed_by b) ≡ true) (λ item. counts_beyond t.keyspaces (stored_in t.homes t.versions) b.number item.keyspace_id ≡ false) b.items
            (λ item is. out marks item.keyspace_id b.number (greatest item.keyspace_id batches) all (are item.keyspace_id) (covered item.keyspace_id is)) (items_change b),
        all_weaker (λ id. is_among id (changed_by b) ≡ true) (λ id. counts_beyond t.keyspaces (stored_in t.homes t.versions) b.number id ≡ false) b.clears
            (λ id is. out marks id b.number (greatest id batches) all (are id) (covered id is)) (clears_change b),
      )

  -- the first of them, where there is one, and those behind it
  first_stored : (s : Sealed) (sealed : List Sealed) (j : WholeJournal) (later : List Written) (n : ℕ) → AreMarksOf (map shown j.batches) s.watermarks
      → (n ≤ length (going flushed sealed) → AreStored t later) → suc n ≤ length (going flushed (s ∷ sealed)) → AreStored t (j.batches ++ later)
  first_stored s sealed j later n marks behind few = by (may_go flushed s) refl few
    where
      by : (may : Bool) → may_go flushed s ≡ may → suc n ≤ length (cond may (s ∷ going flushed sealed) []) → AreStored t (j.batches ++ later)
      by false stays none = absurd (omega (arith, none))
      by true goes some =
          subst (AllByRecursion (IsStored t.keyspaces (stored_in t.homes t.versions))) (sym (map-append shown j.batches later))
          (all_both (IsStored t.keyspaces (stored_in t.homes t.versions)) (map shown j.batches) (map shown later)
          (one_stored s.watermarks (map shown j.batches) marks goes) (behind (omega (arith, some))))

  -- those that go, and any beginning of them
  pub all_stored : (sealed : List Sealed) (journals : List WholeJournal) (n : ℕ) → AreMarked sealed journals → n ≤ length (going flushed sealed) → AreStored t (batches_in (take n journals))
  all_stored sealed journals zero marked few = tt
  all_stored [] journals (suc n) marked few = absurd (omega (arith, few))
  all_stored (s ∷ sealed) [] (suc n) marked few = absurd marked
  all_stored (s ∷ sealed) (j ∷ journals) (suc n) marked few = first_stored s sealed j (batches_in (take n journals)) n marked.1 (all_stored sealed journals n marked.2) few

-- ---- the list

pub marked_ids : (sealed : List Sealed) (journals : List WholeJournal) → AreMarked sealed journals → map (λ (s : Sealed). s.id) sealed ≡ map (λ (j : WholeJournal). j.id) journals
marked_ids [] [] marked = refl
marked_ids [] (j ∷ journals) marked = absurd marked
marked_ids (s ∷ sealed) [] marked = absurd marked
marked_ids (s ∷ sealed) (j ∷ journals) marked = λ i. marked.0 i ∷ marked_ids sealed journals marked.2 i

pub marked_more : (sealed : List Sealed) (journals : List WholeJournal) (s : Sealed) (j : WholeJournal) → AreMarked sealed journals → s.id ≡ j.id → AreMarksOf (map shown j.batches) s.watermarks
    → AreMarked (sealed ++ s ∷ []) (journals ++ j ∷ [])
marked_more [] [] s j marked same marks = (same, marks, tt)
marked_more [] (k ∷ journals) s j marked same marks = absurd marked
marked_more (r ∷ sealed) [] s j marked same marks = absurd marked
marked_more (r ∷ sealed) (k ∷ journals) s j marked same marks = (marked.0, marked.1, marked_more sealed journals s j marked.2 same marks)

pub marked_left : (flushed : ℕ → ℕ → Bool) (sealed : List Sealed) (journals : List WholeJournal) → AreMarked sealed journals → AreMarked (staying flushed sealed) (drop (length (going flushed sealed)) journals)
marked_left flushed [] journals marked = marked
marked_left flushed (s ∷ sealed) [] marked = absurd marked
marked_left flushed (s ∷ sealed) (j ∷ journals) marked = by (marked_left flushed sealed journals marked.2) (may_go flushed s)
  where
    by : AreMarked (staying flushed sealed) (drop (length (going flushed sealed)) journals) → (may : Bool) → AreMarked (cond may (staying flushed sealed) (s ∷ sealed)) (drop (length (cond may (s ∷ going flushed sealed) [])) (j ∷ journals))
    by later true = later
    by later false = marked
