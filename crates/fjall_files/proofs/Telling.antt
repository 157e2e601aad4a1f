-- Watermarks tell of the batches by whose numbers they were raised.
use Rattle.std.proofs.Common.{◌≡◌, inl, inr, ℕ, suc, ◌<◌, ◌≤◌, ◌==◌, Bool, true, false, cond, max, List, [], ◌∷◌, ◌++◌, get_or, refl, sym, ap, ◌∙◌, subst, arith, All}
use Rattle.std.specs.Prelude.{◌||◌, Option, Some, None, Any, Contains}
use Rattle.std.specs.List.{list_any}
use Rattle.std.proofs.lemmas.Bool.{cases_lt, false≢true}
use Rattle.std.proofs.lemmas.Bool.Decides.{nat_tests}
use Rattle.std.proofs.lemmas.List.Elements.{All-cons, All-weaker}
use Rattle.std.proofs.lemmas.List.Folds.{Any-from_list_any, list_any-from_Any}
use Rattle.fjall_base.proofs.Names.{bool_cases}
use Rattle.fjall_journal.specs.Batches.{Shown}
use Rattle.fjall_files.specs.Marks.{IsRaised, JournalMarks, lsn_of, raised_mark}
use Rattle.fjall_files.specs.Telling.{AreMarksOf, AreRaised, IsGreatest, IsNoLess, NoneFell, changed_by, greatest, is_among}

-- ---- raised by one batch

raised_twice : (o : Option ℕ) (number : ℕ) → raised_mark (raised_mark o number) number ≡ raised_mark o number
raised_twice None number = ap Some (omega arith)
raised_twice (Some old) number = ap Some (omega arith)

raised_swap : (o : Option ℕ) (number other : ℕ) → raised_mark (raised_mark o other) number ≡ raised_mark (raised_mark o number) other
raised_swap None number other = ap Some (omega arith)
raised_swap (Some lsn) number other = ap Some (omega arith)

abbrev raised_where : Bool → Option ℕ → ℕ → Option ℕ
raised_where test o number = cond test (raised_mark o number) o

twice_where : (test : Bool) (o : Option ℕ) (number : ℕ) → raised_mark (raised_where test o number) number ≡ raised_mark o number
twice_where true o number = raised_twice o number
twice_where false o number = refl

swap_where : (first second : Bool) (o : Option ℕ) (number other : ℕ) → raised_where first (raised_where second o other) number ≡ raised_where second (raised_where first o number) other
swap_where true true o number other = raised_swap o number other
swap_where true false o number other = refl
swap_where false second o number other = refl

same_id : (k x : ℕ) → (k == x) ≡ true → k ≡ x
same_id k x is = grind (arith, nat_tests)

same_test : (k : ℕ) → (k == k) ≡ true
same_test k = grind (arith, nat_tests)

other_id : (k x : ℕ) → (k == x) ≡ false → k ≡ x → ⊥
other_id k x is same = grind (arith, nat_tests)

or_true : (a : Bool) → (a || true) ≡ true
or_true true = refl
or_true false = refl

any_here : (test : ℕ → Bool) (ids : List ℕ) (id : ℕ) → test id ≡ true → list_any test (ids ++ id ∷ []) ≡ true
any_here test [] id is = ap (λ b. b || false) is
any_here test (x ∷ ids) id is = ap (λ b. test x || b) (any_here test ids id is) ∙ or_true (test x)

any_still : (test : ℕ → Bool) (ids : List ℕ) (id : ℕ) → test id ≡ false → list_any test (ids ++ id ∷ []) ≡ list_any test ids
any_still test [] id not = ap (λ b. b || false) not
any_still test (x ∷ ids) id not = ap (λ b. test x || b) (any_still test ids id not)

-- one keyspace more is raised
pub raised_more : (ids : List ℕ) (id number : ℕ) (old mid new : JournalMarks) → AreRaised ids number old mid → IsRaised id number mid new → AreRaised (ids ++ id ∷ []) number old new
raised_more ids id number old mid new so_far raises q =
    let where_more : Bool → Option ℕ = λ b. raised_where b (lsn_of old q) number in
    elim (bool_cases (id == q)) [
      | inl is ↦
          let here : lsn_of new q ≡ raised_mark (lsn_of mid q) number = subst (λ (n : ℕ). lsn_of new n ≡ raised_mark (lsn_of mid n) number) (same_id id q is) raises.here in
          here ∙ ap (λ (o : Option ℕ). raised_mark o number) (so_far q) ∙ twice_where (is_among q ids) (lsn_of old q) number ∙ sym (ap where_more (any_here (λ other. other == q) ids id is))
      | inr not ↦ raises.others q (λ same. other_id id q not (sym same)) ∙ so_far q ∙ sym (ap where_more (any_still (λ other. other == q) ids id not))
    ]

-- ---- of one batch more

-- behind the others it counts as before them
greatest-last : (id : ℕ) (batches : List Shown) (b : Shown) → greatest id (batches ++ b ∷ []) ≡ raised_where (is_among id (changed_by b)) (greatest id batches) b.number
greatest-last id [] b = refl
greatest-last id (x ∷ batches) b =
    let test = is_among id (changed_by x) in
    ap (λ (o : Option ℕ). raised_where test o x.number) (greatest-last id batches b) ∙ swap_where test (is_among id (changed_by b)) (greatest id batches) x.number b.number

-- watermarks that a batch's number raised for each keyspace that it changes tell of it too
pub marks_more : (front : List Shown) (b : Shown) (old new : JournalMarks) → AreRaised (changed_by b) b.number old new → AreMarksOf front old → AreMarksOf (front ++ b ∷ []) new
marks_more front b old new raises are id = raises id ∙ ap (λ (o : Option ℕ). raised_where (is_among id (changed_by b)) o b.number) (are id) ∙ sym (greatest-last id front b)

-- ---- the greatest number

among_contains : (id : ℕ) (ids : List ℕ) → is_among id ids ≡ true → Contains ids id
among_contains id ids is =
    let (k, x, lt, at, same) = Any-from_list_any (λ other. other == id) ids is in
    let one : x ≡ id = same_id x id same in
    (k, lt, subst (λ n. get_or ids k n ≡ n) one at)

among_not : (id : ℕ) (ids : List ℕ) → is_among id ids ≡ false → Contains ids id → ⊥
among_not id ids not has = false≢true (sym not ∙ list_any-from_Any (λ other. other == id) ids (has.0, id, has.1, has.2, same_test id))

any_behind : {X : Type 0} (P : X → Type 0) (x : X) (xs : List X) → Any P xs → Any P (x ∷ xs)
any_behind P x xs (k, y, lt, at, p) = (suc k, y, omega (arith, lt), at, p)

any_first : {X : Type 0} (P : X → Type 0) (x : X) (xs : List X) → P x → Any P (x ∷ xs)
any_first P x xs p = (0, x, omega arith, refl, p)

max_right : (m n : ℕ) → m ≤ n → max m n ≡ n
max_right m n le = omega (arith, le)

max_left : (m n : ℕ) → n < m → max m n ≡ m
max_left m n lt = omega (arith, lt)

module _ (b : Shown) (batches : List Shown) (id : ℕ) where
  abbrev Changes : Shown → Type 0
  Changes c = Contains (changed_by c) id

  abbrev HasNumber : ℕ → Shown → Type 0
  HasNumber number c = Changes c × (c.number ≡ number)

  abbrev IsUpTo : ℕ → Shown → Type 0
  IsUpTo number c = Changes c → c.number ≤ number

  up_to_more : (number more : ℕ) → number ≤ more → All (IsUpTo number) batches → b.number ≤ more → All (IsUpTo more) (b ∷ batches)
  up_to_more number more le all first =
      All-cons (IsUpTo more) b batches (λ changes. first) (All-weaker (IsUpTo number) (IsUpTo more) (λ c up changes. let n = up changes in omega (arith, n, le)) batches all)

  changed : (o : Option ℕ) → Changes b → IsGreatest batches id o → IsGreatest (b ∷ batches) id (raised_mark o b.number)
  changed None has none = (
    any_first (HasNumber b.number) b batches (has, refl),
    All-cons (IsUpTo b.number) b batches (λ changes. omega arith) (All-weaker (λ c. Changes c → ⊥) (IsUpTo b.number) (λ c no changes. absurd (no changes)) batches none),
  )
  changed (Some old) has is = elim (cases_lt b.number old) [
    | inl lt ↦ (
      subst (λ n. Any (HasNumber n) (b ∷ batches)) (sym (max_left old b.number lt)) (any_behind (HasNumber old) b batches is.0),
      up_to_more old (max old b.number) (omega arith) is.1 (omega arith),
    )
    | inr le ↦ (
      subst (λ n. Any (HasNumber n) (b ∷ batches)) (sym (max_right old b.number le)) (any_first (HasNumber b.number) b batches (has, refl)),
      up_to_more old (max old b.number) (omega arith) is.1 (omega arith),
    )
  ]

  unchanged : (o : Option ℕ) → (Changes b → ⊥) → IsGreatest batches id o → IsGreatest (b ∷ batches) id o
  unchanged None not none = All-cons (λ c. Changes c → ⊥) b batches not none
  unchanged (Some old) not is = (any_behind (HasNumber old) b batches is.0, All-cons (IsUpTo old) b batches (λ changes. absurd (not changes)) is.1)

  one_before : (o : Option ℕ) → IsGreatest batches id o → IsGreatest (b ∷ batches) id (raised_where (is_among id (changed_by b)) o b.number)
  one_before o is = elim (bool_cases (is_among id (changed_by b))) [
    | inl among ↦ subst (λ t. IsGreatest (b ∷ batches) id (raised_where t o b.number)) (sym among) (changed o (among_contains id (changed_by b) among) is)
    | inr not ↦ subst (λ t. IsGreatest (b ∷ batches) id (raised_where t o b.number)) (sym not) (unchanged o (among_not id (changed_by b) not) is)
  ]

is_greatest : (batches : List Shown) (id : ℕ) → IsGreatest batches id (greatest id batches)
is_greatest [] id = λ k d lt. absurd (omega (arith, lt))
is_greatest (b ∷ batches) id = one_before b batches id (greatest id batches) (is_greatest batches id)

pub mark_is_greatest : (batches : List Shown) (marks : JournalMarks) → AreMarksOf batches marks → (id : ℕ) → IsGreatest batches id (lsn_of marks id)
mark_is_greatest batches marks are id = subst (IsGreatest batches id) (sym (are id)) (is_greatest batches id)

-- ---- none falls

no_less : (o : Option ℕ) → IsNoLess o o
no_less None = tt
no_less (Some n) = omega arith

less_on : (a b c : Option ℕ) → IsNoLess a b → IsNoLess b c → IsNoLess a c
less_on None b c ab bc = tt
less_on (Some a) None c ab bc = absurd ab
less_on (Some a) (Some b) None ab bc = absurd bc
less_on (Some a) (Some b) (Some c) ab bc = omega (arith, ab, bc)

pub none_fell : (marks : JournalMarks) → NoneFell marks marks
none_fell marks id = no_less (lsn_of marks id)

pub fell_on : (old mid new : JournalMarks) → NoneFell old mid → NoneFell mid new → NoneFell old new
fell_on old mid new first then id = less_on (lsn_of old id) (lsn_of mid id) (lsn_of new id) (first id) (then id)
