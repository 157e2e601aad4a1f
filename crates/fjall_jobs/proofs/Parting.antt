-- Tables, one behind another, as entries come.
use Rattle.std.proofs.Common.{◌≡◌, ◌≢◌, ◌∙◌, ◌⊎◌, inl, inr, ℕ, ◌≤◌, ◌++◌, List, [], ◌∷◌, Option, Some, None, refl, sym, ap, subst}
use Rattle.std.proofs.lemmas.List.{append_assoc, append-nil}
use Rattle.fjall_base.proofs.Lists.{last_behind}
use Rattle.fjall_table.specs.Blocks.{Entry}
use Rattle.fjall_table.specs.Tables.{first_key}
use Rattle.fjall_memtable.specs.Kept.{AreClosedAt, EndsBefore, IsClosedInTime, size_of_all}
use Rattle.fjall_memtable.specs.Sorted.{flat}
use Rattle.fjall_jobs.specs.declared.made_table.MadeTable.{MadeTable}
use Rattle.fjall_jobs.specs.Sequences.{AreMadeTables, AreParted, IsClosingDue, IsMadeTable, with_open, last_key}

-- ---- ends of lists

-- a list is empty, or has a last element
pub record HasLast {A : Type 0} (xs : List A) : Type 0 where
  pub front : List A
  pub last : A
  pub is : xs ≡ front ++ last ∷ []

pub ended : {A : Type 0} (xs : List A) → (xs ≡ []) ⊎ HasLast xs
ended [] = inl refl
ended {A} (x ∷ xs) = by (ended xs)
  where
    by : (xs ≡ []) ⊎ HasLast xs → (x ∷ xs ≡ []) ⊎ HasLast (x ∷ xs)
    by (inl e) = inr (record { front = []; last = x; is = ap (λ (l : List A). x ∷ l) e })
    by (inr h) = inr (record { front = x ∷ h.front; last = h.last; is = ap (λ (l : List A). x ∷ l) h.is })

pub front_of : {A : Type 0} (xs ys : List A) (x y : A) → xs ++ x ∷ [] ≡ ys ++ y ∷ [] → (xs ≡ ys) × (x ≡ y)
front_of [] [] x y e = (refl, cc)
front_of {A} [] (b ∷ ys) x y e = absurd (by ys (tails e))
  where
    tails : x ∷ [] ≡ b ∷ (ys ++ y ∷ []) → [] ≡ ys ++ y ∷ []
    tails h = cc

    by : (ys : List A) → [] ≡ ys ++ y ∷ [] → ⊥
    by [] h = cc
    by (c ∷ ys) h = cc
front_of {A} (a ∷ xs) [] x y e = absurd (by xs (tails e))
  where
    tails : a ∷ (xs ++ x ∷ []) ≡ y ∷ [] → xs ++ x ∷ [] ≡ []
    tails h = cc

    by : (xs : List A) → xs ++ x ∷ [] ≡ [] → ⊥
    by [] h = cc
    by (c ∷ xs) h = cc
front_of {A} (a ∷ xs) (b ∷ ys) x y e =
    let tails : xs ++ x ∷ [] ≡ ys ++ y ∷ [] = cc in
    let heads : a ≡ b = cc in
    let p = front_of xs ys x y tails in
    (cc (heads, p.0), p.1)

pub some_is : {A : Type 0} (xs : List A) (x : A) → (xs ++ x ∷ []) ≢ []
some_is [] x e = cc
some_is (y ∷ xs) x e = cc

-- the first key stays where more comes behind
pub first_stays : (vs : List Entry) (e : Entry) → vs ≢ [] → first_key (vs ++ e ∷ []) ≡ first_key vs
first_stays [] e some = absurd (some refl)
first_stays (v ∷ vs) e some = refl

-- ---- closed in time

one_in_time : (target : ℕ) (e : Entry) → IsClosedInTime target (e ∷ [])
one_in_time target e [] behind is reached before = absurd before
one_in_time target e (x ∷ front) behind is reached before = by front behind (tails is)
  where
    tails : e ∷ [] ≡ x ∷ (front ++ behind) → [] ≡ front ++ behind
    tails h = cc

    by : (front behind : List Entry) → [] ≡ front ++ behind → behind ≡ []
    by [] behind h = sym h
    by (y ∷ front) behind h = absurd (cc)

-- a table gets one more entry where that isn't due to go to the next one
pub more_in_time : (target : ℕ) (vs : List Entry) (e : Entry) → IsClosedInTime target vs → ((target ≤ size_of_all vs) × EndsBefore vs e.key → ⊥)
    → IsClosedInTime target (vs ++ e ∷ [])
more_in_time target vs e in_time free front behind is reached before = by (ended behind)
  where
    by : (behind ≡ []) ⊎ HasLast behind → behind ≡ []
    by (inl none) = none
    by (inr h) =
        let joined : vs ++ e ∷ [] ≡ (front ++ h.front) ++ h.last ∷ [] = is ∙ ap (λ (l : List Entry). front ++ l) h.is ∙ sym (append_assoc front h.front (h.last ∷ [])) in
        let p = front_of vs (front ++ h.front) e h.last joined in
        absurd (rest h.front p.0 p.1 h.is)
      where
        rest : (middle : List Entry) → vs ≡ front ++ middle → e ≡ h.last → behind ≡ middle ++ h.last ∷ [] → ⊥
        rest [] parts same end =
            let whole : vs ≡ front = parts ∙ append-nil front in
            let key_is : first_key behind ≡ e.key = ap first_key end ∙ ap (λ (v : Entry). v.key) (sym same) in
            free (
              subst (λ (l : List Entry). target ≤ size_of_all l) (sym whole) reached,
              subst (λ (k : List ℕ). EndsBefore vs k) key_is (subst (λ (l : List Entry). EndsBefore l (first_key behind)) (sym whole) before),
            )
        rest (m ∷ middle) parts same end =
            let key_is : first_key behind ≡ m.key = ap first_key end in
            let none : m ∷ middle ≡ [] = in_time front (m ∷ middle) parts reached (subst (λ (k : List ℕ). EndsBefore front k) key_is before) in
            cc

-- ---- tables behind one another

-- the last table gets one more entry
pub closed_more : (target : ℕ) (closed : List (List Entry)) (vs : List Entry) (e : Entry) → AreClosedAt target (closed ++ vs ∷ [])
    → ((target ≤ size_of_all vs) × EndsBefore vs e.key → ⊥) → AreClosedAt target (closed ++ (vs ++ e ∷ []) ∷ [])
closed_more target [] vs e are free = (some_is vs e, more_in_time target vs e are.1 free)
closed_more target (c ∷ []) vs e are free = (
  (are.0.0, are.0.1, are.0.2, subst (λ (k : List ℕ). EndsBefore c k) (sym (first_stays vs e are.1.0)) are.0.3),
  (some_is vs e, more_in_time target vs e are.1.1 free),
)
closed_more target (c ∷ d ∷ closed) vs e are free = (are.0, closed_more target (d ∷ closed) vs e are.1 free)

-- a table is closed, and the next one begins
pub closed_next : (target : ℕ) (closed : List (List Entry)) (vs : List Entry) (e : Entry) → AreClosedAt target (closed ++ vs ∷ [])
    → (target ≤ size_of_all vs) × EndsBefore vs e.key → AreClosedAt target ((closed ++ vs ∷ []) ++ (e ∷ []) ∷ [])
closed_next target [] vs e are due = ((are.0, are.1, due.0, due.1), (λ none. cc, one_in_time target e))
closed_next target (c ∷ []) vs e are due = (are.0, ((are.1.0, are.1.1, due.0, due.1), (λ none. cc, one_in_time target e)))
closed_next target (c ∷ d ∷ closed) vs e are due = (are.0, closed_next target (d ∷ closed) vs e are.1 due)

-- ---- with and without a target

-- the tables with the open one, which holds something
pub with_some : (closed : List (List Entry)) (vs : List Entry) → vs ≢ [] → with_open closed vs ≡ closed ++ vs ∷ []
with_some closed [] some = absurd (some refl)
with_some closed (v ∷ vs) some = refl

none_closed : (closed : List (List Entry)) (vs : List Entry) → AreParted None (closed ++ vs ∷ []) → closed ≡ []
none_closed [] vs are = refl
none_closed (c ∷ []) vs are = absurd are
none_closed (c ∷ d ∷ closed) vs are = absurd are

-- one more entry in the open table, where no other is due
pub parted_more : (target : Option ℕ) (closed : List (List Entry)) (vs : List Entry) (e : Entry) → AreParted target (with_open closed vs)
    → (vs ≡ [] → closed ≡ []) → (IsClosingDue target vs e.key → ⊥) → AreParted target (with_open closed (vs ++ e ∷ []))
parted_more None closed [] e are begun free = subst (λ (l : List (List Entry)). AreParted None (l ++ (e ∷ []) ∷ [])) (sym (begun refl)) (λ none. cc)
parted_more (Some target) closed [] e are begun free =
    subst (λ (l : List (List Entry)). AreClosedAt target (l ++ (e ∷ []) ∷ [])) (sym (begun refl)) (λ none. cc, one_in_time target e)
parted_more None closed (v ∷ vs) e are begun free =
    subst (λ (l : List (List Entry)). AreParted None (l ++ (v ∷ (vs ++ e ∷ [])) ∷ [])) (sym (none_closed closed (v ∷ vs) are)) (λ none. cc)
parted_more (Some target) closed (v ∷ vs) e are begun free = closed_more target closed (v ∷ vs) e are free

-- the first entry of the next table, where that is due
pub parted_next : (target : Option ℕ) (closed : List (List Entry)) (vs : List Entry) (e : Entry) → AreParted target (with_open closed vs)
    → IsClosingDue target vs e.key → AreParted target ((closed ++ vs ∷ []) ++ (e ∷ []) ∷ [])
parted_next None closed vs e are due = absurd due
parted_next (Some target) closed [] e are due = absurd due.1
parted_next (Some target) closed (v ∷ vs) e are due = closed_next target closed (v ∷ vs) e are due

-- ---- what was made, and all entries

pub made_more : (tables : List MadeTable) (closed : List (List Entry)) (t : MadeTable) (entries : List Entry) → AreMadeTables tables closed
    → IsMadeTable t entries → AreMadeTables (tables ++ t ∷ []) (closed ++ entries ∷ [])
made_more [] [] t entries are is = (is, tt)
made_more [] (c ∷ closed) t entries are is = absurd are
made_more (u ∷ tables) [] t entries are is = absurd are
made_more (u ∷ tables) (c ∷ closed) t entries are is = (are.0, made_more tables closed t entries are.1 is)

pub flat_more : (closed : List (List Entry)) (entries : List Entry) → flat (closed ++ entries ∷ []) ≡ flat closed ++ entries
flat_more [] entries = append-nil entries
flat_more (c ∷ closed) entries = ap (λ (l : List Entry). c ++ l) (flat_more closed entries) ∙ sym (append_assoc c (flat closed) entries)

-- the key of the last
pub last_key_behind : (vs : List Entry) (e : Entry) → last_key (vs ++ e ∷ []) ≡ e.key
last_key_behind vs e = cc (last_behind vs e)
