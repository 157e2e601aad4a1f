-- The first of the heads of runs.
use Rattle.std.proofs.Common.{◌≡◌, ℕ, zero, suc, ◌+◌, ◌<◌, ◌≤◌, Bool, true, false, List, [], ◌∷◌, ◌++◌, length, map, take, get_or, Option, Some, None, refl, sym, ap, subst, ◌∙◌, arith, ◌⊎◌, inl, inr}
use Rattle.std.specs.List.{All, AllByRecursion, slice_get, slice_set}
use Rattle.std.specs.Cmp.{IsTotalOrder}
use Rattle.std.specs.Ordering.{nat_cmp, ordering_then}
use Rattle.std.specs.declared.cmp.Ordering.{Ordering}
use Rattle.std.specs.declared.cmp.Ordering.TheVariants.{Less, Equal, Greater}
use Rattle.std.proofs.lemmas.Cmp.{ranked, on_total, tied_itself}
use Rattle.std.proofs.lemmas.List.Elements.{All-from_recursion, All-push, recursion_from_All}
use Rattle.fjall_base.specs.Pairs.{byte_order}
use Rattle.fjall_table.specs.Blocks.{Entry, seen, StandsBefore, IsBefore}
use Rattle.fjall_table.specs.declared.table_entry.TableEntry.{TableEntry}
use Rattle.fjall_memtable.specs.Stamps.{stamp_cmp, stamp_total}
use Rattle.fjall_memtable.specs.Entries.{stamp_of}
use Rattle.fjall_memtable.proofs.Fronts.{less}
use Rattle.fjall_memtable.specs.Sorted.{IsFirst, IsUpTo, IsUpToFirst}
use Rattle.fjall_cursors.specs.Heads.{ComesBefore, HasFirst, HasTwo}

-- ---- the order

-- how two versions compare
abbrev order : Entry → Entry → Ordering
order v w = stamp_cmp (stamp_of v) (stamp_of w)

order_total : IsTotalOrder order
order_total = on_total stamp_of stamp_total

from_less : (o : Ordering) (n m : ℕ) → ordering_then o (nat_cmp m n) ≡ Less → StandsBefore o n m
from_less Less n m e = tt
from_less Equal n m e = ranked m n Less (sym e)
from_less Greater n m e = absurd cc

to_less : (o : Ordering) (n m : ℕ) → StandsBefore o n m → ordering_then o (nat_cmp m n) ≡ Less
to_less Less n m h = refl
to_less Equal n m h = less m n h
to_less Greater n m h = absurd h

less_from : (v w : Entry) → IsBefore v w → order v w ≡ Less
less_from v w h = to_less (byte_order v.key w.key) v.number w.number h

before_trans : (v w u : Entry) → IsBefore v w → IsBefore w u → IsBefore v u
before_trans v w u h k = from_less (byte_order v.key u.key) v.number u.number (order_total.trans v w u (less_from v w h) (less_from w u k))

-- no version is before itself
before_itself : (v : Entry) → IsBefore v v → ⊥
before_itself v h = let e = sym (less_from v v h) ∙ tied_itself order_total v in absurd (cc e)

up_to_itself : (back : Bool) (v : Entry) → IsUpTo back v v
up_to_itself false v = before_itself v
up_to_itself true v = before_itself v

-- what comes before one that is up to a third is up to that one too
up_to_before : (back : Bool) (w v u : Entry) → ComesBefore back w v → IsUpTo back v u → IsUpTo back w u
up_to_before false w v u h k = λ b. k (before_trans u w v b h)
up_to_before true w v u h k = λ b. k (before_trans v w u h b)

not_before : (back : Bool) (w v : Entry) → (ComesBefore back w v → ⊥) → IsUpTo back v w
not_before false w v h = h
not_before true w v h = h

run_before : (back : Bool) (w v : Entry) (run : List Entry) → ComesBefore back w v → IsUpToFirst back v run → IsUpToFirst back w run
run_before back w v [] h k = tt
run_before back w v (u ∷ run) h k = up_to_before back w v u h k

-- ---- elements

get_before : {A : Type 0} (xs ys : List A) (i : ℕ) (x : A) → slice_get xs i ≡ Some x → slice_get (xs ++ ys) i ≡ Some x
get_before [] ys i x e = absurd (cc e)
get_before (y ∷ xs) ys zero x e = e
get_before (y ∷ xs) ys (suc i) x e = get_before xs ys i x e

get_last : {A : Type 0} (xs : List A) (x : A) → slice_get (xs ++ x ∷ []) (length xs) ≡ Some x
get_last [] x = refl
get_last (y ∷ xs) x = get_last xs x

headed : (run : List Entry) (w : Entry) → Some w ≡ slice_get run 0 → (rest : List Entry) × (run ≡ w ∷ rest)
headed [] w e = absurd (cc e)
headed (x ∷ run) w e = let same : w ≡ x = cc e in (run, ap (λ (u : Entry). u ∷ run) (sym same))

nothing_headed : (run : List Entry) → None ≡ slice_get run 0 → run ≡ []
nothing_headed [] e = refl
nothing_headed (x ∷ run) e = absurd (cc e)

none_before : (back : Bool) (v : Entry) (runs : List (List Entry)) → All (λ run. run ≡ []) runs → All (IsUpToFirst back v) runs
none_before back v runs h = All-weaker-here
  where
    All-weaker-here : All (IsUpToFirst back v) runs
    All-weaker-here = λ k d lt. subst (IsUpToFirst back v) (sym (h k d lt)) tt

-- ---- one run more

-- one that has no version
pub empty_more : (back : Bool) (runs : List (List Entry)) (run : List Entry) (best : Option (ℕ × TableEntry)) → None ≡ slice_get run 0 → HasFirst back runs best → HasFirst back (runs ++ run ∷ []) best
empty_more back runs run None e has = All-push (λ r. r ≡ []) runs run has (nothing_headed run e)
empty_more back runs run (Some first) e has = (
  has.0,
  record {
    here = get_before runs (run ∷ []) first.0 (seen first.1 ∷ has.0) has.1.here;
    first = All-push (IsUpToFirst back (seen first.1)) runs run has.1.first (subst (IsUpToFirst back (seen first.1)) (sym (nothing_headed run e)) tt);
  },
)

begins : (back : Bool) (runs : List (List Entry)) (run : List Entry) (at : ℕ) (w : TableEntry) → at ≡ length runs → Some (seen w) ≡ slice_get run 0 → All (IsUpToFirst back (seen w)) runs → HasFirst back (runs ++ run ∷ []) (Some (at, w))
begins back runs run at w is e each =
    let h = headed run (seen w) e in (
      h.0,
      record {
        here = ap (λ (i : ℕ). slice_get (runs ++ run ∷ []) i) is ∙ get_last runs run ∙ ap Some h.1;
        first = All-push (IsUpToFirst back (seen w)) runs run each (subst (IsUpToFirst back (seen w)) (sym h.1) (up_to_itself back (seen w)));
      },
    )

-- one that has the first version
pub first_found : (back : Bool) (runs : List (List Entry)) (run : List Entry) (at : ℕ) (w : TableEntry) → at ≡ length runs → Some (seen w) ≡ slice_get run 0 → HasFirst back runs None → HasFirst back (runs ++ run ∷ []) (Some (at, w))
first_found back runs run at w is e has = begins back runs run at w is e (none_before back (seen w) runs has)

-- one that begins with what comes before the first yet
pub nearer_found : (back : Bool) (runs : List (List Entry)) (run : List Entry) (at : ℕ) (w : TableEntry) (first : ℕ × TableEntry) → at ≡ length runs → Some (seen w) ≡ slice_get run 0 → ComesBefore back (seen w) (seen first.1) → HasFirst back runs (Some first)
    → HasFirst back (runs ++ run ∷ []) (Some (at, w))
nearer_found back runs run at w first is e before has =
    begins back runs run at w is e (λ k d lt. run_before back (seen w) (seen first.1) _ before (has.1.first k d lt))

-- one that begins with what doesn't
pub farther_found : (back : Bool) (runs : List (List Entry)) (run : List Entry) (w : TableEntry) (first : ℕ × TableEntry) → Some (seen w) ≡ slice_get run 0 → (ComesBefore back (seen w) (seen first.1) → ⊥) → HasFirst back runs (Some first)
    → HasFirst back (runs ++ run ∷ []) (Some first)
farther_found back runs run w first e behind has =
    let h = headed run (seen w) e in (
      has.0,
      record {
        here = get_before runs (run ∷ []) first.0 (seen first.1 ∷ has.0) has.1.here;
        first = All-push (IsUpToFirst back (seen first.1)) runs run has.1.first (subst (IsUpToFirst back (seen first.1)) (sym h.1) (not_before back (seen w) (seen first.1) behind));
      },
    )

-- ---- the first of the others

set_last : {A : Type 0} (xs : List A) (x y : A) → slice_set (xs ++ x ∷ []) (length xs) y ≡ xs ++ y ∷ []
set_last [] x y = refl
set_last (z ∷ xs) x y = ap (λ (zs : List _). z ∷ zs) (set_last xs x y)

set_front : {A : Type 0} (xs : List A) (i : ℕ) (x y z : A) → slice_get xs i ≡ Some z → slice_set (xs ++ x ∷ []) i y ≡ slice_set xs i y ++ x ∷ []
set_front [] i x y z e = absurd (cc e)
set_front (w ∷ xs) zero x y z e = refl
set_front (w ∷ xs) (suc i) x y z e = ap (λ (zs : List _). w ∷ zs) (set_front xs i x y z e)

same_length : {A : Type 0} (xs : List A) (i : ℕ) (x : A) → length (slice_set xs i x) ≡ length xs
same_length [] i x = refl
same_length (y ∷ xs) zero x = refl
same_length (y ∷ xs) (suc i) x = ap suc (same_length xs i x)

-- a run more that has no version
pub two_same : (back : Bool) (runs : List (List Entry)) (run : List Entry) (best second : Option (ℕ × TableEntry)) → None ≡ slice_get run 0 → HasTwo back runs best second → HasTwo back (runs ++ run ∷ []) best second
two_same back runs run None second e has = (has.0, empty_more back runs run None e has.1)
two_same back runs run (Some first) second e has = (
  empty_more back runs run (Some first) e has.0,
  subst (λ (rs : List (List Entry)). HasFirst back rs second) (sym (set_front runs first.0 run [] (seen first.1 ∷ has.0.0) has.0.1.here)) (empty_more back (slice_set runs first.0 []) run second e has.1),
)

-- one that begins with the first of all, where another was the first yet, or none
pub two_nearer : (back : Bool) (runs : List (List Entry)) (run : List Entry) (at : ℕ) (w : TableEntry) (best : Option (ℕ × TableEntry)) → at ≡ length runs → HasFirst back runs best → HasFirst back (runs ++ run ∷ []) (Some (at, w))
    → HasTwo back (runs ++ run ∷ []) (Some (at, w)) best
two_nearer back runs run at w best is has first = (
  first,
  subst (λ (rs : List (List Entry)). HasFirst back rs best) (sym (ap (λ (i : ℕ). slice_set (runs ++ run ∷ []) i []) is ∙ set_last runs run [])) (empty_more back runs [] best refl has),
)

-- one that doesn't
pub two_farther : (back : Bool) (runs : List (List Entry)) (run : List Entry) (at : ℕ) (first : ℕ × TableEntry) (second : Option (ℕ × TableEntry)) → at ≡ length runs → HasFirst back runs (Some first) → HasFirst back (runs ++ run ∷ []) (Some first)
    → (at ≡ length (slice_set runs first.0 []) → HasFirst back (slice_set runs first.0 [] ++ run ∷ []) second) → HasTwo back (runs ++ run ∷ []) (Some first) second
two_farther back runs run at first second is before has more = (
  has,
  subst (λ (rs : List (List Entry)). HasFirst back rs second) (sym (set_front runs first.0 run [] (seen first.1 ∷ before.0) before.1.here)) (more (is ∙ sym (same_length runs first.0 []))),
)

-- ---- a run that goes on

-- what comes before a version that is up to the first of each of the other runs is up to those too
up_to_others : (back : Bool) (u w : Entry) (rest : List Entry) (runs : List (List Entry)) (at : ℕ) → ComesBefore back u w → slice_get runs at ≡ Some (u ∷ rest) → AllByRecursion (IsUpToFirst back w) (slice_set runs at []) → AllByRecursion (IsUpToFirst back u) runs
up_to_others back u w rest [] at before here each = tt
up_to_others back u w rest (run ∷ runs) zero before here each =
    let is : run ≡ u ∷ rest = cc here in
    (subst (IsUpToFirst back u) (sym is) (up_to_itself back u), up_to_each runs each.1)
  where
    up_to_each : (runs : List (List Entry)) → AllByRecursion (IsUpToFirst back w) runs → AllByRecursion (IsUpToFirst back u) runs
    up_to_each [] h = tt
    up_to_each (run ∷ runs) h = (run_before back u w run before h.0, up_to_each runs h.1)
up_to_others back u w rest (run ∷ runs) (suc at) before here each = (run_before back u w run before each.0, up_to_others back u w rest runs at before here each.1)

-- the same where the other runs have no version
up_to_none : (back : Bool) (u : Entry) (rest : List Entry) (runs : List (List Entry)) (at : ℕ) → slice_get runs at ≡ Some (u ∷ rest) → AllByRecursion (λ run. run ≡ []) (slice_set runs at []) → AllByRecursion (IsUpToFirst back u) runs
up_to_none back u rest [] at here each = tt
up_to_none back u rest (run ∷ runs) zero here each =
    let is : run ≡ u ∷ rest = cc here in
    (subst (IsUpToFirst back u) (sym is) (up_to_itself back u), up_to_each runs each.1)
  where
    up_to_each : (runs : List (List Entry)) → AllByRecursion (λ run. run ≡ []) runs → AllByRecursion (IsUpToFirst back u) runs
    up_to_each [] h = tt
    up_to_each (run ∷ runs) h = (subst (IsUpToFirst back u) (sym h.0) tt, up_to_each runs h.1)
up_to_none back u rest (run ∷ runs) (suc at) here each = (subst (IsUpToFirst back u) (sym each.0) tt, up_to_none back u rest runs at here each.1)

-- where no other run has a version
pub alone_first : (back : Bool) (runs : List (List Entry)) (at : ℕ) (run : List Entry) (u : Entry) → slice_get runs at ≡ Some run → Some u ≡ slice_get run 0 → IsFirst back (slice_set runs at []) None → IsFirst back runs (Some at)
alone_first back runs at run u get head none =
    let h = headed run u head in
    let here : slice_get runs at ≡ Some (u ∷ h.0) = get ∙ ap Some h.1 in
    (u, h.0, record { here = here; first = All-from_recursion (IsUpToFirst back u) runs (up_to_none back u h.0 runs at here (recursion_from_All (λ run. run ≡ []) (slice_set runs at []) none)) })

-- another place stands as it stood
other_stands : {A : Type 0} (xs : List A) (i j : ℕ) (x y : A) (none : A) → slice_get xs j ≡ Some x → slice_get (slice_set xs i none) j ≡ Some y → (x ≡ y) ⊎ (none ≡ y)
other_stands [] i j x y none e f = absurd (cc e)
other_stands (z ∷ xs) zero zero x y none e f = inr (cc f)
other_stands (z ∷ xs) zero (suc j) x y none e f = inl (cc (e, f))
other_stands (z ∷ xs) (suc i) zero x y none e f = inl (cc (e, f))
other_stands (z ∷ xs) (suc i) (suc j) x y none e f = other_stands xs i j x y none e f

-- where its first version comes before that of the first of the others
pub ahead_first : (back : Bool) (runs : List (List Entry)) (at other : ℕ) (run next : List Entry) (u w : Entry) → slice_get runs at ≡ Some run → Some u ≡ slice_get run 0 → slice_get runs other ≡ Some next → Some w ≡ slice_get next 0 → ComesBefore back u w
    → IsFirst back (slice_set runs at []) (Some other) → IsFirst back runs (Some at)
ahead_first back runs at other run next u w get head get_next head_next before second =
    let h = headed run u head in
    let k = headed next w head_next in
    let here : slice_get runs at ≡ Some (u ∷ h.0) = get ∙ ap Some h.1 in
    let same : second.0 ≡ w = elim (other_stands runs at other next (second.0 ∷ second.1) [] get_next second.2.here) [
      | inl e ↦ cc (e, k.1)
      | inr e ↦ absurd (cc e)
    ] in
    let each = subst (λ (v : Entry). All (IsUpToFirst back v) (slice_set runs at [])) same second.2.first in
    (u, h.0, record { here = here; first = All-from_recursion (IsUpToFirst back u) runs (up_to_others back u w h.0 runs at before here (recursion_from_All (IsUpToFirst back w) (slice_set runs at []) each)) })

-- ---- a run that another one overtakes

-- the run at a place, where the first of the others stands
other_there : (back : Bool) (runs : List (List Entry)) (at other : ℕ) (next : List Entry) (w : Entry) → slice_get runs other ≡ Some next → Some w ≡ slice_get next 0 → (second : IsFirst back (slice_set runs at []) (Some other)) → second.0 ≡ w
other_there back runs at other next w get head second =
    let k = headed next w head in
    elim (other_stands runs at other next (second.0 ∷ second.1) [] get second.2.here) [
      | inl e ↦ cc (e, k.1)
      | inr e ↦ absurd (cc e)
    ]

up_to_with : (back : Bool) (w v : Entry) (rest : List Entry) (runs : List (List Entry)) (at : ℕ) → IsUpTo back w v → slice_get runs at ≡ Some (v ∷ rest) → AllByRecursion (IsUpToFirst back w) (slice_set runs at []) → AllByRecursion (IsUpToFirst back w) runs
up_to_with back w v rest [] at up here each = tt
up_to_with back w v rest (run ∷ runs) zero up here each =
    let is : run ≡ v ∷ rest = cc here in
    (subst (IsUpToFirst back w) (sym is) up, each.1)
up_to_with back w v rest (run ∷ runs) (suc at) up here each = (each.0, up_to_with back w v rest runs at up here each.1)

-- the first of the others is the first of all where the run's own version doesn't come before it
pub overtaken : (back : Bool) (runs : List (List Entry)) (at other : ℕ) (run next : List Entry) (v w : Entry) → slice_get runs at ≡ Some run → Some v ≡ slice_get run 0 → slice_get runs other ≡ Some next → Some w ≡ slice_get next 0 → (ComesBefore back v w → ⊥)
    → IsFirst back (slice_set runs at []) (Some other) → IsFirst back runs (Some other)
overtaken back runs at other run next v w get head get_next head_next behind second =
    let h = headed run v head in
    let k = headed next w head_next in
    let each = subst (λ (u : Entry). All (IsUpToFirst back u) (slice_set runs at [])) (other_there back runs at other next w get_next head_next second) second.2.first in (
      w,
      k.0,
      record {
        here = get_next ∙ ap Some k.1;
        first = All-from_recursion (IsUpToFirst back w) runs (up_to_with back w v h.0 runs at (not_before back v w behind) (get ∙ ap Some h.1) (recursion_from_All (IsUpToFirst back w) (slice_set runs at []) each));
      },
    )

-- of two runs, the other one is then the first of the others
two_turned : (back : Bool) (runs : List (List Entry)) (at other : ℕ) (v w : Entry) (rest behind : List Entry) → length runs ≡ 2 → slice_get runs at ≡ Some (v ∷ rest) → slice_get (slice_set runs at []) other ≡ Some (w ∷ behind) → IsFirst back (slice_set runs other []) (Some at)
two_turned back [] at other v w rest behind two here there = absurd (cc here)
two_turned back (x ∷ []) at other v w rest behind two here there = absurd (omega (arith, two))
two_turned back (x ∷ y ∷ z ∷ runs) at other v w rest behind two here there = absurd (omega (arith, two))
two_turned back (x ∷ y ∷ []) zero zero v w rest behind two here there = absurd (cc there)
two_turned back (x ∷ y ∷ []) zero (suc zero) v w rest behind two here there =
    let is : x ≡ v ∷ rest = cc here in
    (v, rest, record { here = here; first = All-from_recursion (IsUpToFirst back v) (x ∷ [] ∷ []) (subst (IsUpToFirst back v) (sym is) (up_to_itself back v), (tt, tt)) })
two_turned back (x ∷ y ∷ []) zero (suc (suc other)) v w rest behind two here there = absurd (cc there)
two_turned back (x ∷ y ∷ []) (suc zero) zero v w rest behind two here there =
    let is : y ≡ v ∷ rest = cc here in
    (v, rest, record { here = here; first = All-from_recursion (IsUpToFirst back v) ([] ∷ y ∷ []) (tt, (subst (IsUpToFirst back v) (sym is) (up_to_itself back v), tt)) })
two_turned back (x ∷ y ∷ []) (suc zero) (suc zero) v w rest behind two here there = absurd (cc there)
two_turned back (x ∷ y ∷ []) (suc zero) (suc (suc other)) v w rest behind two here there = absurd (cc there)
two_turned back (x ∷ y ∷ []) (suc (suc at)) other v w rest behind two here there = absurd (cc here)

pub turned : (back : Bool) (runs : List (List Entry)) (at other : ℕ) (run : List Entry) (v : Entry) → length runs ≡ 2 → slice_get runs at ≡ Some run → Some v ≡ slice_get run 0 → IsFirst back (slice_set runs at []) (Some other) → IsFirst back (slice_set runs other []) (Some at)
turned back runs at other run v two get head second =
    let h = headed run v head in
    two_turned back runs at other v second.0 h.0 second.1 two (get ∙ ap Some h.1) second.2.here

-- a run that has a version
-- a run that isn't empty begins with a version
pub headed_by : (run : List Entry) → (run ≡ [] → ⊥) → (v : Entry) × (Some v ≡ slice_get run 0)
headed_by [] some = absurd (some refl)
headed_by (v ∷ run) some = (v, refl)

pub has_one : (runs : List (List Entry)) (at : ℕ) (run : List Entry) (v : Entry) → slice_get runs at ≡ Some run → Some v ≡ slice_get run 0 → (v : Entry) × (rest : List Entry) × (slice_get runs at ≡ Some (v ∷ rest))
has_one runs at run v get head = let h = headed run v head in (v, h.0, get ∙ ap Some h.1)

-- ---- one more of the runs

plus_one : (n : ℕ) → suc n + 1 ≡ suc (n + 1)
plus_one n = omega arith

pub taken_run : {A B : Type 0} (f : A → B) (xs : List A) (i : ℕ) (x : A) → i < length xs → x ≡ get_or xs i x → take (i + 1) (map f xs) ≡ take i (map f xs) ++ f x ∷ []
taken_run f [] i x lt e = absurd (omega arith)
taken_run f (y ∷ xs) zero x lt e = ap (λ z. f z ∷ []) (sym e)
taken_run f (y ∷ xs) (suc i) x lt e = ap (λ (k : ℕ). take k (map f (y ∷ xs))) (plus_one i) ∙ ap (λ (zs : List _). f y ∷ zs) (taken_run f xs i x (omega arith) e)

pub taken_len : {A B : Type 0} (f : A → B) (xs : List A) (i : ℕ) → i ≤ length xs → i ≡ length (take i (map f xs))
taken_len f xs zero le = refl
taken_len f [] (suc i) le = absurd (omega arith)
taken_len f (x ∷ xs) (suc i) le = ap suc (taken_len f xs i (omega arith))

-- the run at a place
pub got_at : {A B : Type 0} (f : A → B) (xs : List A) (i : ℕ) (x : A) → i < length xs → x ≡ get_or xs i x → slice_get (map f xs) i ≡ Some (f x)
got_at f [] i x lt e = absurd (omega arith)
got_at f (y ∷ xs) zero x lt e = ap (λ z. Some (f z)) (sym e)
got_at f (y ∷ xs) (suc i) x lt e = got_at f xs i x (omega arith) e

pub length_of : {A B : Type 0} (f : A → B) (xs : List A) → length (map f xs) ≡ length xs
length_of f [] = refl
length_of f (x ∷ xs) = ap suc (length_of f xs)
