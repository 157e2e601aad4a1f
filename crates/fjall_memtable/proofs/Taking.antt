-- The first version of several runs, from either end: it is the first of all in order, and the others are left.
use Rattle.std.proofs.Common.{◌≡◌, ℕ, zero, suc, Bool, true, false, List, [], ◌∷◌, ◌++◌, reverse, slice_get, slice_set, Some, refl, sym, ap, subst, ◌∙◌, append_assoc}
use Rattle.std.specs.List.{list_any, All, AllByRecursion}
use Rattle.std.specs.Ordering.{match_ordering}
use Rattle.std.specs.declared.cmp.Ordering.{Ordering}
use Rattle.std.specs.declared.cmp.Ordering.TheVariants.{Less, Equal, Greater}
use Rattle.std.proofs.lemmas.Bool.{true≢false, or_parts, or_from, false_from_ne_true}
use Rattle.std.proofs.lemmas.List.{reverse-append, reverse-reverse}
use Rattle.std.proofs.lemmas.List.Elements.{recursion_from_All, All-set}
use Rattle.std.proofs.lemmas.List.Folds.{list_any-append}
use Rattle.std.proofs.lemmas.Option.{slice_get_within, get_or_from_slice_get}
use Rattle.fjall_table.specs.Blocks.{Entry, IsBefore, IsOrdered}
use Rattle.fjall_memtable.specs.Entries.{inserted}
use Rattle.fjall_memtable.specs.Jobs.{OnceEach, is_at}
use Rattle.fjall_memtable.proofs.Sameness.{at_turned}
use Rattle.fjall_memtable.specs.Sorted.{flat, sorted, in_turn, IsInTurn, IsUpTo, IsUpToFirst, IsFirstOf}
use Rattle.fjall_memtable.proofs.Sorting.{order, before_from, behind_from, before_trans, tied, IsChain, chain_of, ordered_of, all_weaker, all_sorted, inserted_first, inserted_behind}

-- ---- all of several lists

-- what all of both lists have
all_append : {X : Type 0} (P : X → Type 0) (xs ys : List X) → AllByRecursion P xs → AllByRecursion P ys → AllByRecursion P (xs ++ ys)
all_append P [] ys h k = k
all_append P (x ∷ xs) ys h k = (h.0, all_append P xs ys h.1 k)

-- from either end
all_reverse : {X : Type 0} (P : X → Type 0) (xs : List X) → AllByRecursion P xs → AllByRecursion P (reverse xs)
all_reverse P [] h = tt
all_reverse P (x ∷ xs) h = subst (AllByRecursion P) (sym (reverse-append (x ∷ []) xs)) (all_append P (reverse xs) (x ∷ []) (all_reverse P xs h.1) (h.0, tt))

all_turned : {X : Type 0} (P : X → Type 0) (xs : List X) → AllByRecursion P (reverse xs) → AllByRecursion P xs
all_turned P xs h = subst (AllByRecursion P) (reverse-reverse xs) (all_reverse P (reverse xs) h)

-- and all of them but one
all_without : {X : Type 0} (P : X → Type 0) (before behind : List X) (v : X) → AllByRecursion P (before ++ (v ∷ behind)) → AllByRecursion P (before ++ behind)
all_without P [] behind v h = h.1
all_without P (u ∷ before) behind v h = (h.0, all_without P before behind v h.1)

-- ---- lists in order, from behind

-- the front of a list in order is in order
chain_front : (vs ws : List Entry) → IsChain (vs ++ ws) → IsChain vs
chain_front [] ws up = tt
chain_front (v ∷ vs) ws up = (front vs up.0, chain_front vs ws up.1)
  where
    front : (us : List Entry) → AllByRecursion (IsBefore v) (us ++ ws) → AllByRecursion (IsBefore v) us
    front [] h = tt
    front (u ∷ us) h = (h.0, front us h.1)

-- all others are before the last
chain_last : (vs : List Entry) (w : Entry) → IsChain (vs ++ (w ∷ [])) → AllByRecursion (λ u. IsBefore u w) vs
chain_last [] w up = tt
chain_last (v ∷ vs) w up = (last vs up.0, chain_last vs w up.1)
  where
    last : (us : List Entry) → AllByRecursion (IsBefore v) (us ++ (w ∷ [])) → IsBefore v w
    last [] h = h.0
    last (u ∷ us) h = last us h.1

-- from behind, the first version is the last
turned_chain : (v : Entry) (vs : List Entry) → IsOrdered (reverse (v ∷ vs)) → IsChain (reverse vs ++ (v ∷ []))
turned_chain v vs up = subst IsChain (reverse-append (v ∷ []) vs) (chain_of (reverse (v ∷ vs)) up)

-- what is left of a run behind its first version is in order too
rest_in_turn : (back : Bool) (v : Entry) (rest : List Entry) → IsInTurn back (v ∷ rest) → IsInTurn back rest
rest_in_turn false v rest up = ordered_of rest (chain_of (v ∷ rest) up).1
rest_in_turn true v rest up = ordered_of (reverse rest) (chain_front (reverse rest) (v ∷ []) (turned_chain v rest up))

-- ---- none comes earlier

-- what doesn't come behind the first of a run doesn't come behind any of it
run_up_to : (back : Bool) (v : Entry) (run : List Entry) → IsInTurn back run → IsUpToFirst back v run → AllByRecursion (IsUpTo back v) run
run_up_to back v [] up h = tt
run_up_to false v (w ∷ run) up h = (h, all_weaker (IsBefore w) (IsUpTo false v) run (λ u k l. h (before_trans w u v k l)) (chain_of (w ∷ run) up).0)
run_up_to true v (w ∷ run) up h =
    let each = all_turned (λ u. IsBefore u w) run (chain_last (reverse run) w (turned_chain w run up)) in
    (h, all_weaker (λ u. IsBefore u w) (IsUpTo true v) run (λ u k l. h (before_trans v u w l k)) each)

-- nor behind any of all runs
flat_up_to : (back : Bool) (v : Entry) (runs : List (List Entry)) → AllByRecursion (IsInTurn back) runs → AllByRecursion (IsUpToFirst back v) runs
    → AllByRecursion (IsUpTo back v) (flat runs)
flat_up_to back v [] up h = tt
flat_up_to back v (run ∷ runs) up h = all_append (IsUpTo back v) run (flat runs) (run_up_to back v run up.0 h.0) (flat_up_to back v runs up.1 h.1)

-- the first comes before the second as they are gone through
abbrev IsEarlier : Bool → Entry → Entry → Type 0
IsEarlier false v w = IsBefore v w
IsEarlier true v w = IsBefore w v

-- what doesn't come behind another one, and isn't of its key and number, comes before it
earlier : (back : Bool) (v w : Entry) → IsUpTo back v w → is_at v w ≡ false → IsEarlier back v w
earlier back v w h apart = by back (order v w) refl h
  where
    by : (back : Bool) (o : Ordering) → order v w ≡ o → IsUpTo back v w → IsEarlier back v w
    by back Equal e h = absurd (true≢false (sym (tied v w e) ∙ apart))
    by false Less e h = before_from v w e
    by true Less e h = absurd (h (before_from v w e))
    by false Greater e h = absurd (h (behind_from v w e))
    by true Greater e h = behind_from v w e

-- and so before all of these
each_earlier : (back : Bool) (v : Entry) (vs : List Entry) → list_any (is_at v) vs ≡ false → AllByRecursion (IsUpTo back v) vs → AllByRecursion (IsEarlier back v) vs
each_earlier back v [] apart h = tt
each_earlier back v (w ∷ vs) apart h =
    let p = or_parts (is_at v w) (list_any (is_at v) vs) apart in
    (earlier back v w h.0 p.0, each_earlier back v vs p.1 h.1)

-- ---- once each, without one of them

-- what has the key and number of none of these has not that of one, nor those of the others
apart_parts : (u v : Entry) (before behind : List Entry) → list_any (is_at u) (before ++ (v ∷ behind)) ≡ false
    → (list_any (is_at u) (before ++ behind) ≡ false) × (is_at u v ≡ false)
apart_parts u v before behind apart =
    let p = or_parts (list_any (is_at u) before) (list_any (is_at u) (v ∷ behind)) (sym (list_any-append (is_at u) before (v ∷ behind)) ∙ apart) in
    let q = or_parts (is_at u v) (list_any (is_at u) behind) p.1 in
    (list_any-append (is_at u) before behind ∙ or_from (list_any (is_at u) before) (list_any (is_at u) behind) p.0 q.1, q.0)

-- it stays so
once_without : (before behind : List Entry) (v : Entry) → OnceEach (before ++ (v ∷ behind)) → OnceEach (before ++ behind)
once_without [] behind v once = once.1
once_without (u ∷ before) behind v once = ((apart_parts u v before behind once.0).0, once_without before behind v once.1)

-- none of the others has its key and number
none_tied : (before behind : List Entry) (v : Entry) → OnceEach (before ++ (v ∷ behind)) → list_any (is_at v) (before ++ behind) ≡ false
none_tied [] behind v once = once.0
none_tied (u ∷ before) behind v once =
    or_from (is_at v u) (list_any (is_at v) (before ++ behind))
    (false_from_ne_true (is_at v u) (λ e. true≢false (sym (at_turned v u e) ∙ (apart_parts u v before behind once.0).1)))
    (none_tied before behind v once.1)

-- ---- sorting without the first

-- one that is before all others is the first of them in order
sorted_first : (before behind : List Entry) (v : Entry) → AllByRecursion (IsBefore v) (before ++ behind) → sorted (before ++ (v ∷ behind)) ≡ v ∷ sorted (before ++ behind)
sorted_first [] behind v each = inserted_first v (sorted behind) (all_sorted (IsBefore v) behind each)
sorted_first (u ∷ before) behind v each = ap (inserted u) (sorted_first before behind v each.1) ∙ inserted_behind u v (sorted (before ++ behind)) each.0

-- one that is behind all others comes last
inserted_last : (v : Entry) (vs : List Entry) → AllByRecursion (λ u. IsBefore u v) vs → inserted v vs ≡ vs ++ (v ∷ [])
inserted_last v [] each = refl
inserted_last v (w ∷ vs) each = inserted_behind v w vs each.0 ∙ ap (λ (xs : List Entry). w ∷ xs) (inserted_last v vs each.1)

-- one that is before the last leaves it the last
inserted_ahead : (u v : Entry) (vs : List Entry) → IsBefore u v → inserted u (vs ++ (v ∷ [])) ≡ inserted u vs ++ (v ∷ [])
inserted_ahead u v [] h = inserted_first u (v ∷ []) (h, tt)
inserted_ahead u v (w ∷ vs) h = by (order u w) (inserted_ahead u v vs h)
  where
    by : (o : Ordering) → inserted u (vs ++ (v ∷ [])) ≡ inserted u vs ++ (v ∷ [])
        → match_ordering o (u ∷ w ∷ (vs ++ (v ∷ []))) (u ∷ (vs ++ (v ∷ []))) (w ∷ inserted u (vs ++ (v ∷ [])))
        ≡ match_ordering o (u ∷ w ∷ vs) (u ∷ vs) (w ∷ inserted u vs) ++ (v ∷ [])
    by Less more = refl
    by Equal more = refl
    by Greater more = ap (λ (xs : List Entry). w ∷ xs) more

-- one that is behind all others is the last of them in order
sorted_last : (before behind : List Entry) (v : Entry) → AllByRecursion (λ u. IsBefore u v) (before ++ behind)
    → sorted (before ++ (v ∷ behind)) ≡ sorted (before ++ behind) ++ (v ∷ [])
sorted_last [] behind v each = inserted_last v (sorted behind) (all_sorted (λ u. IsBefore u v) behind each)
sorted_last (u ∷ before) behind v each = ap (inserted u) (sorted_last before behind v each.1) ∙ inserted_ahead u v (sorted (before ++ behind)) each.0

-- from either end, the first of all is the first in order
sorted_without : (back : Bool) (before behind : List Entry) (v : Entry) → AllByRecursion (IsEarlier back v) (before ++ behind)
    → in_turn back (sorted (before ++ (v ∷ behind))) ≡ v ∷ in_turn back (sorted (before ++ behind))
sorted_without false before behind v each = sorted_first before behind v each
sorted_without true before behind v each =
    ap (λ (xs : List Entry). reverse xs) (sorted_last before behind v each) ∙ reverse-append (sorted (before ++ behind)) (v ∷ [])

-- ---- taking it from its run

-- The version stands among those of some runs, and those of the others are the rest.
pub record IsTaken (runs others : List (List Entry)) (v : Entry) : Type 0 where
  pub before : List Entry
  pub behind : List Entry
  pub were : flat runs ≡ before ++ (v ∷ behind)
  pub are : flat others ≡ before ++ behind

-- where its run begins with it
pub taken : (runs : List (List Entry)) (at : ℕ) (v : Entry) (rest : List Entry) → slice_get runs at ≡ Some (v ∷ rest) → IsTaken runs (slice_set runs at rest) v
taken [] at v rest e = absurd cc
taken (run ∷ runs) zero v rest e =
    let is : run ≡ v ∷ rest = cc in
    record { before = []; behind = rest ++ flat runs; were = ap (λ (r : List Entry). r ++ flat runs) is; are = refl }
taken (run ∷ runs) (suc at) v rest e =
    let t = taken runs at v rest e in
    record {
      before = run ++ t.before;
      behind = t.behind;
      were = ap (λ (vs : List Entry). run ++ vs) t.were ∙ sym (append_assoc run t.before (v ∷ t.behind));
      are = ap (λ (vs : List Entry). run ++ vs) t.are ∙ sym (append_assoc run t.before t.behind);
    }

-- what is taken is the first of all in order, and the others are left in order
pub first_taken : (back : Bool) (runs : List (List Entry)) (at : ℕ) (v : Entry) (rest : List Entry)
    → All (IsInTurn back) runs → OnceEach (flat runs) → IsFirstOf back runs at v rest
    → in_turn back (sorted (flat runs)) ≡ v ∷ in_turn back (sorted (flat (slice_set runs at rest)))
first_taken back runs at v rest up once is =
    let t = taken runs at v rest is.here in
    let all = flat_up_to back v runs (recursion_from_All (IsInTurn back) runs up) (recursion_from_All (IsUpToFirst back v) runs is.first) in
    let others = all_without (IsUpTo back v) t.before t.behind v (subst (AllByRecursion (IsUpTo back v)) t.were all) in
    let each = each_earlier back v (t.before ++ t.behind) (none_tied t.before t.behind v (subst OnceEach t.were once)) others in
    ap (λ (vs : List Entry). in_turn back (sorted vs)) t.were ∙ sorted_without back t.before t.behind v each
    ∙ ap (λ (vs : List Entry). v ∷ in_turn back (sorted vs)) (sym t.are)

-- the runs stay in order
pub runs_in_turn : (back : Bool) (runs : List (List Entry)) (at : ℕ) (v : Entry) (rest : List Entry)
    → All (IsInTurn back) runs → IsFirstOf back runs at v rest → All (IsInTurn back) (slice_set runs at rest)
runs_in_turn back runs at v rest up is =
    let here = subst (IsInTurn back) (get_or_from_slice_get runs at (v ∷ rest) (v ∷ rest) is.here) (up at (v ∷ rest) (slice_get_within runs at (v ∷ rest) is.here)) in
    All-set (IsInTurn back) runs at rest (rest_in_turn back v rest here) up

-- and no key and number comes to stand twice
pub others_once : (back : Bool) (runs : List (List Entry)) (at : ℕ) (v : Entry) (rest : List Entry)
    → OnceEach (flat runs) → IsFirstOf back runs at v rest → OnceEach (flat (slice_set runs at rest))
others_once back runs at v rest once is =
    let t = taken runs at v rest is.here in
    subst OnceEach (sym t.are) (once_without t.before t.behind v (subst OnceEach t.were once))
