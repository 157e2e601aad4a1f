-- Lists of the same versions have the same newest ones.
use Rattle.std.proofs.Common.{◌≡◌, ℕ, ◌<◌, ◌==◌, Bool, true, false, ◌&&◌, ltb, cond, List, [], ◌∷◌, Option, Some, None, refl, sym, ap, subst, ◌∙◌, inl, inr, ◌⊎◌, arith}
use Rattle.std.specs.List.{filter, list_any, All}
use Rattle.std.specs.Str.{bytes_eq}
use Rattle.std.proofs.lemmas.Bool.{or_cases, and_parts, and_from, true≢false, eqb-true, eq-eqb, false_from_ne_true}
use Rattle.std.proofs.lemmas.Slice.Eq.{bytes_eq-Decides}
use Rattle.fjall_base.specs.Pairs.{Bytes}
use Rattle.std.proofs.lemmas.List.Elements.{All-nil, All-cons, All-head, All-tail}
use Rattle.fjall_table.specs.Blocks.{Entry}
use Rattle.fjall_memtable.specs.Views.{newest, newest_of, is_seen}
use Rattle.fjall_memtable.specs.Jobs.{is_at, OnceEach, Same}
use Rattle.fjall_memtable.proofs.NewestSeen.{top, newest_among, newest_passes, reaches}
use Rattle.fjall_memtable.proofs.Tests.{any_first, any_later, any_weaker, any_fewer}

-- ---- keys

pub same_key : (a b : Bytes) → bytes_eq a b ≡ true → a ≡ b
same_key a b = (bytes_eq-Decides a b).0

pub key_itself : (a : Bytes) → bytes_eq a a ≡ true
key_itself a = (bytes_eq-Decides a a).1 refl

pub keys_tie : (a b : Bytes) → a ≡ b → bytes_eq a b ≡ true
keys_tie a b = (bytes_eq-Decides a b).1

pub key_turned : (a b : Bytes) (x : Bool) → bytes_eq a b ≡ x → bytes_eq b a ≡ x
key_turned a b true h = keys_tie b a (sym (same_key a b h))
key_turned a b false h = false_from_ne_true _ (λ t. true≢false (sym (keys_tie a b (sym (same_key b a t))) ∙ h))

-- ---- one version

pub at-true : (v w : Entry) → is_at v w ≡ true → (w.key ≡ v.key) × (w.number ≡ v.number)
at-true v w e = let p = and_parts (bytes_eq w.key v.key) (w.number == v.number) e in (same_key w.key v.key p.0, eqb-true w.number v.number p.1)

pub at-from : (v w : Entry) → w.key ≡ v.key → w.number ≡ v.number → is_at v w ≡ true
at-from v w e f = and_from (bytes_eq w.key v.key) (w.number == v.number) (keys_tie w.key v.key e) (eq-eqb w.number v.number f)

pub at_turned : (v w : Entry) → is_at v w ≡ true → is_at w v ≡ true
at_turned v w e = let p = at-true v w e in at-from w v (sym p.0) (sym p.1)

-- those that a view sees of one key are told apart by their numbers
pub seen_at : (key : Bytes) (instant : ℕ) (v w : Entry) → is_seen key instant v ≡ true → is_seen key instant w ≡ true → w.number ≡ v.number → is_at v w ≡ true
seen_at key instant v w e f same =
    let a = and_parts (bytes_eq v.key key) (ltb v.number instant) e in
    let b = and_parts (bytes_eq w.key key) (ltb w.number instant) f in
    at-from v w (same_key w.key key b.0 ∙ sym (same_key v.key key a.0)) same

abbrev pub is_same_value : Option Bytes → Option Bytes → Bool
is_same_value None None = true
is_same_value None (Some b) = false
is_same_value (Some a) None = false
is_same_value (Some a) (Some b) = bytes_eq a b

same_value-true : (a b : Option Bytes) → is_same_value a b ≡ true → a ≡ b
same_value-true None None e = refl
same_value-true None (Some b) e = cc
same_value-true (Some a) None e = cc
same_value-true (Some a) (Some b) e = ap Some (same_key a b e)

value_itself : (a : Option Bytes) → is_same_value a a ≡ true
value_itself None = refl
value_itself (Some a) = key_itself a

-- whether it is this very version
abbrev pub is : Entry → Entry → Bool
is v w = is_at v w && is_same_value w.value v.value

pub is-true : (v w : Entry) → is v w ≡ true → w ≡ v
is-true v w e =
    let p = and_parts (is_at v w) (is_same_value w.value v.value) e in
    let a = at-true v w p.0 in
    let b = same_value-true w.value v.value p.1 in
    λ i. record { key = a.0 i; number = a.1 i; value = b i }

pub is_itself : (v : Entry) → is v v ≡ true
is_itself v = and_from (is_at v v) (is_same_value v.value v.value) (at-from v v refl refl) (value_itself v.value)

-- what holds of each version holds of one that is among them
pub among_has : (P : Entry → Type 0) (vs : List Entry) (v : Entry) → list_any (is v) vs ≡ true → All P vs → P v
among_has P [] v h all = absurd (true≢false (sym h))
among_has P (u ∷ vs) v h all = elim (or_cases (is v u) (list_any (is v) vs) h) [
  | inl e ↦ subst P (is-true v u e) (All-head P u vs all)
  | inr e ↦ among_has P vs v e (All-tail P u vs all)
]

-- and what holds of all that are among them holds of each
pub all_among : (P : Entry → Type 0) (vs : List Entry) → ((v : Entry) → list_any (is v) vs ≡ true → P v) → All P vs
all_among P [] each = All-nil P
all_among P (v ∷ vs) each = All-cons P v vs (each v (any_first (is v) v vs (is_itself v))) (all_among P vs (λ w h. each w (any_later (is w) v vs h)))

-- ---- one of a key and number

not_again : (u w : Entry) (vs : List Entry) → list_any (is_at u) vs ≡ false → list_any (is w) vs ≡ true → is_at u w ≡ true → ⊥
not_again u w vs apart there at = true≢false (sym (any_weaker (is w) (is_at u) vs (λ x e. ap (is_at u) (is-true w x e) ∙ at) there) ∙ apart)

pub one_alone : (vs : List Entry) (v w : Entry) → OnceEach vs → list_any (is v) vs ≡ true → list_any (is w) vs ≡ true → is_at v w ≡ true → v ≡ w
one_alone [] v w once h k at = absurd (true≢false (sym h))
one_alone (u ∷ vs) v w once h k at = by (or_cases _ _ h) (or_cases _ _ k) (λ a b. one_alone vs v w once.1 a b at)
  where
    by : (is v u ≡ true) ⊎ (list_any (is v) vs ≡ true) → (is w u ≡ true) ⊎ (list_any (is w) vs ≡ true)
        → (list_any (is v) vs ≡ true → list_any (is w) vs ≡ true → v ≡ w) → v ≡ w
    by (inl a) (inl b) i = sym (is-true v u a) ∙ is-true w u b
    by (inl a) (inr b) i = absurd (not_again u w vs once.0 b (ap (λ z. is_at z w) (is-true v u a) ∙ at))
    by (inr a) (inl b) i = absurd (not_again u v vs once.0 a (ap (λ z. is_at z v) (is-true w u b) ∙ at_turned v w at))
    by (inr a) (inr b) i = i a b

pub fewer_once : (p : Entry → Bool) (vs : List Entry) → OnceEach vs → OnceEach (filter p vs)
fewer_once p [] once = tt
fewer_once p (v ∷ vs) once = by (p v) (fewer_once p vs once.1)
  where
    by : (b : Bool) → OnceEach (filter p vs) → OnceEach (cond b (v ∷ filter p vs) (filter p vs))
    by true i = (false_from_ne_true _ (λ h. true≢false (sym (any_fewer (is_at v) p vs h) ∙ once.0)), i)
    by false i = i

-- ---- the newest

pub is_among : (test : Entry → Bool) (vs : List Entry) (w : Entry) → newest_of test vs ≡ Some w → list_any (is w) vs ≡ true
is_among test vs w e = newest_among test (is w) vs w e (is_itself w)

-- what is there and passes has at most the newest one's number
pub at_most_newest : (test : Entry → Bool) (vs : List Entry) (w : Entry) → list_any (is w) vs ≡ true → test w ≡ true → w.number < top (newest_of test vs)
at_most_newest test vs w h k =
    reaches test (is w) w.number vs (λ u e. let same = is-true w u e in let n = ap (λ (z : Entry). z.number) same in (ap test same ∙ k, omega arith)) h

-- Which version of a key is the newest doesn't hang on the order.
pub same_newest : (key : Bytes) (instant : ℕ) (vs ws : List Entry) → OnceEach ws → Same vs ws → newest key instant vs ≡ newest key instant ws
same_newest key instant vs ws once same = by (newest key instant vs) refl (newest key instant ws) refl
  where
    there : (w : Entry) → newest key instant ws ≡ Some w → w.number < top (newest key instant vs)
    there w f = at_most_newest (is_seen key instant) vs w (same (is w) ∙ is_among (is_seen key instant) ws w f) (newest_passes (is_seen key instant) ws w f)

    here : (v : Entry) → newest key instant vs ≡ Some v → v.number < top (newest key instant ws)
    here v e =
        at_most_newest (is_seen key instant) ws v (sym (same (is v)) ∙ is_among (is_seen key instant) vs v e) (newest_passes (is_seen key instant) vs v e)

    by : (a : Option Entry) → newest key instant vs ≡ a → (b : Option Entry) → newest key instant ws ≡ b → a ≡ b
    by None e None f = refl
    by None e (Some w) f = let m = there w f in let t = ap top e in absurd (omega arith)
    by (Some v) e None f = let m = here v e in let t = ap top f in absurd (omega arith)
    by (Some v) e (Some w) f =
        let m = there w f in
        let n = here v e in
        let t = ap top e in
        let u = ap top f in
        ap Some (one_alone ws v w once (sym (same (is v)) ∙ is_among (is_seen key instant) vs v e) (is_among (is_seen key instant) ws w f)
        (seen_at key instant v w (newest_passes (is_seen key instant) vs v e) (newest_passes (is_seen key instant) ws w f) (omega arith)))
