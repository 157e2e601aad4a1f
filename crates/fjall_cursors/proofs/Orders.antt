-- Versions in order, whatever order they came in.
use Rattle.std.proofs.Common.{◌≡◌, Bool, true, false, List, [], ◌∷◌, ◌++◌, map, reverse, refl, sym, ap, subst, ◌∙◌, inl, inr, append_assoc}
use Rattle.std.specs.List.{list_any}
use Rattle.std.specs.declared.cmp.Ordering.{Ordering}
use Rattle.std.specs.declared.cmp.Ordering.TheVariants.{Less, Equal, Greater}
use Rattle.std.proofs.lemmas.Bool.{cases_Bool, true≢false, or_parts, or_from, false_from_ne_true}
use Rattle.std.proofs.lemmas.List.{reverse-append}
use Rattle.std.proofs.lemmas.List.Folds.{list_any-append}
use Rattle.fjall_base.specs.Pairs.{KeyRange, is_within}
use Rattle.fjall_table.specs.Blocks.{Entry, IsBefore}
use Rattle.fjall_table.specs.Tables.{entries_within}
use Rattle.fjall_memtable.specs.Stamps.{Stamp, stamp_cmp}
use Rattle.fjall_memtable.specs.Entries.{stamp_of, inserted}
use Rattle.fjall_memtable.proofs.Orders.{same_stamp}
use Rattle.fjall_memtable.specs.Jobs.{OnceEach, is_at}
use Rattle.fjall_memtable.proofs.Sameness.{at_turned}
use Rattle.fjall_memtable.specs.Sorted.{flat, in_turn, sorted}
use Rattle.fjall_memtable.proofs.Sorting.{order, before_from, behind_from, before_trans, greater_from, less_from, tied}

-- ---- two that are put in

-- of two versions the later one may be put in first
swapped : (u v : Entry) → IsBefore u v → (vs : List Entry) → inserted u (inserted v vs) ≡ inserted v (inserted u vs)
swapped u v h [] = rw (less_from u v h, greater_from u v h) refl
swapped u v h (w ∷ vs) = by (order v w) refl (order u w) refl (swapped u v h vs)
  where
    by : (o : Ordering) → order v w ≡ o → (p : Ordering) → order u w ≡ p → inserted u (inserted v vs) ≡ inserted v (inserted u vs)
        → inserted u (inserted v (w ∷ vs)) ≡ inserted v (inserted u (w ∷ vs))
    by Less e p f more = let g = less_from u w (before_trans u v w h (before_from v w e)) in rw (e, less_from u v h, g, greater_from u v h, e) refl
    by Equal e p f more =
        let g = ap (λ (s : Stamp). stamp_cmp (stamp_of u) s) (sym (same_stamp (stamp_of v) (stamp_of w) e)) ∙ less_from u v h in
        rw (e, less_from u v h, g, greater_from u v h, e) refl
    by Greater e Less f more = rw (e, f, greater_from u v h, e) refl
    by Greater e Equal f more = rw (e, f, greater_from u v h) refl
    by Greater e Greater f more = rw (e, f, e) (ap (λ (ws : List Entry). w ∷ ws) more)

put_both : (u v : Entry) → is_at u v ≡ false → (vs : List Entry) → inserted u (inserted v vs) ≡ inserted v (inserted u vs)
put_both u v apart vs = by (order u v) refl
  where
    by : (o : Ordering) → order u v ≡ o → inserted u (inserted v vs) ≡ inserted v (inserted u vs)
    by Less e = swapped u v (before_from u v e) vs
    by Equal e = absurd (true≢false (sym (tied u v e) ∙ apart))
    by Greater e = sym (swapped v u (behind_from u v e) vs)

-- one that stands anywhere may be put in last
put_last : (before behind : List Entry) (v : Entry) → list_any (is_at v) before ≡ false → sorted (before ++ v ∷ behind) ≡ inserted v (sorted (before ++ behind))
put_last [] behind v apart = refl
put_last (u ∷ before) behind v apart =
    let p = or_parts (is_at v u) (list_any (is_at v) before) apart in
    let away = false_from_ne_true (is_at u v) (λ e. true≢false (sym (at_turned u v e) ∙ p.0)) in
    ap (inserted u) (put_last before behind v p.1) ∙ put_both u v away (sorted (before ++ behind))

-- ---- the same versions

-- The lists hold the same, each as often, in whatever order.
pub data IsShuffled : List Entry → List Entry → Type 0 where
  nothing : IsShuffled [] []
  one : (before behind others : List Entry) (v : Entry) → IsShuffled (before ++ behind) others → IsShuffled (before ++ v ∷ behind) (v ∷ others)

any_between : (test : Entry → Bool) (before behind : List Entry) (v : Entry) → list_any test (before ++ behind) ≡ false → test v ≡ false → list_any test (before ++ v ∷ behind) ≡ false
any_between test before behind v none here =
    let p = or_parts (list_any test before) (list_any test behind) (sym (list_any-append test before behind) ∙ none) in
    list_any-append test before (v ∷ behind) ∙ or_from (list_any test before) (list_any test (v ∷ behind)) p.0 (or_from (test v) (list_any test behind) here p.1)

none_shuffled : (test : Entry → Bool) (vs ws : List Entry) → IsShuffled vs ws → list_any test ws ≡ false → list_any test vs ≡ false
none_shuffled test _ _ nothing none = refl
none_shuffled test _ _ (one before behind others v is) none =
    let p = or_parts (test v) (list_any test others) none in
    any_between test before behind v (none_shuffled test (before ++ behind) others is p.1) p.0

-- one that has the key and number of none of these may be among them
once_with : (before behind : List Entry) (v : Entry) → OnceEach (before ++ behind) → list_any (is_at v) (before ++ behind) ≡ false → OnceEach (before ++ v ∷ behind)
once_with [] behind v once apart = (apart, once)
once_with (u ∷ before) behind v once apart =
    let p = or_parts (is_at v u) (list_any (is_at v) (before ++ behind)) apart in
    let away = false_from_ne_true (is_at u v) (λ e. true≢false (sym (at_turned u v e) ∙ p.0)) in
    (any_between (is_at u) before behind v once.0 away, once_with before behind v once.1 p.1)

pub once_shuffled : (vs ws : List Entry) → IsShuffled vs ws → OnceEach ws → OnceEach vs
once_shuffled _ _ nothing once = tt
once_shuffled _ _ (one before behind others v is) once =
    once_with before behind v (once_shuffled (before ++ behind) others is once.1) (none_shuffled (is_at v) (before ++ behind) others is once.0)

pub sorted_shuffled : (vs ws : List Entry) → IsShuffled vs ws → OnceEach ws → sorted vs ≡ sorted ws
sorted_shuffled _ _ nothing once = refl
sorted_shuffled _ _ (one before behind others v is) once =
    let apart = none_shuffled (is_at v) (before ++ behind) others is once.0 in
    let p = or_parts (list_any (is_at v) before) (list_any (is_at v) behind) (sym (list_any-append (is_at v) before behind) ∙ apart) in
    put_last before behind v p.0 ∙ ap (inserted v) (sorted_shuffled (before ++ behind) others is once.1)

-- ---- lists that are turned

shuffled_behind : (run zs ys : List Entry) → IsShuffled zs ys → IsShuffled (run ++ zs) (run ++ ys)
shuffled_behind [] zs ys is = is
shuffled_behind (v ∷ run) zs ys is = one [] (run ++ zs) (run ++ ys) v (shuffled_behind run zs ys is)

shuffled_turned : (run zs ys : List Entry) → IsShuffled zs ys → IsShuffled (reverse run ++ zs) (run ++ ys)
shuffled_turned [] zs ys is = is
shuffled_turned (v ∷ run) zs ys is =
    let e = ap (λ (vs : List Entry). vs ++ zs) (reverse-append (v ∷ []) run) ∙ append_assoc (reverse run) (v ∷ []) zs in
    subst (λ (vs : List Entry). IsShuffled vs (v ∷ (run ++ ys))) (sym e) (one (reverse run) zs (run ++ ys) v (shuffled_turned run zs ys is))

pub in_turn_shuffled : (back : Bool) (run zs ys : List Entry) → IsShuffled zs ys → IsShuffled (in_turn back run ++ zs) (run ++ ys)
in_turn_shuffled false run zs ys is = shuffled_behind run zs ys is
in_turn_shuffled true run zs ys is = shuffled_turned run zs ys is

-- runs as they are gone through hold the same as in order
pub flat_shuffled : (back : Bool) (runs : List (List Entry)) → IsShuffled (flat (map (in_turn back) runs)) (flat runs)
flat_shuffled back [] = nothing
flat_shuffled back (run ∷ runs) = in_turn_shuffled back run (flat (map (in_turn back) runs)) (flat runs) (flat_shuffled back runs)

-- ---- between bounds

none_within : (range : KeyRange) (test : Entry → Bool) (vs ws : List Entry) → list_any test (vs ++ ws) ≡ false → list_any test (entries_within range vs ++ ws) ≡ false
none_within range test [] ws none = none
none_within range test (v ∷ vs) ws none =
    let p = or_parts (test v) (list_any test (vs ++ ws)) none in
    let more = none_within range test vs ws p.1 in
    elim (cases_Bool (is_within range v.key)) [
      | inl t ↦ rw t (or_from (test v) (list_any test (entries_within range vs ++ ws)) p.0 more)
      | inr f ↦ rw f more
    ]

pub once_within : (range : KeyRange) (vs ws : List Entry) → OnceEach (vs ++ ws) → OnceEach (entries_within range vs ++ ws)
once_within range [] ws once = once
once_within range (v ∷ vs) ws once =
    let more = once_within range vs ws once.1 in
    elim (cases_Bool (is_within range v.key)) [
      | inl t ↦ rw t (none_within range (is_at v) vs ws once.0, more)
      | inr f ↦ rw f more
    ]
