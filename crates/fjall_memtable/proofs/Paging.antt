-- What a page makes of versions in order, from the start: pairs in the order of their keys, each that of its key's newest version.
use Rattle.std.proofs.Common.{◌≡◌, ℕ, ◌<◌, ◌≤◌, Bool, true, false, cond, not, ltb, ◌||◌, ◌&&◌, List, [], ◌∷◌, ◌++◌, Option, Some, None, refl, sym, ap, subst, ◌∙◌, inl, inr, ◌⊎◌, arith}
use Rattle.std.specs.List.{AllByRecursion}
use Rattle.std.specs.Str.{bytes_eq}
use Rattle.std.specs.FinMap.Entries.{below_all}
use Rattle.std.specs.Prelude.{T}
use Rattle.std.specs.Ordering.{is_lt, is_eq, eq_by_cmp}
use Rattle.std.specs.FinMap.{find, is_sorted}
use Rattle.std.specs.declared.cmp.Ordering.{Ordering}
use Rattle.std.specs.declared.cmp.Ordering.TheVariants.{Less, Equal, Greater}
use Rattle.std.proofs.lemmas.Cmp.{nat_list_cmp_total, alike_right}
use Rattle.std.proofs.lemmas.Bool.{cases_lt, cases_Bool, cond-true, cond-false, and_parts, and_from, and_left, and_right, true≢false, lt-ltb, le-ltb, false_from_ne_true}
use Rattle.std.proofs.lemmas.List.Elements.{All-from_recursion}
use Rattle.std.proofs.lemmas.Map.Text.{is_eq-slice_cmp}
use Rattle.fjall_base.specs.Pairs.{Bytes, byte_order}
use Rattle.fjall_table.specs.Blocks.{Entry, IsBefore}
use Rattle.fjall_memtable.specs.Views.{newest, is_seen, later}
use Rattle.fjall_memtable.proofs.NewestSeen.{top, first_wins, newest_has}
use Rattle.fjall_memtable.proofs.Sameness.{same_key, keys_tie, key_turned}
use Rattle.fjall_memtable.specs.SortedPages.{is_settled, pair_in, pair_of, pairs_of}
use Rattle.fjall_memtable.proofs.SortedOrders.{equal_keys, before_parts}
use Rattle.fjall_memtable.proofs.SortedRanges.{older}
use Rattle.fjall_memtable.proofs.Sorting.{IsChain, all_weaker}

-- the value that a version gave, where all that is numbered below the bound is cleared
abbrev pub value_within : ℕ → Option Entry → Option Bytes
value_within bound None = None
value_within bound (Some v) = cond (ltb v.number bound) None v.value

-- keys compare as they are equal
finds : (k x : Bytes) (b : Bool) → bytes_eq k x ≡ b → eq_by_cmp byte_order k x ≡ b
finds k x b e = is_eq-slice_cmp k x ∙ e

-- what is behind a lesser key is behind it too
pub above_all : (key : Bytes) (v : Entry) (vs : List Entry) → byte_order key v.key ≡ Less → AllByRecursion (IsBefore v) vs → AllByRecursion (λ w. byte_order key w.key ≡ Less) vs
above_all key v vs h each = all_weaker (IsBefore v) (λ w. byte_order key w.key ≡ Less) vs (λ w b. elim (before_parts v w b) [
  | inl l ↦ nat_list_cmp_total.trans key v.key w.key h l
  | inr s ↦ sym (alike_right nat_list_cmp_total v.key w.key key s.0) ∙ h
]) each

-- What a version does to a page: it is passed over, or it settles its key.
abbrev pub IsStep : ℕ → ℕ → Option Bytes → Entry → List Entry → Type 0
IsStep instant bound settled v vs =
    (((is_settled settled v ≡ true) ⊎ (instant ≤ v.number)) × (pairs_of instant bound settled (v ∷ vs) ≡ pairs_of instant bound settled vs))
    ⊎ ((is_settled settled v ≡ false) × (v.number < instant) × (pairs_of instant bound settled (v ∷ vs) ≡ pair_of bound v ++ pairs_of instant bound (Some v.key) vs))

-- either of the two, by two tests
pub cases_page : (instant bound : ℕ) (settled : Option Bytes) (v : Entry) (vs : List Entry) → IsStep instant bound settled v vs
cases_page instant bound settled v vs = by (cases_Bool (is_settled settled v)) (cases_lt v.number instant)
  where
    either : (a b : Bool) → b ≡ true → (a || b) ≡ true
    either true b h = refl
    either false b h = h

    passed : (is_settled settled v || not (ltb v.number instant)) ≡ true → pairs_of instant bound settled (v ∷ vs) ≡ pairs_of instant bound settled vs
    passed e = cond-true (is_settled settled v || not (ltb v.number instant)) (pairs_of instant bound settled vs) (pair_of bound v ++ pairs_of instant bound (Some v.key) vs) e

    by : (is_settled settled v ≡ true) ⊎ (is_settled settled v ≡ false) → (v.number < instant) ⊎ (instant ≤ v.number)
        → IsStep instant bound settled v vs
    by (inl s) l = inl (inl s, passed (ap (λ b. b || not (ltb v.number instant)) s))
    by (inr s) (inr l) = inl (inr l, passed (either (is_settled settled v) (not (ltb v.number instant)) (ap not (le-ltb v.number instant l))))
    by (inr s) (inl l) = inr (s, l, cond-false (is_settled settled v || not (ltb v.number instant)) (pairs_of instant bound settled vs) (pair_of bound v ++ pairs_of instant bound (Some v.key) vs) (λ i. s i || not (lt-ltb v.number instant l i)))

-- a pair's key is that of its version
pub cases_pair : (bound : ℕ) (v : Entry) → ((pair_of bound v ≡ []) × (value_within bound (Some v) ≡ None)) ⊎ ((b : Bytes) × (pair_of bound v ≡ (v.key, b) ∷ []) × (value_within bound (Some v) ≡ Some b))
cases_pair bound v = by (ltb v.number bound) v.value
  where
    by : (c : Bool) (o : Option Bytes) → ((cond c [] (pair_in v.key o) ≡ []) × (cond c None o ≡ None)) ⊎ ((b : Bytes) × (cond c [] (pair_in v.key o) ≡ (v.key, b) ∷ []) × (cond c None o ≡ Some b))
    by true o = inl (refl, refl)
    by false None = inl (refl, refl)
    by false (Some b) = inr (b, refl, refl)

-- two tests that pass
both_T : (a b : Bool) → a ≡ true → T b → T (a && b)
both_T true b e h = h
both_T false b e h = absurd (true≢false (sym e))

-- a key below a version's is below its pair's
below_pair : (key : Bytes) (bound : ℕ) (v : Entry) (rest : List (Bytes × Bytes)) → byte_order key v.key ≡ Less → T (below_all byte_order key rest) → T (below_all byte_order key (pair_of bound v ++ rest))
below_pair key bound v rest h k = elim (cases_pair bound v) [
  | inl e ↦ subst (λ (ps : List (Bytes × Bytes)). T (below_all byte_order key (ps ++ rest))) (sym e.0) k
  | inr e ↦ subst (λ (ps : List (Bytes × Bytes)). T (below_all byte_order key (ps ++ rest))) (sym e.1) (both_T (is_lt (byte_order key v.key)) (below_all byte_order key rest) (ap is_lt h) k)
]

-- a key below those of the versions is below those of the pairs
below_above : (key : Bytes) (instant bound : ℕ) (settled : Option Bytes) (vs : List Entry) → AllByRecursion (λ w. byte_order key w.key ≡ Less) vs → T (below_all byte_order key (pairs_of instant bound settled vs))
below_above key instant bound settled [] each = tt
below_above key instant bound settled (v ∷ vs) each = elim (cases_page instant bound settled v vs) [
  | inl p ↦ subst (λ (ps : List (Bytes × Bytes)). T (below_all byte_order key ps)) (sym p.1) (below_above key instant bound settled vs each.1)
  | inr p ↦ subst (λ (ps : List (Bytes × Bytes)). T (below_all byte_order key ps)) (sym p.2) (below_pair key bound v (pairs_of instant bound (Some v.key) vs) each.0 (below_above key instant bound (Some v.key) vs each.1))
]

-- behind the version that settled a key come pairs of greater keys alone
below_settled : (instant bound : ℕ) (v : Entry) (vs : List Entry) → AllByRecursion (IsBefore v) vs → IsChain vs → T (below_all byte_order v.key (pairs_of instant bound (Some v.key) vs))
below_settled instant bound v [] each up = tt
below_settled instant bound v (w ∷ vs) each up = by (below_settled instant bound v vs each.1 up.1) (before_parts v w each.0)
  where
    by : T (below_all byte_order v.key (pairs_of instant bound (Some v.key) vs)) → (byte_order v.key w.key ≡ Less) ⊎ ((byte_order v.key w.key ≡ Equal) × (w.number < v.number)) → T (below_all byte_order v.key (pairs_of instant bound (Some v.key) (w ∷ vs)))
    by i (inl l) = below_above v.key instant bound (Some v.key) (w ∷ vs) (l, above_all v.key w vs l up.0)
    by i (inr s) =
        let same : bytes_eq w.key v.key ≡ true = keys_tie w.key v.key (sym (equal_keys v.key w.key s.0)) in
        subst (λ (ps : List (Bytes × Bytes)). T (below_all byte_order v.key ps)) (sym (cond-true (bytes_eq w.key v.key || not (ltb w.number instant)) (pairs_of instant bound (Some v.key) vs) (pair_of bound w ++ pairs_of instant bound (Some w.key) vs) (ap (λ b. b || not (ltb w.number instant)) same))) i

-- so the pairs are in the order of their keys
pub pairs_sorted : (instant bound : ℕ) (settled : Option Bytes) (vs : List Entry) → IsChain vs → T (is_sorted byte_order (pairs_of instant bound settled vs))
pairs_sorted instant bound settled [] up = tt
pairs_sorted instant bound settled (v ∷ vs) up = by (pairs_sorted instant bound settled vs up.1) (pairs_sorted instant bound (Some v.key) vs up.1) (cases_page instant bound settled v vs)
  where
    T_both : (a b : Bool) → T a → T b → T (a && b)
    T_both true b h k = k
    T_both false b h k = absurd h

    joined : T (is_sorted byte_order (pairs_of instant bound (Some v.key) vs)) → T (is_sorted byte_order (pair_of bound v ++ pairs_of instant bound (Some v.key) vs))
    joined i = elim (cases_pair bound v) [
      | inl e ↦ subst (λ (ps : List (Bytes × Bytes)). T (is_sorted byte_order (ps ++ pairs_of instant bound (Some v.key) vs))) (sym e.0) i
      | inr e ↦ subst (λ (ps : List (Bytes × Bytes)). T (is_sorted byte_order (ps ++ pairs_of instant bound (Some v.key) vs))) (sym e.1) (T_both (below_all byte_order v.key (pairs_of instant bound (Some v.key) vs)) (is_sorted byte_order (pairs_of instant bound (Some v.key) vs)) (below_settled instant bound v vs up.0 up.1) i)
    ]

    by : T (is_sorted byte_order (pairs_of instant bound settled vs)) → T (is_sorted byte_order (pairs_of instant bound (Some v.key) vs))
        → IsStep instant bound settled v vs
        → T (is_sorted byte_order (pairs_of instant bound settled (v ∷ vs)))
    by i j (inl p) = subst (λ (ps : List (Bytes × Bytes)). T (is_sorted byte_order ps)) (sym p.1) i
    by i j (inr p) = subst (λ (ps : List (Bytes × Bytes)). T (is_sorted byte_order ps)) (sym p.2) (joined j)

-- ---- what a key has

-- a key below all others isn't found
below_none : (key : Bytes) (ps : List (Bytes × Bytes)) → T (below_all byte_order key ps) → find byte_order key ps ≡ None
below_none key [] h = refl
below_none key (p ∷ ps) h = by (below_none key ps) (byte_order key p.0) h
  where
    by : (T (below_all byte_order key ps) → find byte_order key ps ≡ None) → (o : Ordering) → T (is_lt o && below_all byte_order key ps) → cond (is_eq o) (Some p.1) (find byte_order key ps) ≡ None
    by i Less k = i k
    by i Equal k = absurd k
    by i Greater k = absurd k

-- the first of a key in order is the newest
pub newest_head : (key : Bytes) (instant : ℕ) (v : Entry) (vs : List Entry) → AllByRecursion (IsBefore v) vs → is_seen key instant v ≡ true → newest key instant (v ∷ vs) ≡ Some v
newest_head key instant v vs each seen =
    ap (λ b. later (cond b (Some v) None) (newest key instant vs)) seen ∙ first_wins (Some v) (newest key instant vs) (below (newest key instant vs) refl)
  where
    below : (o : Option Entry) → newest key instant vs ≡ o → top (newest key instant vs) < top (Some v)
    below None f = let t = ap top f in omega arith
    below (Some w) f =
        let t = ap top f in
        let h = newest_has (is_seen key instant) (IsBefore v) vs w f (All-from_recursion (IsBefore v) vs each) in
        let k = same_key w.key key (and_parts (bytes_eq w.key key) (ltb w.number instant) h.1).0 in
        let m = same_key v.key key (and_parts (bytes_eq v.key key) (ltb v.number instant) seen).0 in
        let n = older v w h.0 (m ∙ sym k) in
        omega arith

-- The key isn't the one that is settled.
abbrev pub IsOpen : Bytes → Option Bytes → Type 0
IsOpen key None = Unit {0}
IsOpen key (Some other) = bytes_eq key other ≡ false

-- what is settled is of another key
not_settled : (key : Bytes) (settled : Option Bytes) (v : Entry) → IsOpen key settled → is_settled settled v ≡ true → bytes_eq v.key key ≡ false
not_settled key None v h e = absurd (true≢false (sym e))
not_settled key (Some d) v h e = false_from_ne_true (bytes_eq v.key key) (λ k. true≢false (sym (subst (λ (x : Bytes). bytes_eq x d ≡ true) (same_key v.key key k) e) ∙ h))

-- what isn't seen changes no newest one
unseen : (key : Bytes) (instant : ℕ) (v : Entry) (vs : List Entry) → is_seen key instant v ≡ false → newest key instant (v ∷ vs) ≡ newest key instant vs
unseen key instant v vs e = ap (λ b. later (cond b (Some v) None) (newest key instant vs)) e

-- a pair of another key is passed over
find_other : (key : Bytes) (bound : ℕ) (v : Entry) (rest : List (Bytes × Bytes)) → bytes_eq key v.key ≡ false → find byte_order key (pair_of bound v ++ rest) ≡ find byte_order key rest
find_other key bound v rest e = elim (cases_pair bound v) [
  | inl h ↦ ap (λ ps. find byte_order key (ps ++ rest)) h.0
  | inr h ↦ ap (λ ps. find byte_order key (ps ++ rest)) h.1 ∙ ap (λ b. cond b (Some h.0) (find byte_order key rest)) (finds key v.key false e)
]

-- the pair of a key is that of its newest version
pub find_pairs : (key : Bytes) (instant bound : ℕ) (settled : Option Bytes) (vs : List Entry) → IsChain vs → IsOpen key settled → find byte_order key (pairs_of instant bound settled vs) ≡ value_within bound (newest key instant vs)
find_pairs key instant bound settled [] up open_key = refl
find_pairs key instant bound settled (v ∷ vs) up open_key = by (find_pairs key instant bound settled vs up.1 open_key) (λ h. find_pairs key instant bound (Some v.key) vs up.1 h) (cases_page instant bound settled v vs) (cases_Bool (bytes_eq key v.key))
  where
    passed : (is_settled settled v ≡ true) ⊎ (instant ≤ v.number) → is_seen key instant v ≡ false
    passed (inl s) = and_left (bytes_eq v.key key) (ltb v.number instant) (not_settled key settled v open_key s)
    passed (inr l) = and_right (bytes_eq v.key key) (ltb v.number instant) (le-ltb v.number instant l)

    here : v.number < instant → bytes_eq key v.key ≡ true → find byte_order key (pair_of bound v ++ pairs_of instant bound (Some v.key) vs) ≡ value_within bound (newest key instant (v ∷ vs))
    here l k =
        let seen = and_from (bytes_eq v.key key) (ltb v.number instant) (key_turned key v.key true k) (lt-ltb v.number instant l) in
        found ∙ sym (ap (value_within bound) (newest_head key instant v vs up.0 seen))
      where
        found : find byte_order key (pair_of bound v ++ pairs_of instant bound (Some v.key) vs) ≡ value_within bound (Some v)
        found = elim (cases_pair bound v) [
          | inl h ↦ ap (λ ps. find byte_order key (ps ++ pairs_of instant bound (Some v.key) vs)) h.0 ∙ ap (λ (x : Bytes). find byte_order x (pairs_of instant bound (Some v.key) vs)) (same_key key v.key k) ∙ below_none v.key (pairs_of instant bound (Some v.key) vs) (below_settled instant bound v vs up.0 up.1) ∙ sym h.1
          | inr h ↦ ap (λ ps. find byte_order key (ps ++ pairs_of instant bound (Some v.key) vs)) h.1 ∙ ap (λ b. cond b (Some h.0) (find byte_order key (pairs_of instant bound (Some v.key) vs))) (finds key v.key true k) ∙ sym h.2
        ]

    by : find byte_order key (pairs_of instant bound settled vs) ≡ value_within bound (newest key instant vs) → (bytes_eq key v.key ≡ false → find byte_order key (pairs_of instant bound (Some v.key) vs) ≡ value_within bound (newest key instant vs))
        → IsStep instant bound settled v vs
        → (bytes_eq key v.key ≡ true) ⊎ (bytes_eq key v.key ≡ false) → find byte_order key (pairs_of instant bound settled (v ∷ vs)) ≡ value_within bound (newest key instant (v ∷ vs))
    by i j (inl p) k = ap (find byte_order key) p.1 ∙ i ∙ sym (ap (value_within bound) (unseen key instant v vs (passed p.0)))
    by i j (inr p) (inl k) = ap (find byte_order key) p.2 ∙ here p.1 k
    by i j (inr p) (inr k) = ap (find byte_order key) p.2 ∙ find_other key bound v (pairs_of instant bound (Some v.key) vs) k ∙ j k ∙ sym (ap (value_within bound) (unseen key instant v vs (and_left (bytes_eq v.key key) (ltb v.number instant) (key_turned key v.key false k))))
