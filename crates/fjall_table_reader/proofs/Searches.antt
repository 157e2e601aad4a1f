-- Binary searches in entries in order.
use Rattle.std.proofs.Common.{◌≡◌, ℕ, zero, suc, ◌+◌, ◌-◌, ◌<◌, ◌≤◌, Bool, true, false, not, ◌&&◌, nat_lt, max, List, [], ◌∷◌, length, take, drop, filter, slice_get, Option, Some, None, IfSome, refl, sym, ap, subst, ◌∙◌, arith, inl, inr}
use Rattle.std.specs.Str.{bytes_eq}
use Rattle.std.specs.Ordering.{is_lt, is_le, is_ne, ordering_reverse}
use Rattle.std.proofs.lemmas.Cmp.{nat_list_cmp_total, tied_itself}
use Rattle.std.specs.declared.cmp.Ordering.{Ordering}
use Rattle.std.specs.declared.cmp.Ordering.TheVariants.{Less, Equal, Greater}
use Rattle.std.specs.declared.ops.Bound.{Bound}
use Rattle.std.specs.declared.ops.Bound.TheVariants.{Included, Excluded, Unbounded}
use Rattle.std.specs.BTreeMap.Range.{is_from_start, is_past_end}
use Rattle.std.proofs.lemmas.Bool.{cases_Bool, le-leb}
use Rattle.std.proofs.lemmas.Slice.Eq.{bytes_eq-Decides}
use Rattle.fjall_base.specs.Pairs.{Bytes, KeyRange, byte_order, is_within}
use Rattle.fjall_base.proofs.Codecs.{just, some_is}
use Rattle.fjall_table.specs.Blocks.{Entry, IsOrdered}
use Rattle.fjall_table.specs.Tables.{entries_within, versions_at}
use Rattle.fjall_table.specs.TableReading.{is_ahead}
use Rattle.fjall_table.proofs.Lookups.{AllNot, Falls, ahead_of, below_too, count, counts, counts_not, fails, falls_ahead, falls_entries, filter_len, never_both, none_but, none_counted, not_greater, ordered_falls, same_key, up_to, wanted, wanted_is}
use Rattle.fjall_table.proofs.TableBlocks.{some_at}
use Rattle.fjall_table_reader.specs.Ahead.{before_start, stands_ahead, up_to_end}
use Rattle.fjall_table_reader.proofs.Fronted.{not_ne}

-- ---- a test that falls, at an index

none_got : {A : Type 0} (p : A → Bool) (xs : List A) (i : ℕ) (x : A) → AllNot p xs → slice_get xs i ≡ Some x → p x ≡ false
none_got p [] i x all e = absurd cc
none_got p (a ∷ xs) zero x all e = ap p (sym (some_is a x e)) ∙ all.0
none_got p (a ∷ xs) (suc i) x all e = none_got p xs i x all.1 e

-- more pass than stand before one that passes
pub passes_below : {A : Type 0} (p : A → Bool) (xs : List A) (i : ℕ) (x : A) → Falls p xs → slice_get xs i ≡ Some x → p x ≡ true → i + 1 ≤ length (filter p xs)
passes_below p [] i x f e t = absurd cc
passes_below p (a ∷ xs) zero x f e t = let z = counts p a xs (ap p (some_is a x e) ∙ t) in omega (arith, z)
passes_below p (a ∷ xs) (suc i) x f e t =
    elim (cases_Bool (p a)) [
      | inl pass ↦ let l = passes_below p xs i x f.1 e t in let z = counts p a xs pass in omega (arith, l, z)
      | inr miss ↦ absurd (never_both (p x) t (none_got p xs i x (f.0 miss) e))
    ]

-- no more pass than stand before one that doesn't
pub fails_from : {A : Type 0} (p : A → Bool) (xs : List A) (i : ℕ) (x : A) → Falls p xs → slice_get xs i ≡ Some x → p x ≡ false → length (filter p xs) ≤ i
fails_from p [] i x f e t = absurd cc
fails_from p (a ∷ xs) zero x f e t =
    let miss : p a ≡ false = ap p (some_is a x e) ∙ t in
    let z = counts_not p a xs miss in
    let w = none_counted p xs (f.0 miss) in
    omega (arith, z, w)
fails_from p (a ∷ xs) (suc i) x f e t =
    elim (cases_Bool (p a)) [
      | inl pass ↦ let l = fails_from p xs i x f.1 e t in let z = counts p a xs pass in omega (arith, l, z)
      | inr miss ↦ let z = counts_not p a xs miss in let w = none_counted p xs (f.0 miss) in omega (arith, z, w)
    ]

-- ---- what stands between two such places, also reversed ones

passes : {A : Type 0} (r : A → Bool) (x : A) (xs : List A) → r x ≡ true → filter r (x ∷ xs) ≡ x ∷ filter r xs
passes r x xs pass = rw pass refl

shift : {A : Type 0} (n m : ℕ) (x : A) (xs ys : List A) → take (m - n) (drop n xs) ≡ ys → take (suc m - suc n) (drop (suc n) (x ∷ xs)) ≡ ys
shift n m x xs ys e = let k : suc m - suc n ≡ m - n = omega arith in ap (λ (k : ℕ). take k (drop n xs)) k ∙ e

starts : {A : Type 0} (n m : ℕ) (x : A) (xs ys : List A) → n ≡ 0 → take (m - n) (drop n xs) ≡ ys → take (suc m - n) (drop n (x ∷ xs)) ≡ x ∷ ys
starts n m x xs ys z e =
    let k : suc m - n ≡ suc m = omega arith in
    let l : m - n ≡ m = omega arith in
    let f : take m xs ≡ ys = sym (ap (λ (k : ℕ). take k xs) l) ∙ sym (ap (λ (j : ℕ). take (m - n) (drop j xs)) z) ∙ e in
    ap (λ (j : ℕ). take (suc m - n) (drop j (x ∷ xs))) z ∙ ap (λ (k : ℕ). take k (x ∷ xs)) k ∙ ap (λ (v : List _). x ∷ v) f

is_over : {A : Type 0} (n m : ℕ) (xs : List A) → m ≡ 0 → take (m - n) xs ≡ []
is_over n m xs z = let k : m - n ≡ 0 = omega arith in ap (λ (k : ℕ). take k xs) k

pub between : {A : Type 0} (p q r : A → Bool) → ((x : A) → r x ≡ (q x && not (p x))) → (xs : List A) → Falls p xs → Falls q xs → take (count q xs - count p xs) (drop (count p xs) xs) ≡ filter r xs
between p q r is [] fp fq = refl
between p q r is (x ∷ xs) fp fq =
    let more = between p q r is xs fp.1 fq.1 in
    elim (cases_Bool (q x)) [
      | inr past ↦
          let miss : r x ≡ false = is x ∙ ap (λ (b : Bool). b && not (p x)) past in
          rw (counts_not q x xs past, fails r x xs miss) (is_over (count p (x ∷ xs)) (count q xs) (drop (count p (x ∷ xs)) (x ∷ xs)) (none_counted q xs (fq.0 past)) ∙ sym (none_but p q r is xs (fq.0 past)))
      | inl also ↦
          elim (cases_Bool (p x)) [
            | inl pass ↦
                let miss : r x ≡ false = is x ∙ ap (λ (b : Bool). q x && not b) pass ∙ ap (λ (b : Bool). b && false) also in
                rw (counts p x xs pass, counts q x xs also, fails r x xs miss) (shift (count p xs) (count q xs) x xs (filter r xs) more)
            | inr none ↦
                let pass : r x ≡ true = is x ∙ ap (λ (b : Bool). q x && not b) none ∙ ap (λ (b : Bool). b && true) also in
                rw (counts_not p x xs none, counts q x xs also, passes r x xs pass) (starts (count p xs) (count q xs) x xs (filter r xs) (none_counted p xs (fp.0 none)) more)
          ]
    ]

-- ---- entries that stand ahead

pub falls_below : (key : List ℕ) (es : List Entry) → IsOrdered es → Falls (λ x. is_lt (byte_order x.key key)) es
falls_below key es up = ordered_falls (λ x. is_lt (byte_order x.key key)) (λ a b h t. below_too a.key b.key key (not_greater (byte_order a.key b.key) a.number b.number h) t) es up

pub falls_so : (key : List ℕ) (instant : Option ℕ) (es : List Entry) → IsOrdered es → Falls (stands_ahead key instant) es
falls_so key (Some instant) es up = falls_ahead key instant es up
falls_so key None es up = falls_below key es up

-- ---- the newest version of a key

no_more : (key : List ℕ) (instant : ℕ) (x : Entry) (xs : List Entry) → Falls (up_to key) (x ∷ xs) → wanted key instant x ≡ false → ahead_of key instant x ≡ false → filter (wanted key instant) (x ∷ xs) ≡ []
no_more key instant x xs f miss none =
    let past : up_to key x ≡ false = elim (cases_Bool (up_to key x)) [
      | inr is_not ↦ is_not
      | inl is_so ↦ absurd (never_both (wanted key instant x) (wanted_is key instant x ∙ ap (λ (b : Bool). up_to key x && not b) none ∙ ap (λ (b : Bool). b && true) is_so) miss)
    ] in
    none_but (ahead_of key instant) (up_to key) (wanted key instant) (wanted_is key instant) (x ∷ xs) (past, f.0 past)

not_wanted : (key : List ℕ) (instant : ℕ) (x : Entry) → ahead_of key instant x ≡ true → wanted key instant x ≡ false
not_wanted key instant x is_so = wanted_is key instant x ∙ ap (λ (b : Bool). up_to key x && not b) is_so ∙ and_false (up_to key x)
  where
    and_false : (b : Bool) → (b && false) ≡ false
    and_false true = refl
    and_false false = refl

-- the first entry that doesn't stand ahead is the newest version, or there is none
pub newest_is : (key : List ℕ) (instant : ℕ) (es : List Entry) (e : Entry) → IsOrdered es → slice_get es (count (ahead_of key instant) es) ≡ Some e → wanted key instant e ≡ true → slice_get (versions_at key instant es) 0 ≡ Some e
newest_is key instant es e up here is_so = go es (falls_ahead key instant es up) here
  where
    go : (es : List Entry) → Falls (ahead_of key instant) es → slice_get es (count (ahead_of key instant) es) ≡ Some e → slice_get (filter (wanted key instant) es) 0 ≡ Some e
    go [] f here = absurd cc
    go (x ∷ xs) f here =
        elim (cases_Bool (ahead_of key instant x)) [
          | inl pass ↦
              ap (λ (v : List Entry). slice_get v 0) (fails (wanted key instant) x xs (not_wanted key instant x pass))
              ∙ go xs f.1 (ap (λ (n : ℕ). slice_get (x ∷ xs) n) (sym (counts (ahead_of key instant) x xs pass)) ∙ here)
          | inr none ↦
              let at : count (ahead_of key instant) (x ∷ xs) ≡ 0 = counts_not (ahead_of key instant) x xs none ∙ none_counted (ahead_of key instant) xs (f.0 none) in
              let same : x ≡ e = some_is x e (ap (λ (n : ℕ). slice_get (x ∷ xs) n) (sym at) ∙ here) in
              ap (λ (v : List Entry). slice_get v 0) (passes (wanted key instant) x xs (ap (wanted key instant) same ∙ is_so)) ∙ ap (λ (y : Entry). just y) same
        ]

pub newest_other : (key : List ℕ) (instant : ℕ) (es : List Entry) (e : Entry) → IsOrdered es → slice_get es (count (ahead_of key instant) es) ≡ Some e → wanted key instant e ≡ false → slice_get (versions_at key instant es) 0 ≡ None
newest_other key instant es e up here is_not = go es (falls_ahead key instant es up) (falls_entries key es up) here
  where
    go : (es : List Entry) → Falls (ahead_of key instant) es → Falls (up_to key) es → slice_get es (count (ahead_of key instant) es) ≡ Some e → slice_get (filter (wanted key instant) es) 0 ≡ None
    go [] f g here = absurd cc
    go (x ∷ xs) f g here =
        elim (cases_Bool (ahead_of key instant x)) [
          | inl pass ↦
              ap (λ (v : List Entry). slice_get v 0) (fails (wanted key instant) x xs (not_wanted key instant x pass))
              ∙ go xs f.1 g.1 (ap (λ (n : ℕ). slice_get (x ∷ xs) n) (sym (counts (ahead_of key instant) x xs pass)) ∙ here)
          | inr none ↦
              let at : count (ahead_of key instant) (x ∷ xs) ≡ 0 = counts_not (ahead_of key instant) x xs none ∙ none_counted (ahead_of key instant) xs (f.0 none) in
              let same : x ≡ e = some_is x e (ap (λ (n : ℕ). slice_get (x ∷ xs) n) (sym at) ∙ here) in
              ap (λ (v : List Entry). slice_get v 0) (no_more key instant x xs g (ap (wanted key instant) same ∙ is_not) none)
        ]

pub newest_none : (key : List ℕ) (instant : ℕ) (es : List Entry) → length es ≤ count (ahead_of key instant) es → slice_get (versions_at key instant es) 0 ≡ None
newest_none key instant [] le = refl
newest_none key instant (x ∷ xs) le =
    elim (cases_Bool (ahead_of key instant x)) [
      | inl pass ↦
          ap (λ (v : List Entry). slice_get v 0) (fails (wanted key instant) x xs (not_wanted key instant x pass))
          ∙ newest_none key instant xs (let z = counts (ahead_of key instant) x xs pass in omega (arith, z))
      | inr none ↦ absurd (let z = counts_not (ahead_of key instant) x xs none in let w = filter_len (ahead_of key instant) xs in omega (arith, z, w))
    ]

-- ---- the entries between two bounds

not_le : (o p : Ordering) → o ≡ ordering_reverse p → not (is_le o) ≡ is_lt p
not_le o p e = ap (λ (q : Ordering). not (is_le q)) e ∙ by p
  where
    by : (p : Ordering) → not (is_le (ordering_reverse p)) ≡ is_lt p
    by Less = refl
    by Equal = refl
    by Greater = refl

not_lt : (o p : Ordering) → o ≡ ordering_reverse p → not (is_lt o) ≡ is_le p
not_lt o p e = ap (λ (q : Ordering). not (is_lt q)) e ∙ by p
  where
    by : (p : Ordering) → not (is_lt (ordering_reverse p)) ≡ is_le p
    by Less = refl
    by Equal = refl
    by Greater = refl

le_back : (a b : Bytes) → not (is_le (byte_order a b)) ≡ is_lt (byte_order b a)
le_back a b = not_le (byte_order a b) (byte_order b a) (nat_list_cmp_total.antisymm a b)

lt_back : (a b : Bytes) → not (is_lt (byte_order a b)) ≡ is_le (byte_order b a)
lt_back a b = not_lt (byte_order a b) (byte_order b a) (nat_list_cmp_total.antisymm a b)

from_nought : (o : Ordering) (n : ℕ) → is_ahead o n 0 ≡ is_le o
from_nought Less n = refl
from_nought Equal n = le-leb 0 n (omega arith)
from_nought Greater n = refl

-- two tests that answer alike
alike : {A : Type 0} (p q : A → Bool) → ((x : A) → p x ≡ q x) → (xs : List A) → count p xs ≡ count q xs
alike p q same [] = refl
alike p q same (x ∷ xs) =
    let l = alike p q same xs in
    elim (cases_Bool (p x)) [
      | inl t ↦ counts p x xs t ∙ ap suc l ∙ sym (counts q x xs (sym (same x) ∙ t))
      | inr f ↦ counts_not p x xs f ∙ l ∙ sym (counts_not q x xs (sym (same x) ∙ f))
    ]

all_not_alike : {A : Type 0} (p q : A → Bool) → ((x : A) → p x ≡ q x) → (xs : List A) → AllNot p xs → AllNot q xs
all_not_alike p q same [] h = tt
all_not_alike p q same (x ∷ xs) h = (sym (same x) ∙ h.0, all_not_alike p q same xs h.1)

falls_alike : {A : Type 0} (p q : A → Bool) → ((x : A) → p x ≡ q x) → (xs : List A) → Falls p xs → Falls q xs
falls_alike p q same [] f = tt
falls_alike p q same (x ∷ xs) f = (λ miss. all_not_alike p q same xs (f.0 (same x ∙ miss)), falls_alike p q same xs f.1)

none_before : (es : List Entry) → count (before_start Unbounded) es ≡ 0
none_before [] = refl
none_before (e ∷ es) = none_before es

all_up_to : (es : List Entry) → count (up_to_end Unbounded) es ≡ length es
all_up_to [] = refl
all_up_to (e ∷ es) = ap suc (all_up_to es)

-- how many stand before a start, as a search counts them
pub before_included : (key : Bytes) (es : List Entry) → count (stands_ahead key None) es ≡ count (before_start (Included key)) es
before_included key es = alike (stands_ahead key None) (before_start (Included key)) (λ e. sym (le_back key e.key)) es

pub before_excluded : (key : Bytes) (es : List Entry) → count (stands_ahead key (Some 0)) es ≡ count (before_start (Excluded key)) es
before_excluded key es = alike (stands_ahead key (Some 0)) (before_start (Excluded key)) (λ e. from_nought (byte_order e.key key) e.number ∙ sym (lt_back key e.key)) es

pub before_none : (es : List Entry) → 0 ≡ count (before_start Unbounded) es
before_none es = sym (none_before es)

-- and up to an end
pub up_to_included : (key : Bytes) (es : List Entry) → count (stands_ahead key (Some 0)) es ≡ count (up_to_end (Included key)) es
up_to_included key es = alike (stands_ahead key (Some 0)) (up_to_end (Included key)) (λ e. from_nought (byte_order e.key key) e.number ∙ sym (lt_back key e.key)) es

pub up_to_excluded : (key : Bytes) (es : List Entry) → count (stands_ahead key None) es ≡ count (up_to_end (Excluded key)) es
up_to_excluded key es = alike (stands_ahead key None) (up_to_end (Excluded key)) (λ e. sym (le_back key e.key)) es

pub up_to_none : (es : List Entry) → length es ≡ count (up_to_end Unbounded) es
up_to_none es = sym (all_up_to es)

falls_start : (start : Bound Bytes) (es : List Entry) → IsOrdered es → Falls (before_start start) es
falls_start (Included key) es up = falls_alike (λ x. is_lt (byte_order x.key key)) (before_start (Included key)) (λ e. sym (le_back key e.key)) es (falls_below key es up)
falls_start (Excluded key) es up = falls_alike (up_to key) (before_start (Excluded key)) (λ e. sym (lt_back key e.key)) es (falls_entries key es up)
falls_start Unbounded es up = falls_never es
  where
    none : (es : List Entry) → AllNot (before_start Unbounded) es
    none [] = tt
    none (e ∷ es) = (refl, none es)

    falls_never : (es : List Entry) → Falls (before_start Unbounded) es
    falls_never [] = tt
    falls_never (e ∷ es) = (λ miss. none es, falls_never es)

falls_end : (end : Bound Bytes) (es : List Entry) → IsOrdered es → Falls (up_to_end end) es
falls_end (Included key) es up = falls_alike (up_to key) (up_to_end (Included key)) (λ e. sym (lt_back key e.key)) es (falls_entries key es up)
falls_end (Excluded key) es up = falls_alike (λ x. is_lt (byte_order x.key key)) (up_to_end (Excluded key)) (λ e. sym (le_back key e.key)) es (falls_below key es up)
falls_end Unbounded es up = falls_always es
  where
    falls_always : (es : List Entry) → Falls (up_to_end Unbounded) es
    falls_always [] = tt
    falls_always (e ∷ es) = (λ miss. absurd cc, falls_always es)

within_is : (range : KeyRange) (e : Entry) → is_within range e.key ≡ (up_to_end range.1 e && not (before_start range.0 e))
within_is range e = by (is_from_start byte_order range.0 e.key) (not (is_past_end byte_order range.1 e.key))
  where
    by : (b c : Bool) → (b && c) ≡ (c && not (not b))
    by true true = refl
    by true false = refl
    by false true = refl
    by false false = refl

-- what stands from the start up to the end lies between the bounds
pub within_found : (range : KeyRange) (es : List Entry) (start end : ℕ) → IsOrdered es → start ≡ count (before_start range.0) es → end ≡ count (up_to_end range.1) es → take (max end start - start) (drop start es) ≡ entries_within range es
within_found range es start end up s e =
    let k : max end start - start ≡ end - start = omega arith in
    ap (λ (n : ℕ). take n (drop start es)) k
    ∙ ap (λ (n : ℕ). take (end - n) (drop n es)) s
    ∙ ap (λ (m : ℕ). take (m - count (before_start range.0) es) (drop (count (before_start range.0) es) es)) e
    ∙ between (before_start range.0) (up_to_end range.1) (λ e. is_within range e.key) (within_is range) es (falls_start range.0 es up) (falls_end range.1 es up)

-- ---- a binary search

-- what is looked for lies between two places
pub record Searching (wanted len low high : ℕ) : Type 0 where
  pub above : low ≤ wanted
  pub below : wanted ≤ high
  pub within : high ≤ len

got_is : (es : List Entry) (i : ℕ) (p : Entry → Bool) (r : Bool) → i < length es → IfSome (slice_get es i) (λ e. r ≡ p e) → (e : Entry) × (slice_get es i ≡ Some e) × (r ≡ p e)
got_is es i p r lt is = let g = some_at es i lt in (g.0, g.1, subst (λ (o : Option Entry). IfSome o (λ e. r ≡ p e)) g.1 is)

pub search_up : (key : List ℕ) (instant : Option ℕ) (es : List Entry) (low high middle : ℕ) (r : Bool) → IsOrdered es → Searching (count (stands_ahead key instant) es) (length es) low high → middle < length es → IfSome (slice_get es middle) (λ e. r ≡ stands_ahead key instant e) → r ≡ true → Searching (count (stands_ahead key instant) es) (length es) (middle + 1) high
search_up key instant es low high middle r up s lt is t =
    let g = got_is es middle (stands_ahead key instant) r lt is in
    record { above = passes_below (stands_ahead key instant) es middle g.0 (falls_so key instant es up) g.1 (sym g.2 ∙ t); below = s.below; within = s.within }

pub search_down : (key : List ℕ) (instant : Option ℕ) (es : List Entry) (low high middle : ℕ) (r : Bool) → IsOrdered es → Searching (count (stands_ahead key instant) es) (length es) low high → middle < length es → IfSome (slice_get es middle) (λ e. r ≡ stands_ahead key instant e) → r ≡ false → Searching (count (stands_ahead key instant) es) (length es) low middle
search_down key instant es low high middle r up s lt is f =
    let g = got_is es middle (stands_ahead key instant) r lt is in
    record { above = s.above; below = fails_from (stands_ahead key instant) es middle g.0 (falls_so key instant es up) g.1 (sym g.2 ∙ f); within = omega arith }

-- ---- the entry at which a search for the newest version ends

at_end : (key : List ℕ) (instant : ℕ) (es : List Entry) (e : Entry) (at : ℕ) → at ≡ count (stands_ahead key (Some instant)) es → slice_get es at ≡ Some e → slice_get es (count (ahead_of key instant) es) ≡ Some e
at_end key instant es e at is here = ap (λ (n : ℕ). slice_get es n) (sym is) ∙ here

other_key : (key : List ℕ) (instant : ℕ) (e : Entry) → (e.key ≡ key → ⊥) → wanted key instant e ≡ false
other_key key instant e other = elim (cases_Bool (bytes_eq e.key key)) [
  | inl t ↦ absurd (other ((bytes_eq-Decides e.key key).0 t))
  | inr f ↦ ap (λ (b : Bool). b && nat_lt e.number instant) f
]

this_key : (key : List ℕ) (instant : ℕ) (e : Entry) → e.key ≡ key → ahead_of key instant e ≡ false → wanted key instant e ≡ true
this_key key instant e same none =
    let up : up_to key e ≡ true = ap (λ (k : List ℕ). is_le (byte_order k key)) same ∙ ap is_le (tied_itself nat_list_cmp_total key) in
    wanted_is key instant e ∙ ap (λ (b : Bool). up_to key e && not b) none ∙ ap (λ (b : Bool). b && true) up

-- the entry where the test ends doesn't pass it
ends_there : (key : List ℕ) (instant : ℕ) (es : List Entry) (e : Entry) → IsOrdered es → slice_get es (count (ahead_of key instant) es) ≡ Some e → ahead_of key instant e ≡ false
ends_there key instant es e up here = elim (cases_Bool (ahead_of key instant e)) [
  | inr f ↦ f
  | inl t ↦ absurd (let l = passes_below (ahead_of key instant) es (count (ahead_of key instant) es) e (falls_ahead key instant es up) here t in omega arith)
]

pub newest_here : (key : List ℕ) (instant : ℕ) (es : List Entry) (e : Entry) (at : ℕ) → IsOrdered es → at ≡ count (stands_ahead key (Some instant)) es → slice_get es at ≡ Some e → e.key ≡ key → slice_get (versions_at key instant es) 0 ≡ Some e
newest_here key instant es e at up is here same =
    let there = at_end key instant es e at is here in
    newest_is key instant es e up there (this_key key instant e same (ends_there key instant es e up there))

pub newest_not : (key : List ℕ) (instant : ℕ) (es : List Entry) (e : Entry) (at : ℕ) → IsOrdered es → at ≡ count (stands_ahead key (Some instant)) es → slice_get es at ≡ Some e → (e.key ≡ key → ⊥) → slice_get (versions_at key instant es) 0 ≡ None
newest_not key instant es e at up is here other = newest_other key instant es e up (at_end key instant es e at is here) (other_key key instant e other)

-- the same by how its key compares with the other
pub newest_alike : (key : List ℕ) (instant : ℕ) (es : List Entry) (at : ℕ) (o : Ordering) → IsOrdered es → at ≡ count (stands_ahead key (Some instant)) es → at < length es → IfSome (slice_get es at) (λ e. o ≡ byte_order e.key key) → is_ne o ≡ false → slice_get (versions_at key instant es) 0 ≡ slice_get es at
newest_alike key instant es at o up is lt compared alike =
    let g = some_at es at lt in
    let told = subst (λ (v : Option Entry). IfSome v (λ e. o ≡ byte_order e.key key)) g.1 compared in
    newest_here key instant es g.0 at up is g.1 (same_key g.0.key key (sym told ∙ not_ne o alike)) ∙ sym g.1

pub newest_unlike : (key : List ℕ) (instant : ℕ) (es : List Entry) (at : ℕ) (o : Ordering) → IsOrdered es → at ≡ count (stands_ahead key (Some instant)) es → at < length es → IfSome (slice_get es at) (λ e. o ≡ byte_order e.key key) → is_ne o ≡ true → slice_get (versions_at key instant es) 0 ≡ None
newest_unlike key instant es at o up is lt compared unlike =
    let g = some_at es at lt in
    let told = subst (λ (v : Option Entry). IfSome v (λ e. o ≡ byte_order e.key key)) g.1 compared in
    newest_not key instant es g.0 at up is g.1 (λ same. absurd (cc (sym unlike ∙ ap is_ne (told ∙ ap (λ (k : List ℕ). byte_order k key) same ∙ tied_itself nat_list_cmp_total key))))
