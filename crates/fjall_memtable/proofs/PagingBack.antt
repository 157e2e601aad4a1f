-- What a page makes of versions in order, from behind: the same pairs in reversed order.
use Rattle.std.proofs.Common.{◌≡◌, ℕ, ◌<◌, ◌≤◌, Bool, true, false, cond, not, ltb, List, [], ◌∷◌, ◌++◌, reverse, Option, Some, None, refl, sym, ap, subst, ◌∙◌, inl, inr, ◌⊎◌, append_assoc}
use Rattle.std.specs.List.{AllByRecursion}
use Rattle.std.specs.Str.{bytes_eq}
use Rattle.std.specs.declared.cmp.Ordering.TheVariants.{Less}
use Rattle.std.proofs.lemmas.Bool.{cases_Bool, true≢false, false_from_ne_true, lt-ltb, le-ltb}
use Rattle.std.proofs.lemmas.List.{append-nil, reverse-append}
use Rattle.fjall_base.specs.Pairs.{Bytes, byte_order}
use Rattle.fjall_table.specs.Blocks.{Entry, IsBefore}
use Rattle.fjall_memtable.proofs.Sameness.{same_key, keys_tie, key_turned}
use Rattle.fjall_memtable.specs.SortedPages.{found_with, is_another, is_settled, pair_found, pair_in, pair_of, pairs_back, pairs_of}
use Rattle.fjall_memtable.proofs.SortedOrders.{equal_keys, before_parts, less_differs}
use Rattle.fjall_memtable.proofs.Paging.{above_all, cases_page, IsStep}
use Rattle.fjall_memtable.proofs.Sorting.{IsChain, all_weaker}

-- ---- from behind, said from the start

-- what is found, once one more version was looked at
abbrev pub found_after : ℕ → Option Entry → Entry → Option Entry
found_after instant found v = found_with instant (cond (is_another found v) None found) v

-- the pair that one more version makes of what was found
abbrev pub pair_after : ℕ → Option Entry → Entry → List (Bytes × Bytes)
pair_after bound found v = cond (is_another found v) (pair_found bound found) []

-- what is found once all were looked at from behind
abbrev pub found_last : ℕ → List Entry → Option Entry
found_last instant [] = None
found_last instant (v ∷ vs) = found_after instant (found_last instant vs) v

-- and the pairs that were made by then
abbrev pub pairs_made : ℕ → ℕ → List Entry → List (Bytes × Bytes)
pairs_made instant bound [] = []
pairs_made instant bound (v ∷ vs) = pairs_made instant bound vs ++ pair_after bound (found_last instant vs) v

-- one step
back_step : (instant bound : ℕ) (found : Option Entry) (v : Entry) (vs : List Entry)
    → pairs_back instant bound found (v ∷ vs) ≡ pair_after bound found v ++ pairs_back instant bound (found_after instant found v) vs
back_step instant bound found v vs = by (is_another found v)
  where
    by : (b : Bool) → cond b (pair_found bound found ++ pairs_back instant bound (found_with instant None v) vs) (pairs_back instant bound (found_with instant found v) vs)
        ≡ cond b (pair_found bound found) [] ++ pairs_back instant bound (found_with instant (cond b None found) v) vs
    by true = refl
    by false = refl

-- all steps
back_steps : (instant bound : ℕ) (vs rest : List Entry)
    → pairs_back instant bound None (reverse vs ++ rest) ≡ pairs_made instant bound vs ++ pairs_back instant bound (found_last instant vs) rest
back_steps instant bound [] rest = refl
back_steps instant bound (v ∷ vs) rest =
    ap (λ ws. pairs_back instant bound None (ws ++ rest)) (reverse-append (v ∷ []) vs)
    ∙ ap (pairs_back instant bound None) (append_assoc (reverse vs) (v ∷ []) rest)
    ∙ back_steps instant bound vs (v ∷ rest)
    ∙ ap (λ ps. pairs_made instant bound vs ++ ps) (back_step instant bound (found_last instant vs) v rest)
    ∙ sym (append_assoc (pairs_made instant bound vs) (pair_after bound (found_last instant vs) v) (pairs_back instant bound (found_last instant (v ∷ vs)) rest))

-- what all versions have, what is found has
found_has : (P : Entry → Type 0) (instant : ℕ) (vs : List Entry) (f : Entry) → found_last instant vs ≡ Some f → AllByRecursion P vs → P f
found_has P instant [] f e each = cc
found_has P instant (v ∷ vs) f e each = by (ltb v.number instant) (is_another (found_last instant vs) v) e (λ h. found_has P instant vs f h each.1)
  where
    by : (a b : Bool) → cond a (Some v) (cond b None (found_last instant vs)) ≡ Some f → (found_last instant vs ≡ Some f → P f) → P f
    by true b h more = let same : v ≡ f = cc in subst P same each.0
    by false true h more = cc
    by false false h more = more h

-- ---- what a settled key leaves

-- The key is settled before these versions: it is that of the first ones, or it is less.
abbrev pub IsUpToAll : Option Bytes → List Entry → Type 0
IsUpToAll None vs = Unit {0}
IsUpToAll (Some key) vs = AllByRecursion (λ v. (key ≡ v.key) ⊎ (byte_order key v.key ≡ Less)) vs

-- the pair of what was found, where its key isn't settled
abbrev pub pair_open : ℕ → Option Bytes → Option Entry → List (Bytes × Bytes)
pair_open bound settled None = []
pair_open bound settled (Some f) = cond (is_settled settled f) [] (pair_of bound f)

-- behind a version its key is settled before all others
behind_up : (v : Entry) (vs : List Entry) → AllByRecursion (IsBefore v) vs → IsUpToAll (Some v.key) vs
behind_up v vs each = all_weaker (IsBefore v) (λ w. (v.key ≡ w.key) ⊎ (byte_order v.key w.key ≡ Less)) vs (λ w h. elim (before_parts v w h) [
  | inl l ↦ inr l
  | inr s ↦ inl (equal_keys v.key w.key s.0)
]) each

-- the others are behind the settled key too
rest_up : (settled : Option Bytes) (v : Entry) (vs : List Entry) → IsUpToAll settled (v ∷ vs) → IsUpToAll settled vs
rest_up None v vs up = tt
rest_up (Some key) v vs up = up.1

-- where a version isn't of the settled key, none behind it is
stays_open : (instant : ℕ) (settled : Option Bytes) (v : Entry) (vs : List Entry) (f : Entry) → IsUpToAll settled (v ∷ vs) → AllByRecursion (IsBefore v) vs
    → is_settled settled v ≡ false → found_last instant vs ≡ Some f → is_settled settled f ≡ false
stays_open instant None v vs f up each open_here e = refl
stays_open instant (Some key) v vs f up each open_here e = elim up.0 [
  | inl same ↦ absurd (true≢false (sym (keys_tie v.key key (sym same)) ∙ open_here))
  | inr l ↦ less_differs key f.key (found_has (λ w. byte_order key w.key ≡ Less) instant vs f e (above_all key v vs l each))
]

-- ---- the pairs in reversed order

-- what tests of a version and of what was found say of their pairs
tests_say : (s t a b : Bool) (p q : List (Bytes × Bytes)) → (s ≡ true) ⊎ (a ≡ false) → (b ≡ true → t ≡ s) → (b ≡ false → t ≡ false)
    → cond t [] p ≡ cond (not b) p [] ++ cond a (cond s [] q) (cond (not b) [] (cond t [] p))
tests_say s t false true p q h same other = refl
tests_say s true false false p q h same other = absurd (true≢false (other refl))
tests_say s false false false p q h same other = sym (append-nil p)
tests_say true true true true p q h same other = refl
tests_say true false true true p q h same other = absurd (true≢false (sym (same refl)))
tests_say true true true false p q h same other = absurd (true≢false (other refl))
tests_say true false true false p q h same other = sym (append-nil p)
tests_say false t true b p q h same other = elim h [ inl e ↦ absurd (true≢false (sym e)) | inr e ↦ absurd (true≢false e) ]

-- the pair of what is found then
open_after : (bound : ℕ) (settled : Option Bytes) (v f : Entry) (a b : Bool)
    → pair_open bound settled (cond a (Some v) (cond (not b) None (Some f)))
    ≡ cond a (cond (is_settled settled v) [] (pair_of bound v)) (cond (not b) [] (cond (is_settled settled f) [] (pair_of bound f)))
open_after bound settled v f true b = refl
open_after bound settled v f false true = refl
open_after bound settled v f false false = refl

-- versions of one key are settled alike
settled_alike : (settled : Option Bytes) (v f : Entry) → bytes_eq v.key f.key ≡ true → is_settled settled f ≡ is_settled settled v
settled_alike None v f e = refl
settled_alike (Some key) v f e = ap (λ (x : Bytes). bytes_eq x key) (sym (same_key v.key f.key e))

-- behind a version of the settled key another key is not settled
settled_other : (settled : Option Bytes) (v f : Entry) → is_settled settled v ≡ true → bytes_eq v.key f.key ≡ false → is_settled settled f ≡ false
settled_other None v f s e = refl
settled_other (Some key) v f s e = false_from_ne_true (bytes_eq f.key key)
    (λ t. true≢false (sym (keys_tie v.key f.key (same_key v.key key s ∙ sym (same_key f.key key t))) ∙ e))

-- a version from the instant on isn't below it
late : (instant : ℕ) (settled : Option Bytes) (v : Entry) → (is_settled settled v ≡ true) ⊎ (instant ≤ v.number)
    → (is_settled settled v ≡ true) ⊎ (ltb v.number instant ≡ false)
late instant settled v (inl s) = inl s
late instant settled v (inr l) = inr (le-ltb v.number instant l)

-- a version that is passed over from the start changes nothing from behind
passed_back : (instant bound : ℕ) (settled : Option Bytes) (v : Entry) (found : Option Entry) → (is_settled settled v ≡ true) ⊎ (instant ≤ v.number)
    → ((f : Entry) → found ≡ Some f → is_settled settled v ≡ false → is_settled settled f ≡ false)
    → pair_open bound settled found ≡ pair_after bound found v ++ pair_open bound settled (found_after instant found v)
passed_back instant bound settled v None h stays = by (ltb v.number instant) (late instant settled v h)
  where
    by : (a : Bool) → (is_settled settled v ≡ true) ⊎ (a ≡ false) → ◌≡◌ {A = List (Bytes × Bytes)} [] (pair_open bound settled (cond a (Some v) None))
    by true (inl s) = sym (ap (λ b. cond b [] (pair_of bound v)) s)
    by true (inr l) = absurd (true≢false l)
    by false k = refl
passed_back instant bound settled v (Some f) h stays =
    tests_say (is_settled settled v) (is_settled settled f) (ltb v.number instant) (bytes_eq v.key f.key) (pair_of bound f) (pair_of bound v)
    (late instant settled v h) (settled_alike settled v f) (other (cases_Bool (is_settled settled v)))
    ∙ ap (λ ps. pair_after bound (Some f) v ++ ps) (sym (open_after bound settled v f (ltb v.number instant) (bytes_eq v.key f.key)))
  where
    other : (is_settled settled v ≡ true) ⊎ (is_settled settled v ≡ false) → bytes_eq v.key f.key ≡ false → is_settled settled f ≡ false
    other (inl s) e = settled_other settled v f s e
    other (inr s) e = stays f refl s

-- what was found is left open by a version's key where it is of another key
open_another : (bound : ℕ) (v : Entry) (found : Option Entry) → pair_open bound (Some v.key) found ≡ pair_after bound found v
open_another bound v None = refl
open_another bound v (Some f) = by (bytes_eq v.key f.key) (bytes_eq f.key v.key) (key_turned v.key f.key (bytes_eq v.key f.key) refl)
  where
    by : (a b : Bool) → b ≡ a → cond b [] (pair_of bound f) ≡ cond (not a) (pair_of bound f) []
    by true true e = refl
    by false false e = refl
    by true false e = absurd (true≢false (sym e))
    by false true e = absurd (true≢false e)

-- a version that settles its key is found
settles : (instant bound : ℕ) (settled : Option Bytes) (v : Entry) (found : Option Entry) → is_settled settled v ≡ false → v.number < instant
    → pair_open bound settled (found_after instant found v) ≡ pair_of bound v
settles instant bound settled v found s l =
    ap (λ b. pair_open bound settled (cond b (Some v) (cond (is_another found v) None found))) (lt-ltb v.number instant l)
    ∙ ap (λ b. cond b [] (pair_of bound v)) s

-- one pair at most is the same in reversed order
pair_turned : (bound : ℕ) (v : Entry) → reverse (pair_of bound v) ≡ pair_of bound v
pair_turned bound v = by (ltb v.number bound) v.value
  where
    by : (b : Bool) (o : Option Bytes) → reverse (cond b [] (pair_in v.key o)) ≡ cond b [] (pair_in v.key o)
    by true o = refl
    by false None = refl
    by false (Some value) = refl

-- the pairs from the start in reversed order are those from behind
turned : (instant bound : ℕ) (settled : Option Bytes) (vs : List Entry) → IsChain vs → IsUpToAll settled vs
    → reverse (pairs_of instant bound settled vs) ≡ pairs_made instant bound vs ++ pair_open bound settled (found_last instant vs)
turned instant bound settled [] chain up = refl
turned instant bound settled (v ∷ vs) chain up =
    by (cases_page instant bound settled v vs) (turned instant bound settled vs chain.1 (rest_up settled v vs up))
    (turned instant bound (Some v.key) vs chain.1 (behind_up v vs chain.0))
  where
    made : List (Bytes × Bytes)
    made = pairs_made instant bound vs

    found : Option Entry
    found = found_last instant vs

    by : IsStep instant bound settled v vs → reverse (pairs_of instant bound settled vs) ≡ made ++ pair_open bound settled found
        → reverse (pairs_of instant bound (Some v.key) vs) ≡ made ++ pair_open bound (Some v.key) found
        → reverse (pairs_of instant bound settled (v ∷ vs)) ≡ (made ++ pair_after bound found v) ++ pair_open bound settled (found_after instant found v)
    by (inl p) here more =
        ap reverse p.1 ∙ here
        ∙ ap (λ ps. made ++ ps) (passed_back instant bound settled v found p.0 (λ f e s. stays_open instant settled v vs f up chain.0 s e))
        ∙ sym (append_assoc made (pair_after bound found v) (pair_open bound settled (found_after instant found v)))
    by (inr p) here more =
        ap reverse p.2 ∙ reverse-append (pair_of bound v) (pairs_of instant bound (Some v.key) vs)
        ∙ (λ i. more i ++ pair_turned bound v i)
        ∙ (λ i. (made ++ open_another bound v found i) ++ sym (settles instant bound settled v found p.0 p.1) i)

-- A page from behind has the pairs of one from the start in reversed order.
pub backwards : (instant bound : ℕ) (vs : List Entry) → IsChain vs → pairs_back instant bound None (reverse vs) ≡ reverse (pairs_of instant bound None vs)
backwards instant bound vs chain =
    ap (pairs_back instant bound None) (sym (append-nil (reverse vs)))
    ∙ back_steps instant bound vs []
    ∙ ap (λ ps. pairs_made instant bound vs ++ ps) (last (found_last instant vs))
    ∙ sym (turned instant bound None vs chain tt)
  where
    last : (o : Option Entry) → pair_found bound o ≡ pair_open bound None o
    last None = refl
    last (Some f) = refl
