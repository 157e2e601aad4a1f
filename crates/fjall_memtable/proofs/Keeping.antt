-- What a job keeps, version after version, is what its input doesn't hide.
use Rattle.std.proofs.Common.{◌≡◌, ℕ, ◌+◌, ◌<◌, Bool, true, false, cond, not, ltb, leb, ◌||◌, ◌&&◌, List, [], ◌∷◌, ◌++◌, Option, Some, None, refl, sym, ap, subst, ◌∙◌, inl, inr, ◌⊎◌, arith, append_assoc}
use Rattle.std.specs.List.{AllByRecursion, filter, list_any}
use Rattle.std.specs.Str.{bytes_eq}
use Rattle.std.proofs.Math.Bool.{and-true, or-false}
use Rattle.std.proofs.lemmas.Bool.{cases_Bool, and_parts, and_from, and_left, and_right, ltb-true, lt-ltb, le-ltb, leb-true, le-leb, or_from, false_from_ne_true}
use Rattle.std.proofs.lemmas.Bool.Decides.{nat_tests}
use Rattle.std.proofs.lemmas.Cmp.{nat_list_cmp_total}
use Rattle.std.proofs.lemmas.List.Folds.{list_any-append}
use Rattle.fjall_base.specs.Lists.{last_of}
use Rattle.fjall_table.specs.Blocks.{Entry, IsBefore, IsOrdered}
use Rattle.fjall_memtable.specs.Jobs.{is_hidden, is_later, is_old_removal, is_spent, flushed, merged, OnceEach, Same}
use Rattle.fjall_memtable.proofs.Sameness.{same_key, keys_tie}
use Rattle.fjall_memtable.proofs.Tests.{filters_same, same_filters}
use Rattle.fjall_memtable.specs.Kept.{is_behind, is_followed, is_kept, kept_of}
use Rattle.fjall_memtable.specs.SortedPages.{barrier}
use Rattle.fjall_memtable.specs.Sorted.{sorted}
use Rattle.fjall_memtable.proofs.Barriers.{barrier_stands}
use Rattle.fjall_memtable.proofs.SortedOrders.{equal_keys, not_less, before_parts, filter_chain}
use Rattle.fjall_memtable.proofs.SortedRanges.{older}
use Rattle.fjall_memtable.proofs.Sorting.{IsChain, ordered_of, sorted_chain, sorted_same}

-- ---- the one before hides what any hides

-- a later version of the first one's key whose number passes the test
abbrev pub hides : (ℕ → Bool) → Entry → Entry → Bool
hides test v w = is_later v w && test w.number

-- the version before is of the same key, and its number passes the test
abbrev pub followed : (ℕ → Bool) → Option Entry → Entry → Bool
followed test None v = false
followed test (Some w) v = bytes_eq w.key v.key && test w.number

-- Where a number passes the test, lesser ones pass.
abbrev pub Falls : (ℕ → Bool) → Type 0
Falls test = (n m : ℕ) → n < m → test m ≡ true → test n ≡ true

-- what all have one in the middle has
at_there : (P : Entry → Type 0) (xs ys : List Entry) (v : Entry) → AllByRecursion P (xs ++ (v ∷ ys)) → P v
at_there P [] ys v h = h.0
at_there P (x ∷ xs) ys v h = at_there P xs ys v h.1

-- of one key the version before has the greater number
later_number : (p v : Entry) → IsBefore p v → bytes_eq p.key v.key ≡ true → v.number < p.number
later_number p v h k = older p v h (same_key p.key v.key k)

-- a version before another is the later one where it is of its key
one_later : (p v : Entry) → IsBefore p v → is_later v p ≡ bytes_eq p.key v.key
one_later p v h = by (bytes_eq p.key v.key) refl
  where
    by : (b : Bool) → bytes_eq p.key v.key ≡ b → (b && ltb v.number p.number) ≡ b
    by true e = lt-ltb v.number p.number (later_number p v h e)
    by false e = refl

-- so it hides that one where its number passes
one_hides : (test : ℕ → Bool) (p v : Entry) → IsBefore p v → hides test v p ≡ (bytes_eq p.key v.key && test p.number)
one_hides test p v h = ap (λ b. b && test p.number) (one_later p v h)

-- what lies between two versions of a key is of that key
between : (p q v : Entry) → IsBefore p q → IsBefore q v → bytes_eq p.key v.key ≡ true → bytes_eq q.key v.key ≡ true
between p q v h k e = elim (before_parts p q h) [
  | inl l ↦ elim (before_parts q v k) [
    | inl m ↦ absurd (not_less p.key v.key (same_key p.key v.key e) (nat_list_cmp_total.trans p.key q.key v.key l m))
    | inr s ↦ keys_tie q.key v.key (equal_keys q.key v.key s.0)
  ]
  | inr s ↦ subst (λ (x : List ℕ). bytes_eq x v.key ≡ true) (equal_keys p.key q.key s.0) e
]

-- among those that stand before it one hides it exactly where the last does
front_hides : (test : ℕ → Bool) → Falls test → (front vs : List Entry) (v : Entry) → IsChain (front ++ (v ∷ vs)) → list_any (hides test v) front ≡ followed test (last_of front) v
front_hides test falls [] vs v up = refl
front_hides test falls (p ∷ []) vs v up = or-false (hides test v p) ∙ one_hides test p v up.0.0
front_hides test falls (p ∷ q ∷ front) vs v up = by (front_hides test falls (q ∷ front) vs v up.1) (cases_Bool (hides test v p))
  where
    by : list_any (hides test v) (q ∷ front) ≡ followed test (last_of (q ∷ front)) v → (hides test v p ≡ true) ⊎ (hides test v p ≡ false)
        → list_any (hides test v) (p ∷ q ∷ front) ≡ followed test (last_of (q ∷ front)) v
    by i (inr e) = ap (λ b. b || list_any (hides test v) (q ∷ front)) e ∙ i
    by i (inl e) =
        let a = and_parts (is_later v p) (test p.number) e in
        let same = (and_parts (bytes_eq p.key v.key) (ltb v.number p.number) a.0).0 in
        let pq = up.0.0 in
        let qv = at_there (IsBefore q) front vs v up.1.0 in
        let k = between p q v pq qv same in
        let m = later_number p q pq (subst (λ (x : List ℕ). bytes_eq p.key x ≡ true) (sym (same_key q.key v.key k)) same) in
        let here : hides test v q ≡ true = and_from (is_later v q) (test q.number) (one_later q v qv ∙ k) (falls q.number p.number m a.1) in
        ap (λ x. x || list_any (hides test v) (q ∷ front)) e ∙ sym (ap (λ x. x || list_any (hides test v) front) here) ∙ i

-- none that stands behind it hides it
behind_hides : (test : ℕ → Bool) (v : Entry) (vs : List Entry) → AllByRecursion (IsBefore v) vs → list_any (hides test v) vs ≡ false
behind_hides test v [] each = refl
behind_hides test v (w ∷ vs) each =
    or_from (hides test v w) (list_any (hides test v) vs) (false_from_ne_true (hides test v w) (λ e. no e)) (behind_hides test v vs each.1)
  where
    no : hides test v w ≡ true → ⊥
    no e =
        let a = and_parts (bytes_eq w.key v.key) (ltb v.number w.number) (and_parts (is_later v w) (test w.number) e).0 in
        let l = ltb-true v.number w.number a.1 in
        let n = older v w each.0 (sym (same_key w.key v.key a.0)) in
        absurd (omega arith)

-- none hides itself
itself_hides : (test : ℕ → Bool) (v : Entry) → hides test v v ≡ false
itself_hides test v =
    and_left (is_later v v) (test v.number) (and_right (bytes_eq v.key v.key) (ltb v.number v.number) (le-ltb v.number v.number (omega arith)))

-- what stands behind others in order is in order
chain_behind : (front vs : List Entry) → IsChain (front ++ vs) → IsChain vs
chain_behind [] vs up = up
chain_behind (p ∷ front) vs up = chain_behind front vs up.1

-- in order a later version hides one exactly where the one before it does
all_hide : (test : ℕ → Bool) → Falls test → (front vs : List Entry) (v : Entry) → IsChain (front ++ (v ∷ vs)) → list_any (hides test v) (front ++ (v ∷ vs)) ≡ followed test (last_of front) v
all_hide test falls front vs v up =
    list_any-append (hides test v) front (v ∷ vs)
    ∙ (λ i. front_hides test falls front vs v up i || (itself_hides test v i || behind_hides test v vs (chain_behind front (v ∷ vs) up).0 i))
    ∙ or-false (followed test (last_of front) v)

-- ---- what is hidden and spent

-- whether the watermark reaches a number
abbrev pub reached : ℕ → ℕ → Bool
reached watermark n = leb n watermark

-- where the watermark reaches a number, it reaches lesser ones
reached_falls : (watermark : ℕ) → Falls (reached watermark)
reached_falls watermark n m h e = let l = leb-true m watermark e in le-leb n watermark (omega arith)

-- the version before is reached where the job says so
followed_is : (watermark : ℕ) (o : Option Entry) (v : Entry) → followed (reached watermark) o v ≡ is_followed watermark o v
followed_is watermark None v = refl
followed_is watermark (Some w) v = refl

-- a version has a later one exactly where the one before it is of its key
all_later : (front vs : List Entry) (v : Entry) → IsChain (front ++ (v ∷ vs)) → list_any (is_later v) (front ++ (v ∷ vs)) ≡ is_behind (last_of front) v
all_later front vs v up =
    (λ i. list_any (λ w. sym (and-true (is_later v w)) i) (front ++ (v ∷ vs))) ∙ all_hide (λ n. true) (λ n m h e. refl) front vs v up ∙ plain (last_of front)
  where
    plain : (o : Option Entry) → followed (λ n. true) o v ≡ is_behind o v
    plain None = refl
    plain (Some w) = and-true (bytes_eq w.key v.key)

-- what a job keeps of its input, by the input alone
abbrev pub remains : Bool → ℕ → ℕ → List Entry → Entry → Bool
remains spends watermark bound versions v =
    not (ltb v.number bound || list_any (hides (reached watermark) v) versions) && not (spends && is_spent watermark versions v)

-- one more version is the last one
last_more : (front : List Entry) (v : Entry) → last_of (front ++ (v ∷ [])) ≡ Some v
last_more [] v = refl
last_more (p ∷ []) v = refl
last_more (p ∷ q ∷ front) v = last_more (q ∷ front) v

-- what is kept, version after version, is what all of them don't hide
kept_filter : (spends : Bool) (watermark bound : ℕ) (all front vs : List Entry) → all ≡ front ++ vs → IsChain all
    → kept_of spends watermark bound (last_of front) vs ≡ filter (remains spends watermark bound all) vs
kept_filter spends watermark bound all front [] e up = refl
kept_filter spends watermark bound all front (v ∷ vs) e up =
    let more : kept_of spends watermark bound (Some v) vs ≡ filter (remains spends watermark bound all) vs =
    ap (λ o. kept_of spends watermark bound o vs) (sym (last_more front v))
    ∙ kept_filter spends watermark bound all (front ++ (v ∷ [])) vs (e ∙ sym (append_assoc front (v ∷ []) vs)) up in
    λ i. cond (same i) (v ∷ more i) (more i)
  where
    chain : IsChain (front ++ (v ∷ vs))
    chain = subst IsChain e up

    hidden : list_any (hides (reached watermark) v) all ≡ is_followed watermark (last_of front) v
    hidden = ap (list_any (hides (reached watermark) v)) e ∙ all_hide (reached watermark) (reached_falls watermark) front vs v chain ∙ followed_is watermark (last_of front) v

    later : list_any (is_later v) all ≡ is_behind (last_of front) v
    later = ap (list_any (is_later v)) e ∙ all_later front vs v chain

    same : is_kept spends watermark bound (last_of front) v ≡ remains spends watermark bound all v
    same = sym (λ i. not (ltb v.number bound || hidden i) && not (spends && (is_old_removal watermark v && not (later i))))

-- from the first version on
pub kept_is : (spends : Bool) (watermark bound : ℕ) (versions : List Entry) → IsChain versions
    → kept_of spends watermark bound None versions ≡ filter (remains spends watermark bound versions) versions
kept_is spends watermark bound versions up = kept_filter spends watermark bound versions [] versions refl up

-- ---- by the input in any order

-- what a clear hides up to the watermark is below the greatest such clear
emptied : (watermark : ℕ) (clears : List ℕ) (n : ℕ) → ltb n (barrier (watermark + 1) clears) ≡ list_any (λ m. ltb n m && leb m watermark) clears
emptied watermark clears n = sym (barrier_stands (watermark + 1) clears n) ∙ (λ i. list_any (λ m. ltb n m && up_to m i) clears)
  where
    up_to : (m : ℕ) → ltb m (watermark + 1) ≡ leb m watermark
    up_to m = grind (arith, nat_tests)

-- What a job keeps of versions in order are the versions that its input in any order doesn't hide.
pub flush_kept : (watermark : ℕ) (clears : List ℕ) (versions : List Entry) → OnceEach versions
    → Same (kept_of false watermark (barrier (watermark + 1) clears) None (sorted versions)) (flushed watermark clears versions)
flush_kept watermark clears versions once test =
    ap (list_any test) (kept_is false watermark (barrier (watermark + 1) clears) (sorted versions) (sorted_chain versions)
    ∙ filters_same (remains false watermark (barrier (watermark + 1) clears) (sorted versions)) (λ v. not (is_hidden watermark clears versions v)) (sorted versions) each)
    ∙ same_filters (λ v. not (is_hidden watermark clears versions v)) (sorted versions) versions (sorted_same versions once) test
  where
    each : (v : Entry) → remains false watermark (barrier (watermark + 1) clears) (sorted versions) v ≡ not (is_hidden watermark clears versions v)
    each v = (λ i. not (emptied watermark clears v.number i || sorted_same versions once (hides (reached watermark) v) i) && true)
        ∙ and-true (not (is_hidden watermark clears versions v))

-- For a merge they are those that aren't spent either.
pub merge_kept : (watermark : ℕ) (clears : List ℕ) (versions : List Entry) → OnceEach versions
    → Same (kept_of true watermark (barrier (watermark + 1) clears) None (sorted versions)) (merged watermark clears versions)
merge_kept watermark clears versions once test =
    ap (list_any test) (kept_is true watermark (barrier (watermark + 1) clears) (sorted versions) (sorted_chain versions)
    ∙ filters_same (remains true watermark (barrier (watermark + 1) clears) (sorted versions)) stays (sorted versions) each)
    ∙ same_filters stays (sorted versions) versions (sorted_same versions once) test
  where
    stays : Entry → Bool
    stays v = not (is_hidden watermark clears versions v) && not (is_spent watermark versions v)

    each : (v : Entry) → remains true watermark (barrier (watermark + 1) clears) (sorted versions) v ≡ stays v
    each v = λ i. not (emptied watermark clears v.number i || sorted_same versions once (hides (reached watermark) v) i)
        && not (is_old_removal watermark v && not (sorted_same versions once (is_later v) i))

-- so what is kept is in order
pub kept_ordered : (spends : Bool) (watermark bound : ℕ) (versions : List Entry) → IsOrdered (kept_of spends watermark bound None (sorted versions))
kept_ordered spends watermark bound versions =
    subst IsOrdered (sym (kept_is spends watermark bound (sorted versions) (sorted_chain versions)))
    (ordered_of (filter (remains spends watermark bound (sorted versions)) (sorted versions))
    (filter_chain (remains spends watermark bound (sorted versions)) (sorted versions) (sorted_chain versions)))
