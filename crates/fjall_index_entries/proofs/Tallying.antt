-- A check of an index: the pairs of the main keyspace one after another, and how many pairs the index keyspace has.
use Rattle.std.proofs.Common.{◌≡◌, ◌+◌, ◌-◌, ◌<◌, ◌^◌, ℕ, IsTrue, nat_eq, Result, Ok, Bool, true, true≢false, false, cond, List, [], ◌∷◌, Option, None, Some, if◌then◌else◌, is_some, length, refl, sym, ◌∙◌, ap, subst, arith}
use Rattle.std.proofs.lemmas.Bool.Decides.{nat_tests}
use Rattle.std.proofs.lemmas.List.Sums.{sum_by-cons}
use Rattle.std.proofs.lemmas.Option.{none-some}
use Rattle.std.specs.Cmp.Lexicographic.{nat_list_cmp_total}
use Rattle.std.specs.FinMap.{entries, find, get-entries, get-retain_keys, len, len-entries, retain_keys, same_map}
use Rattle.std.specs.List.{count_by}
use Rattle.std.specs.Option.{option_eq}
use Rattle.std.specs.Ordering.{eq_by_cmp}
use Rattle.std.specs.Str.{bytes_eq}
use Rattle.fjall_base.specs.Pairs.{Bytes, Pairs, byte_order, is_within, lookup}
use Rattle.fjall_base.specs.declared.error.Error.{Error}
use Rattle.fjall_reading.specs.Rests.{TakesFirst, error_in}
use Rattle.fjall_reading.specs.Readers.{all_of, count_of, whole}
use Rattle.fjall_index_entries.specs.Entries.{entry}
use Rattle.fjall_index_entries.specs.Index.{FieldOf, count_in, index_of}
use Rattle.fjall_index_entries.proofs.Counting.{all_there, as_many}
use Rattle.fjall_index_entries.proofs.Index.{entry_stands}
use Rattle.fjall_index_entries.proofs.Standing.{AreOf, all_stand, eq_same, same_bytes}
use Rattle.fjall_index_entries.specs.Checking.{one_if, told_at, told_of}

-- all pairs of a map
pub all_entries : (m : Pairs) → all_of m ≡ entries m
all_entries m = ap entries (same_map nat_list_cmp_total same_bytes (retain_keys m (is_within whole)) m (λ q. get-retain_keys m (is_within whole) q (λ x tie. refl)))

pub many_of : (m : Pairs) → length (all_of m) ≡ len m
many_of m = ap length (all_entries m) ∙ sym (len-entries m)

-- ---- how many pairs have a field, where the entries of all stand

abbrev pub added : Option Bool → Option ℕ → Option ℕ
added None rest = None
added (Some has) None = None
added (Some has) (Some n) = Some (cond has 1 0 + n)

abbrev pub plus : ℕ → Option ℕ → Option ℕ
plus count None = None
plus count (Some n) = Some (count + n)

abbrev pub tally : FieldOf → Pairs → List (Bytes × Bytes) → Option ℕ
tally field x [] = Some 0
tally field x (p ∷ ps) = added (told_of field x p) (tally field x ps)

pub none_more : (count : ℕ) (rest : Option ℕ) → plus count (added None rest) ≡ None
none_more count rest = refl

pub some_more : (count next : ℕ) (has : Bool) (rest : Option ℕ) → next ≡ count + cond has 1 0 → plus next rest ≡ plus count (added (Some has) rest)
some_more count next has None is = refl
some_more count next has (Some n) is = ap (λ k. Some k) (omega (arith, is))

-- ---- what stands

-- the entry of each of these that has a field
abbrev AreThere : FieldOf → Pairs → List (Bytes × Bytes) → Type 0
AreThere field x [] = Unit {0}
AreThere field x (p ∷ ps) = ((f : Bytes) → field p.0 p.1 ≡ Some f → lookup x (entry f p.0) ≡ Some []) × AreThere field x ps

is_empty_value : (o : Option Bytes) → option_eq bytes_eq o (Some []) ≡ true → o ≡ Some []
is_empty_value None e = absurd (true≢false (sym e))
is_empty_value (Some []) e = refl
is_empty_value (Some (b ∷ bytes)) e = absurd (true≢false (sym e))

one_there : (x : Pairs) (key : Bytes) (its : Option Bytes) (has : Bool) → told_at x key its ≡ Some has → (has ≡ is_some its) × ((f : Bytes) → its ≡ Some f → lookup x (entry f key) ≡ Some [])
one_there x key None has e = (sym (some_is e), λ f is. absurd (none-some f is))
  where
    some_is : {a b : Bool} → Some a ≡ Some b → a ≡ b
    some_is {a} {b} e = ap (λ (o : Option Bool). elim o as (λ _. Bool) [ None ↦ a | Some v ↦ v ]) e
one_there x key (Some g) has e = by (option_eq bytes_eq (lookup x (entry g key)) (Some [])) refl e
  where
    some_is : {a b : Bool} → Some a ≡ Some b → a ≡ b
    some_is {a} {b} e = ap (λ (o : Option Bool). elim o as (λ _. Bool) [ None ↦ a | Some v ↦ v ]) e

    field_is : (f : Bytes) → Some g ≡ Some f → g ≡ f
    field_is f e = ap (λ (o : Option Bytes). elim o as (λ _. Bytes) [ None ↦ g | Some v ↦ v ]) e

    by : (b : Bool) → option_eq bytes_eq (lookup x (entry g key)) (Some []) ≡ b → (if b then Some true else None) ≡ Some has → (has ≡ true) × ((f : Bytes) → Some g ≡ Some f → lookup x (entry f key) ≡ Some [])
    by true is told = (sym (some_is told), λ f same. subst (λ (h : Bytes). lookup x (entry h key) ≡ Some []) (field_is f same) (is_empty_value (lookup x (entry g key)) is))
    by false is told = absurd (none-some has told)

abbrev plain_sum : Bool → ℕ → ℕ
plain_sum has k = one_if has + k

there : (field : FieldOf) (x : Pairs) (ps : List (Bytes × Bytes)) (n : ℕ) → tally field x ps ≡ Some n → AreThere field x ps × (n ≡ count_by (λ pair. is_some (field pair.0 pair.1)) ps)
there field x [] n e = (tt, sym (ap (λ (o : Option ℕ). elim o as (λ _. ℕ) [ None ↦ 0 | Some v ↦ v ]) e))
there field x (p ∷ ps) n e = by (told_of field x p) refl (tally field x ps) refl e (λ k so. there field x ps k so)
  where
    by : (told : Option Bool) → told_of field x p ≡ told → (rest : Option ℕ) → tally field x ps ≡ rest → added told rest ≡ Some n
        → ((k : ℕ) → tally field x ps ≡ Some k → AreThere field x ps × (k ≡ count_by (λ pair. is_some (field pair.0 pair.1)) ps))
        → AreThere field x (p ∷ ps) × (n ≡ count_by (λ pair. is_some (field pair.0 pair.1)) (p ∷ ps))
    by None is rest so e others = absurd (none-some n e)
    by (Some has) is None so e others = absurd (none-some n e)
    by (Some has) is (Some k) so e others =
        let here = one_there x p.0 (field p.0 p.1) has is in
        let (all, many) = others k so in
        let sum : plain_sum has k ≡ n = ap (λ (o : Option ℕ). elim o as (λ _. ℕ) [ None ↦ plain_sum has k | Some v ↦ v ]) e in
        let more = sum_by-cons (λ (pair : Bytes × Bytes). cond (is_some (field pair.0 pair.1)) 1 0) p ps in
        let one : one_if has ≡ one_if (is_some (field p.0 p.1)) = ap one_if here.0 in
        ((here.1, all), omega (arith, sum, more, one, many))

entry_found : (field : FieldOf) (x : Pairs) (ps : List (Bytes × Bytes)) (key value f : Bytes) → AreThere field x ps → find byte_order key ps ≡ Some value → field key value ≡ Some f → lookup x (entry f key) ≡ Some []
entry_found field x [] key value f all e has = absurd (none-some value e)
entry_found field x (p ∷ ps) key value f all e has = by (eq_by_cmp byte_order key p.0) refl e (entry_found field x ps key value f all.1)
  where
    by : (b : Bool) → eq_by_cmp byte_order key p.0 ≡ b → cond b (Some p.1) (find byte_order key ps) ≡ Some value
        → (find byte_order key ps ≡ Some value → field key value ≡ Some f → lookup x (entry f key) ≡ Some []) → lookup x (entry f key) ≡ Some []
    by true is found later =
        let same : key ≡ p.0 = eq_same key p.0 is in
        let its : p.1 ≡ value = ap (λ (o : Option Bytes). elim o as (λ _. Bytes) [ None ↦ value | Some v ↦ v ]) found in
        subst (λ (k : Bytes). lookup x (entry f k) ≡ Some []) (sym same)
        (all.0 f (subst (λ (v : Bytes). field p.0 v ≡ Some f) (sym its) (subst (λ (k : Bytes). field k value ≡ Some f) same has)))
    by false is found later = later found has

-- ---- what that tells of the index

its_own : (field : FieldOf) (m : Pairs) (ps : List (Bytes × Bytes)) → AreOf m ps → tally field (index_of field m) ps ≡ Some (count_by (λ pair. is_some (field pair.0 pair.1)) ps)
its_own field m [] are = refl
its_own field m (p ∷ ps) are =
    ap (λ (told : Option Bool). added told (tally field (index_of field m) ps)) (here (field p.0 p.1) refl)
    ∙ ap (added (Some (is_some (field p.0 p.1)))) (its_own field m ps are.1)
    ∙ ap (λ k. Some k) (sym (sum_by-cons (λ (pair : Bytes × Bytes). cond (is_some (field pair.0 pair.1)) 1 0) p ps))
  where
    here : (its : Option Bytes) → field p.0 p.1 ≡ its → told_at (index_of field m) p.0 its ≡ Some (is_some its)
    here None is = refl
    here (Some f) is =
        ap (λ (o : Option Bytes). if option_eq bytes_eq o (Some []) then Some true else None)
        (entry_stands field m (entry f p.0) (record { key = p.0; value = p.1; its_field = f; stands = are.0; has = is; spelled = refl }))

pub stale_where_none : (field : FieldOf) (m x : Pairs) → tally field x (all_of m) ≡ None → x ≡ index_of field m → ⊥
stale_where_none field m x none is =
    let own : tally field x (all_of m) ≡ Some (count_in field m) =
    ap (tally field x) (all_entries m) ∙ ap (λ (i : Pairs). tally field i (entries m)) is ∙ its_own field m (entries m) (all_stand m) in
    none-some (count_in field m) (sym none ∙ own)

pub indexed_where_many : (field : FieldOf) (m x : Pairs) (n : ℕ) → tally field x (all_of m) ≡ Some n → len x ≡ n → x ≡ index_of field m
indexed_where_many field m x n told many =
    let (all, count) = there field x (entries m) n (sym (ap (tally field x) (all_entries m)) ∙ told) in
    all_there field m x (λ e is. subst (λ (bytes : Bytes). lookup x bytes ≡ Some []) (sym is.spelled) (entry_found field x (entries m) is.key is.value is.its_field all (sym (get-entries m is.key) ∙ is.stands) is.has)) (many ∙ count)

pub many_where_indexed : (field : FieldOf) (m x : Pairs) (n : ℕ) → tally field x (all_of m) ≡ Some n → x ≡ index_of field m → len x ≡ n
many_where_indexed field m x n told is =
    let (all, count) = there field x (entries m) n (sym (ap (tally field x) (all_entries m)) ∙ told) in
    ap len is ∙ as_many field m ∙ sym count

-- ---- the check

same_numbers : (a b : ℕ) → IsTrue (nat_eq a b) → a ≡ b
same_numbers a b e = grind (arith, nat_tests, e)

equal_itself : (a b : ℕ) → a ≡ b → IsTrue (nat_eq a b)
equal_itself a b e = grind (arith, nat_tests, e)

-- where no pair is left
pub at_end : (field : FieldOf) (map found : Pairs) (count len_of : ℕ) (rest : List (Bytes × Bytes)) → plus count (tally field found rest) ≡ tally field found (all_of map) → rest ≡ [] → len_of ≡ count_of found → count < 2 ^ 64 - 1
    → (IsTrue (nat_eq len_of count) → found ≡ index_of field map) × (found ≡ index_of field map → IsTrue (nat_eq len_of count))
at_end field map found count len_of rest all none is few =
    let told : tally field found (all_of map) ≡ Some count = sym all ∙ ap (λ l. plus count (tally field found l)) none ∙ ap (λ k. Some k) (omega arith) in
    let many = many_of found in (
      λ same. let e = same_numbers len_of count same in indexed_where_many field map found count told (omega (arith, is, e, few, many)),
      λ same. let e = many_where_indexed field map found count told same in equal_itself len_of count (omega (arith, is, e, few, many)),
    )

-- where an entry is missing
pub at_missing : (field : FieldOf) (map found : Pairs) (count : ℕ) (rest left : List (Bytes × Bytes)) (pair : Bytes × Bytes) → plus count (tally field found rest) ≡ tally field found (all_of map) → rest ≡ pair ∷ left
    → told_of field found pair ≡ None → (IsTrue false → found ≡ index_of field map) × (found ≡ index_of field map → IsTrue false)
at_missing field map found count rest left pair all is told =
    let none : tally field found (all_of map) ≡ None =
    sym all ∙ ap (λ l. plus count (tally field found l)) is ∙ ap (λ (t : Option Bool). plus count (added t (tally field found left))) told in
    (λ never. absurd (true≢false (sym never)), λ same. absurd (stale_where_none field map found none same))

-- where it stands
pub goes_by : (field : FieldOf) (map found : Pairs) (count next : ℕ) (rest left : List (Bytes × Bytes)) (pair : Bytes × Bytes) (has : Bool) → plus count (tally field found rest) ≡ tally field found (all_of map) → rest ≡ pair ∷ left
    → told_of field found pair ≡ Some has → next ≡ count + one_if has → plus next (tally field found left) ≡ tally field found (all_of map)
goes_by field map found count next rest left pair has all is told one =
    some_more count next has (tally field found left) one
    ∙ sym (ap (λ l. plus count (tally field found l)) is ∙ ap (λ (t : Option Bool). plus count (added t (tally field found left))) told) ∙ all

-- what was taken first, where it is a pair
pub first_taken : (old new : List (Bytes × Bytes)) (r : Result (Bytes × Bytes) Error) (pair : Bytes × Bytes) → r ≡ Ok pair → TakesFirst old (Some r) new → old ≡ pair ∷ new
first_taken old new r pair is taken = subst (λ (x : Result (Bytes × Bytes) Error). TakesFirst old (Some x) new) is taken

pub none_in : (r : Result (Bytes × Bytes) Error) (pair : Bytes × Bytes) → r ≡ Ok pair → error_in (Some r) ≡ None
none_in r pair is = ap (λ (x : Result (Bytes × Bytes) Error). error_in (Some x)) is
