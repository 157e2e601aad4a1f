-- The entries of a field lie in one range, in the order of their keys.
use Rattle.std.proofs.Common.{◌≡◌, Bool, true, false, cond, not, ◌||◌, ◌&&◌, List, [], ◌∷◌, Option, None, Some, refl, sym, ◌∙◌, ap, subst}
use Rattle.std.specs.Prelude.{T, filter}
use Rattle.std.specs.Option.{option_eq}
use Rattle.std.specs.Str.{bytes_eq}
use Rattle.std.proofs.Math.Bool.{and-true, and_self}
use Rattle.std.proofs.lemmas.Map.Text.{is_eq-slice_cmp}
use Rattle.std.proofs.lemmas.Slice.Eq.{bytes_eq-Decides}
use Rattle.std.specs.List.{list_any}
use Rattle.std.specs.Ordering.{eq_by_cmp, is_eq, is_le, is_lt, ordering_then, ordering_reverse}
use Rattle.std.specs.Cmp.{eq_by_cmp_equiv, tied_itself}
use Rattle.std.specs.FinMap.Entries.{below_all, is_sorted, same_entries}
use Rattle.std.specs.FinMap.{entries, entries_sorted, find, get-entries, get-retain_keys, retain_keys}
use Rattle.std.specs.Cmp.Lexicographic.{nat_list_cmp_total}
use Rattle.std.specs.declared.cmp.Ordering.{Ordering}
use Rattle.std.specs.declared.cmp.Ordering.TheVariants.{Less, Equal, Greater}
use Rattle.fjall_base.specs.Pairs.{Bytes, Pairs, byte_order, is_within, pairs_between}
use Rattle.fjall_index_entries.specs.Entries.{entry, past, range_of}
use Rattle.fjall_index_entries.specs.Index.{FieldOf, entries_of, found_in, has_field, index_of}
use Rattle.fjall_index_entries.proofs.Entries.{entries_order, past_order}
use Rattle.fjall_tx.proofs.Merges.{both, first, second}
use Rattle.fjall_index_entries.proofs.Index.{has_entry, index_at, is_entry}
use Rattle.fjall_index_entries.proofs.Standing.{eq_same, same_bytes}

first_or_same : (l : Bytes) → is_le (byte_order [] l) ≡ true
first_or_same [] = refl
first_or_same (b ∷ l) = refl

within_by : (o p : Ordering) → is_le p ≡ true → (is_le (ordering_then o p) && not (is_le (ordering_reverse (ordering_then (ordering_reverse o) Less)))) ≡ is_eq o
within_by Less p e = refl
within_by Equal p e = ap (λ b. b && true) e
within_by Greater p e = refl

-- in the range of a field lie its entries, and none of another field
pub in_range : (f g l : Bytes) → is_within (range_of f) (entry g l) ≡ bytes_eq f g
in_range f g l =
    ap (λ o. is_le o && not (is_le (byte_order (past f) (entry g l)))) (entries_order f g [] l)
    ∙ ap (λ o. is_le (ordering_then (byte_order f g) (byte_order [] l)) && not (is_le o)) (nat_list_cmp_total.antisymm (past f) (entry g l) ∙ ap ordering_reverse (past_order g f l ∙ ap (λ o. ordering_then o Less) (nat_list_cmp_total.antisymm g f)))
    ∙ within_by (byte_order f g) (byte_order [] l) (first_or_same l)
    ∙ is_eq-slice_cmp f g

-- ---- what is found there

-- what an index has for those of these pairs that have the field
abbrev chosen : FieldOf → Bytes → List (Bytes × Bytes) → List (Bytes × Bytes)
chosen field wanted es = entries_of wanted (filter (has_field field wanted) es)

then_by : (o p : Ordering) → o ≡ Equal → is_lt (ordering_then o p) ≡ is_lt p
then_by o p e = ap (λ q. is_lt (ordering_then q p)) e

entries_below : (w k l : Bytes) → is_lt (byte_order (entry w k) (entry w l)) ≡ is_lt (byte_order k l)
entries_below w k l = ap is_lt (entries_order w w k l) ∙ then_by (byte_order w w) (byte_order k l) (tied_itself nat_list_cmp_total w)

below : (field : FieldOf) (w k : Bytes) (es : List (Bytes × Bytes)) → T (below_all byte_order k es) → T (below_all byte_order (entry w k) (chosen field w es))
below field w k [] h = tt
below field w k (e ∷ es) h =
    let rest = below field w k es (second (is_lt (byte_order k e.0)) (below_all byte_order k es) h) in
    let here : T (is_lt (byte_order (entry w k) (entry w e.0))) = subst T (sym (entries_below w k e.0)) (first (is_lt (byte_order k e.0)) (below_all byte_order k es) h) in
    elim (has_field field w e) as (λ b. T (below_all byte_order (entry w k) (entries_of w (cond b (e ∷ filter (has_field field w) es) (filter (has_field field w) es))))) [ true ↦ both (is_lt (byte_order (entry w k) (entry w e.0))) _ here rest | false ↦ rest ]

sorted : (field : FieldOf) (w : Bytes) (es : List (Bytes × Bytes)) → T (is_sorted byte_order es) → T (is_sorted byte_order (chosen field w es))
sorted field w [] h = tt
sorted field w (e ∷ es) h =
    let rest = sorted field w es (second (below_all byte_order e.0 es) (is_sorted byte_order es) h) in
    let here = below field w e.0 es (first (below_all byte_order e.0 es) (is_sorted byte_order es) h) in
    elim (has_field field w e) as (λ b. T (is_sorted byte_order (entries_of w (cond b (e ∷ filter (has_field field w) es) (filter (has_field field w) es))))) [ true ↦ both (below_all byte_order (entry w e.0) (chosen field w es)) _ here rest | false ↦ rest ]

-- whether these bytes are the entry of the pair with this field
abbrev is_found : FieldOf → Bytes → Bytes → Bytes × Bytes → Bool
is_found field w q e = has_field field w e && eq_by_cmp byte_order q (entry w e.0)

find_step : (b c r : Bool) (y : Option Bytes) → y ≡ cond r (Some []) None → cond b (cond c (Some []) y) y ≡ cond ((b && c) || r) (Some []) None
find_step true true r y is = refl
find_step true false r y is = is
find_step false c r y is = is

find_chosen : (q : Bytes) (w : Bytes) (e : Bytes × Bytes) (b : Bool) (fs : List (Bytes × Bytes))
    → find byte_order q (entries_of w (cond b (e ∷ fs) fs)) ≡ cond b (cond (eq_by_cmp byte_order q (entry w e.0)) (Some []) (find byte_order q (entries_of w fs))) (find byte_order q (entries_of w fs))
find_chosen q w e true fs = refl
find_chosen q w e false fs = refl

found_at : (field : FieldOf) (w q : Bytes) (es : List (Bytes × Bytes)) → find byte_order q (chosen field w es) ≡ cond (list_any (is_found field w q) es) (Some []) None
found_at field w q [] = refl
found_at field w q (e ∷ es) =
    find_chosen q w e (has_field field w e) (filter (has_field field w) es)
    ∙ find_step (has_field field w e) (eq_by_cmp byte_order q (entry w e.0)) (list_any (is_found field w q) es) (find byte_order q (chosen field w es)) (found_at field w q es)

-- ---- the same as what lies in the range

and-false : (b : Bool) → (b && false) ≡ false
and-false true = refl
and-false false = refl

eq_turned : (a b : Bytes) → bytes_eq a b ≡ bytes_eq b a
eq_turned a b = sym (is_eq-slice_cmp a b) ∙ (eq_by_cmp_equiv nat_list_cmp_total).symm a b ∙ is_eq-slice_cmp b a

-- entries of one key are the same where their fields are
eq_entries : (g w k : Bytes) → eq_by_cmp byte_order (entry g k) (entry w k) ≡ bytes_eq g w
eq_entries g w k = ap is_eq (entries_order g w k k ∙ ap (ordering_then (byte_order g w)) (tied_itself nat_list_cmp_total k)) ∙ by (byte_order g w) ∙ is_eq-slice_cmp g w
  where
    by : (o : Ordering) → is_eq (ordering_then o Equal) ≡ is_eq o
    by Less = refl
    by Equal = refl
    by Greater = refl

-- bytes of the range that are the entry of a key are so with the field of the range
alike : (w q k : Bytes) (f : Option Bytes) → (is_within (range_of w) q && is_entry q k f) ≡ (option_eq bytes_eq f (Some w) && eq_by_cmp byte_order q (entry w k))
alike w q k None = and-false (is_within (range_of w) q)
alike w q k (Some g) = by (eq_by_cmp byte_order q (entry g k)) refl
  where
    apart : (b : Bool) → bytes_eq g w ≡ b → eq_by_cmp byte_order q (entry g k) ≡ false → false ≡ (b && eq_by_cmp byte_order q (entry w k))
    apart true same off = sym (ap (λ v. eq_by_cmp byte_order q (entry v k)) (sym ((bytes_eq-Decides g w).0 same)) ∙ off)
    apart false same off = refl

    by : (b : Bool) → eq_by_cmp byte_order q (entry g k) ≡ b → (is_within (range_of w) q && eq_by_cmp byte_order q (entry g k)) ≡ (bytes_eq g w && eq_by_cmp byte_order q (entry w k))
    by true e =
        let is : q ≡ entry g k = eq_same q (entry g k) e in
        ap (λ b. is_within (range_of w) q && b) e
        ∙ and-true (is_within (range_of w) q)
        ∙ ap (is_within (range_of w)) is
        ∙ in_range w g k
        ∙ eq_turned w g
        ∙ sym (and_self (bytes_eq g w))
        ∙ ap (λ b. bytes_eq g w && b) (sym (ap (λ r. eq_by_cmp byte_order r (entry w k)) is ∙ eq_entries g w k))
    by false e = ap (λ b. is_within (range_of w) q && b) e ∙ and-false (is_within (range_of w) q) ∙ apart (bytes_eq g w) refl e

any_alike : (b : Bool) (P Q : Bytes × Bytes → Bool) → ((e : Bytes × Bytes) → (b && P e) ≡ Q e) → (es : List (Bytes × Bytes)) → (b && list_any P es) ≡ list_any Q es
any_alike b P Q is [] = and-false b
any_alike b P Q is (e ∷ es) = spread b (P e) (list_any P es) ∙ (λ i. is e i || any_alike b P Q is es i)
  where
    spread : (a c d : Bool) → (a && (c || d)) ≡ ((a && c) || (a && d))
    spread true c d = refl
    spread false c d = refl

cond_and : (a b : Bool) (x : Option Bytes) → cond a (cond b x None) None ≡ cond (a && b) x None
cond_and true b x = refl
cond_and false b x = refl

-- in the range of a field the index has just the entries of the pairs that have the field, in the order of their keys
pub found_between : (field : FieldOf) (w : Bytes) (m : Pairs) → pairs_between (range_of w) (index_of field m) ≡ entries_of w (found_in field w m)
found_between field w m =
    let x = index_of field m in
    let range = range_of w in
    same_entries byte_order nat_list_cmp_total same_bytes (pairs_between range x) (chosen field w (entries m))
    (entries_sorted (retain_keys x (is_within range)))
    (sorted field w (entries m) (entries_sorted m))
    (λ q. sym (get-entries (retain_keys x (is_within range)) q)
    ∙ get-retain_keys x (is_within range) q (λ y tie. ap (is_within range) (sym (same_bytes q y tie)))
    ∙ ap (λ (o : Option Bytes). cond (is_within range q) o None) (index_at field (entries m) q)
    ∙ cond_and (is_within range q) (list_any (has_entry field q) (entries m)) (Some [])
    ∙ ap (λ b. cond b (Some []) None) (any_alike (is_within range q) (has_entry field q) (is_found field w q) (λ e. alike w q e.0 (field e.0 e.1)) (entries m))
    ∙ sym (found_at field w q (entries m)))
