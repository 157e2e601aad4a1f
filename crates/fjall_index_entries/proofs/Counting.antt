-- How many pairs an index has.
use Rattle.std.proofs.Common.{◌≡◌, ◌+◌, Bool, true, false, cond, not, ◌||◌, List, [], ◌∷◌, Option, None, Some, is_some, refl, sym, ◌∙◌, ap, arith}
use Rattle.std.proofs.Math.Bool.{or-true}
use Rattle.std.proofs.lemmas.List.Sums.{sum_by-cons}
use Rattle.std.specs.Prelude.{T, count_by}
use Rattle.std.specs.List.{list_any}
use Rattle.std.specs.Cmp.Lexicographic.{nat_list_cmp_total}
use Rattle.std.specs.FinMap.{empty, empty_of_len, entries, entries_sorted, get-empty, get-retain_keys, is_sorted, len, len-empty, len-insert, retain_keys, same_map}
use Rattle.std.specs.FinMap.Entries.{below_all}
use Rattle.fjall_base.specs.Pairs.{Bytes, Pairs, byte_order, lookup}
use Rattle.fjall_tx.proofs.Merges.{first, not_found, second}
use Rattle.fjall_index_entries.specs.Entries.{entry}
use Rattle.fjall_index_entries.specs.Index.{FieldOf, IsEntry, count_in, index_of, with_entry}
use Rattle.fjall_index_entries.proofs.Index.{built, built_at, from_any, has_entry, is_entry, none_other, same_built}
use Rattle.fjall_index_entries.proofs.Standing.{all_stand, eq_itself, same_bytes}

-- one entry more, which isn't there
one_counted : (key : Bytes) (f : Option Bytes) (x : Pairs) → ((g : Bytes) → f ≡ Some g → lookup x (entry g key) ≡ None) → len (with_entry key f x) ≡ cond (is_some f) 1 0 + len x
one_counted key None x absent = omega arith
one_counted key (Some g) x absent =
    let more : len (with_entry key (Some g) x) ≡ len x + 1 = len-insert nat_list_cmp_total x (entry g key) [] ∙ ap (λ (o : Option Bytes). cond (is_some o) (len x) (len x + 1)) (absent g refl) in
    omega (arith, more)

-- the entries of pairs, none of which the base has
counted : (field : FieldOf) (base : Pairs) (ps : List (Bytes × Bytes)) → T (is_sorted byte_order ps) → ((e : Bytes) → list_any (has_entry field e) ps ≡ true → lookup base e ≡ None)
    → len (built field base ps) ≡ count_by (λ pair. is_some (field pair.0 pair.1)) ps + len base
counted field base [] s none = omega arith
counted field base (p ∷ ps) s none =
    let rest = counted field base ps (second (below_all byte_order p.0 ps) (is_sorted byte_order ps) s) (λ e any. none e (ap (λ b. has_entry field e p || b) any ∙ or-true (has_entry field e p))) in
    let here = one_counted p.0 (field p.0 p.1) (built field base ps) absent in
    let more = sum_by-cons (λ (pair : Bytes × Bytes). cond (is_some (field pair.0 pair.1)) 1 0) p ps in
    omega (arith, rest, here, more)
  where
    absent : (g : Bytes) → field p.0 p.1 ≡ Some g → lookup (built field base ps) (entry g p.0) ≡ None
    absent g is =
        let its : has_entry field (entry g p.0) p ≡ true = ap (is_entry (entry g p.0) p.0) is ∙ eq_itself (entry g p.0) in
        let others = none_other field (entry g p.0) p.0 (Some g) (eq_itself (entry g p.0)) ps (not_found byte_order nat_list_cmp_total p.0 ps (first (below_all byte_order p.0 ps) (is_sorted byte_order ps) s)) in
        built_at field base ps (entry g p.0)
        ∙ ap (λ b. cond b (Some []) (lookup base (entry g p.0))) others
        ∙ none (entry g p.0) (ap (λ b. b || list_any (has_entry field (entry g p.0)) ps) its)

-- an index has as many pairs as the map has pairs with a field
pub as_many : (field : FieldOf) (m : Pairs) → len (index_of field m) ≡ count_in field m
as_many field m =
    let same = ap len (same_built field (entries m)) in
    let all = counted field empty (entries m) (entries_sorted m) (λ e any. get-empty byte_order e) in
    let none = len-empty byte_order Bytes in
    omega (arith, same, all, none)

-- what has each entry, and as many pairs, is the index
pub all_there : (field : FieldOf) (m x : Pairs) → ((e : Bytes) → IsEntry field m e → lookup x e ≡ Some []) → len x ≡ count_in field m → x ≡ index_of field m
all_there field m x all many = whole ∙ ap (λ b. built field b (entries m)) none ∙ same_built field (entries m)
  where
    is_there : Bytes → Bool
    is_there e = list_any (has_entry field e) (entries m)

    rest : Pairs
    rest = retain_keys x (λ e. not (is_there e))

    rest_at : (e : Bytes) → lookup rest e ≡ cond (not (is_there e)) (lookup x e) None
    rest_at e = get-retain_keys x (λ q. not (is_there q)) e (λ y tie. ap (λ q. not (is_there q)) (sym (same_bytes e y tie)))

    by : (e : Bytes) (b : Bool) → is_there e ≡ b → lookup x e ≡ cond (is_there e) (Some []) (lookup rest e)
    by e true is = all e (from_any field e m (entries m) (all_stand m) is) ∙ sym (ap (λ b. cond b (Some []) (lookup rest e)) is)
    by e false is = sym (ap (λ b. cond b (Some []) (lookup rest e)) is ∙ rest_at e ∙ ap (λ b. cond (not b) (lookup x e) None) is)

    whole : x ≡ built field rest (entries m)
    whole = same_map nat_list_cmp_total same_bytes x (built field rest (entries m)) (λ e. by e (is_there e) refl ∙ sym (built_at field rest (entries m) e))

    none : rest ≡ empty
    none =
        let in_all = ap len whole in
        let parts = counted field rest (entries m) (entries_sorted m) (λ e any. rest_at e ∙ ap (λ b. cond (not b) (lookup x e) None) any) in
        empty_of_len rest (omega (arith, in_all, parts, many))
