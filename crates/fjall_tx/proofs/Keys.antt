-- The order of keys of keyspaces, and a tree map of own writes as a map.
use Rattle.std.proofs.Common.{◌≡◌, cond, List, [], ◌∷◌, map, length, Some, refl, sym, ap, subst, ◌∙◌, arith}
use Rattle.std.proofs.lemmas.Bool.{true≢false}
use Rattle.std.proofs.lemmas.Cmp.{on_total, then_total, tied_itself}
use Rattle.std.specs.Prelude.{T, is_some}
use Rattle.std.specs.BTreeMap.{is_at}
use Rattle.std.specs.Cmp.{IsTotalOrder, eq_by_cmp_equiv, nat_cmp_total}
use Rattle.std.specs.Cmp.Lexicographic.{nat_list_cmp_total}
use Rattle.std.specs.FinMap.{IsAntisymmetric, empty, entries, entries-from_sorted, find, from_entries, from_sorted, get, insert, is_sorted, get-empty, get-from_entries, get-from_sorted, get-insert, same_map, nat_cmp-IsAntisymmetric, slice_cmp-IsAntisymmetric}
use Rattle.std.specs.FinMap.Entries.{below_all}
use Rattle.std.specs.List.{AllByRecursion}
use Rattle.std.specs.List.Sorted.{IsStrictlySortedBy}
use Rattle.std.specs.Map.{lookup}
use Rattle.std.specs.Ordering.{nat_cmp, ordering_then, is_eq, is_lt, eq_by_cmp}
use Rattle.std.specs.declared.cmp.Ordering.{Ordering}
use Rattle.std.specs.declared.cmp.Ordering.TheVariants.{Less, Equal, Greater}
use Rattle.fjall_base.specs.Pairs.{byte_order}
use Rattle.fjall_journal.specs.declared.op.Op.{Op}
use Rattle.fjall_tx.specs.declared.key.Key.{Key}
use Rattle.fjall_tx.specs.Owns.{key_of, key_order}
use Rattle.fjall_tx.proofs.Merges.{both}

pub key_total : IsTotalOrder key_order
key_total = then_total (on_total (λ k. k.keyspace_id) nat_cmp_total) (on_total (λ k. k.key) nat_list_cmp_total)

both_tied : (a b : Ordering) → ordering_then a b ≡ Equal → (a ≡ Equal) × (b ≡ Equal)
both_tied Less b e = (e, cc)
both_tied Equal b e = (refl, e)
both_tied Greater b e = (e, cc)

pub byte_tied : IsAntisymmetric byte_order
byte_tied = slice_cmp-IsAntisymmetric nat_cmp-IsAntisymmetric

pub key_tied : IsAntisymmetric key_order
key_tied p q e =
    let parts = both_tied (nat_cmp p.keyspace_id q.keyspace_id) (byte_order p.key q.key) e in
    let ids : p.keyspace_id ≡ q.keyspace_id = nat_cmp-IsAntisymmetric _ _ parts.0 in
    let keys : p.key ≡ q.key = byte_tied _ _ parts.1 in
    λ i. key_of (ids i) (keys i)

-- a look-up in a tree map
found : (q : Key) (es : List (Key × Op)) → find key_order q es ≡ lookup (is_at (key_order q)) es
found q [] = refl
found q (e ∷ es) = ap (λ o. cond (is_at (key_order q) e.0) (Some e.1) o) (found q es)

-- the map answers as the tree map does
pub same_get : (es : List (Key × Op)) (q : Key) → get (from_entries {R = key_order} es) q ≡ lookup (is_at (key_order q)) es
same_get es q = get-from_entries key_total es q ∙ found q es

-- what an insertion makes of it
pub inserted : (old new : List (Key × Op)) (k : Key) (v : Op) → ((q : Key) → lookup (is_at (key_order q)) new ≡ cond (is_at (key_order k) q) (Some v) (lookup (is_at (key_order q)) old))
    → from_entries {R = key_order} new ≡ insert (from_entries old) k v
inserted old new k v updates =
    same_map key_total key_tied (from_entries new) (insert (from_entries old) k v)
    (λ q. same_get new q ∙ updates q ∙ ap (λ b. cond b (Some v) (lookup (is_at (key_order q)) old)) ((eq_by_cmp_equiv key_total).symm k q)
    ∙ sym (get-insert key_total (from_entries old) k v q ∙ ap (λ o. cond (eq_by_cmp key_order q k) (Some v) o) (same_get old q)))

below : (x : Key) (es : List (Key × Op)) → AllByRecursion (λ y. key_order x y ≡ Less) (map (λ e. e.0) es) → T (below_all key_order x es)
below x [] each = tt
below x (e ∷ es) each = both _ _ (subst (λ o. T (is_lt o)) (sym each.0) tt) (below x es each.1)

pub sorted : (es : List (Key × Op)) → IsStrictlySortedBy key_order (map (λ e. e.0) es) → T (is_sorted key_order es)
unfolding IsStrictlySortedBy
sorted [] each = tt
sorted (e ∷ es) each = both _ _ (below e.0 es each.0) (sorted es each.1)

-- its entries are those of the tree map
pub same_entries : (es : List (Key × Op)) → IsStrictlySortedBy key_order (map (λ e. e.0) es) → entries (from_entries {R = key_order} es) ≡ es
same_entries es ordered =
    let is = sorted es ordered in
    let same : from_entries {R = key_order} es ≡ from_sorted es =
    same_map key_total key_tied (from_entries es) (from_sorted es) (λ q. get-from_entries key_total es q ∙ sym (get-from_sorted key_order es q is)) in
    ap entries same ∙ entries-from_sorted key_order es is

-- nothing was written exactly where it has no entries
pub empty_entries : (es : List (Key × Op)) → from_entries {R = key_order} es ≡ empty → es ≡ []
empty_entries [] e = refl
empty_entries (x ∷ es) e =
    let here : get (insert (from_entries {R = key_order} es) x.0 x.1) x.0 ≡ Some x.1 =
    get-insert key_total (from_entries es) x.0 x.1 x.0 ∙ ap (λ o. cond (is_eq o) (Some x.1) (get (from_entries {R = key_order} es) x.0)) (tied_itself key_total x.0) in
    absurd (true≢false (sym (ap is_some here) ∙ ap (λ m. is_some (get m x.0)) e ∙ ap is_some (get-empty key_order x.0)))

pub no_entries : {X : Type 0} (xs : List X) → length xs ≡ 0 → xs ≡ []
no_entries [] e = refl
no_entries (x ∷ xs) e = absurd (omega (arith, e))
