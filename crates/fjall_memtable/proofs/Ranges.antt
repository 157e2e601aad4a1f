-- Ranges of keys among entries in the order of their stamps.
use Rattle.std.proofs.Common.{◌≡◌, ℕ, ◌-◌, ◌≤◌, ◌^◌, Bool, true, false, not, ◌&&◌, List, [], ◌∷◌, map, filter, refl, sym, ap, subst, ◌∙◌, arith, inl, inr, cond}
use Rattle.std.specs.List.{AllByRecursion}
use Rattle.std.specs.List.Sorted.{IsStrictlySortedBy}
use Rattle.std.specs.Map.{keys_of}
use Rattle.std.specs.Ordering.{nat_cmp, ordering_then, is_le, is_lt, is_gt, is_ge}
use Rattle.std.specs.BTreeMap.Comparable.{le_lt_trans}
use Rattle.std.specs.BTreeMap.Range.{range_contains, is_from_start, is_past_end, entries_between, IsInRange}
use Rattle.std.specs.declared.cmp.Ordering.{Ordering}
use Rattle.std.specs.declared.cmp.Ordering.TheVariants.{Less, Equal, Greater}
use Rattle.std.specs.declared.ops.Bound.{Bound}
use Rattle.std.specs.declared.ops.Bound.TheVariants.{Included, Excluded, Unbounded}
use Rattle.std.proofs.lemmas.Bool.{cases_Bool, cases_order}
use Rattle.std.proofs.lemmas.Cmp.{nat_list_cmp_total, upto}
use Rattle.std.proofs.lemmas.Map.Lookups.{exact_bytes}
use Rattle.std.proofs.lemmas.Map.Views.{IsInRange-from_range_contains}
use Rattle.fjall_base.specs.Pairs.{Bytes, KeyRange, byte_order, is_within}
use Rattle.fjall_table.specs.Blocks.{Entry, IsOrdered}
use Rattle.fjall_memtable.specs.declared.place.Place.{Place}
use Rattle.fjall_memtable.specs.Stamps.{Stamp, stamp_cmp}
use Rattle.fjall_memtable.specs.Places.{entry_at_place, IsPlaced}
use Rattle.fjall_table.specs.Tables.{entries_within}
use Rattle.fjall_memtable.specs.Ranges.{is_reversed, stamp_bound, start_of, end_of}
use Rattle.fjall_memtable.specs.Entries.{stamp_of}
use Rattle.fjall_memtable.proofs.Fronts.{less, greater, same}
use Rattle.fjall_memtable.proofs.Orders.{ordered_is}
use Rattle.fjall_memtable.proofs.Finds.{filter_of_map, sorted_filter}

-- ---- between reversed bounds lies nothing

not_gt : (o : Ordering) → is_gt o ≡ false → is_le o ≡ true
not_gt Less h = refl
not_gt Equal h = refl
not_gt Greater h = sym h

lt_le : (a b c : Bytes) (o : Ordering) → byte_order b c ≡ o → byte_order a b ≡ Less → is_gt o ≡ false → byte_order a c ≡ Less
lt_le a b c Less is l h = nat_list_cmp_total.trans a b c l is
lt_le a b c Equal is l h = subst (λ (k : Bytes). byte_order a k ≡ Less) (exact_bytes b c is) l
lt_le a b c Greater is l h = absurd cc

order_of : (range : KeyRange) (key : Bytes) → IsInRange byte_order range.0 range.1 key → is_reversed range ≡ false
order_of (Included a, Included b) key h = upto nat_list_cmp_total a key b h.0 h.1
order_of (Included a, Excluded b) key h = ap is_ge (le_lt_trans nat_list_cmp_total a key b (not_gt (byte_order a key) h.0) h.1)
order_of (Excluded a, Included b) key h = ap is_ge (lt_le a key b (byte_order key b) refl h.0 h.1)
order_of (Excluded a, Excluded b) key h = ap is_ge (nat_list_cmp_total.trans a key b h.0 h.1)
order_of (Included a, Unbounded) key h = refl
order_of (Excluded a, Unbounded) key h = refl
order_of (Unbounded, end) key h = refl

pub nothing_within : (range : KeyRange) (key : Bytes) → is_reversed range ≡ true → is_within range key ≡ false
nothing_within range key h =
    elim (cases_Bool (is_within range key)) [
      | inl t ↦ absurd (cc (sym h ∙ order_of range key (IsInRange-from_range_contains nat_list_cmp_total range.0 range.1 key t)))
      | inr f ↦ f
    ]

-- nor between a key and itself, where the end is excluded
pub none_at : (a key : Bytes) → is_within (Included a, Excluded a) key ≡ false
none_at a key = by (byte_order a key)
  where
    by : (o : Ordering) → (is_le o && not (is_le o)) ≡ false
    by Less = refl
    by Equal = refl
    by Greater = refl

-- ---- bounds on keys, as bounds on stamps

at_most : (x n : ℕ) → x ≤ n → is_le (nat_cmp x n) ≡ true
at_most x n h = elim (cases_order x n) [ inl e ↦ ap is_le (subst (λ (m : ℕ). nat_cmp x m ≡ Equal) e (same x)) | inr o ↦ elim o [ inl l ↦ ap is_le (less x n l) | inr g ↦ absurd (omega (arith, h, g)) ] ]

not_below : (x : ℕ) → is_lt (nat_cmp x 0) ≡ false
not_below x = elim (cases_order x 0) [ inl e ↦ ap is_lt (subst (λ (m : ℕ). nat_cmp x m ≡ Equal) e (same x)) | inr o ↦ elim o [ inl l ↦ absurd (omega (arith, l)) | inr g ↦ ap is_lt (greater x 0 g) ] ]

le_by_key : (o p : Ordering) → is_le p ≡ true → is_le (ordering_then o p) ≡ is_le o
le_by_key Less p h = refl
le_by_key Equal p h = h
le_by_key Greater p h = refl

lt_by_key : (o p : Ordering) → is_lt p ≡ false → is_lt (ordering_then o p) ≡ is_lt o
lt_by_key Less p h = refl
lt_by_key Equal p h = h
lt_by_key Greater p h = refl

start_is : (n : ℕ) (b : Bound Bytes) (x : Stamp) → x.number ≤ n → is_from_start stamp_cmp (stamp_bound n 0 b) x ≡ is_from_start byte_order b x.key
start_is n (Included k) x h = le_by_key (byte_order k x.key) (nat_cmp x.number n) (at_most x.number n h)
start_is n (Excluded k) x h = lt_by_key (byte_order k x.key) (nat_cmp x.number 0) (not_below x.number)
start_is n Unbounded x h = refl

end_is : (n : ℕ) (b : Bound Bytes) (x : Stamp) → x.number ≤ n → is_past_end stamp_cmp (stamp_bound 0 n b) x ≡ is_past_end byte_order b x.key
end_is n (Included k) x h = lt_by_key (byte_order k x.key) (nat_cmp x.number 0) (not_below x.number)
end_is n (Excluded k) x h = le_by_key (byte_order k x.key) (nat_cmp x.number n) (at_most x.number n h)
end_is n Unbounded x h = refl

within_is : (n : ℕ) (range : KeyRange) (x : Stamp) → x.number ≤ n → range_contains stamp_cmp (stamp_bound n 0 range.0) (stamp_bound 0 n range.1) x ≡ is_within range x.key
within_is n range x h = λ i. start_is n range.0 x h i && not (end_is n range.1 x h i)

-- the versions between two bounds on stamps are those whose keys lie between the bounds on keys
pub range_is : (t : List ℕ) (range : KeyRange) (es : List (Stamp × Place)) → AllByRecursion (IsPlaced t) es
    → filter (λ e. range_contains stamp_cmp (start_of range) (end_of range) (stamp_of e)) (map (entry_at_place t) es) ≡ entries_within range (map (entry_at_place t) es)
range_is t range [] h = refl
range_is t range (x ∷ xs) h =
    let n = h.0.number in
    let test = within_is (2 ^ 64 - 1) range x.0 (omega (arith, n)) in
    let more = range_is t range xs h.1 in
    λ i. cond (test i) (entry_at_place t x ∷ more i) (more i)

-- ---- parts between bounds on stamps

pub part_is : (t : List ℕ) (start end : Bound Stamp) (es : List (Stamp × Place))
    → map (entry_at_place t) (entries_between stamp_cmp start end es) ≡ filter (λ e. range_contains stamp_cmp start end (stamp_of e)) (map (entry_at_place t) es)
part_is t start end es = sym (filter_of_map (λ e. range_contains stamp_cmp start end (stamp_of e)) (entry_at_place t) es)

pub ordered_part : (t : List ℕ) (start end : Bound Stamp) (es part : List (Stamp × Place)) → IsStrictlySortedBy stamp_cmp (keys_of es) → part ≡ entries_between stamp_cmp start end es → IsOrdered (map (entry_at_place t) part)
ordered_part t start end es part sorted is = subst (λ (p : List (Stamp × Place)). IsOrdered (map (entry_at_place t) p)) (sym is) (ordered_is t (entries_between stamp_cmp start end es) (sorted_filter (range_contains stamp_cmp start end) es sorted))

pub same_within : (p q : Bytes → Bool) → ((key : Bytes) → p key ≡ q key) → (es : List Entry) → filter (λ e. p e.key) es ≡ filter (λ e. q e.key) es
same_within p q h [] = refl
same_within p q h (e ∷ es) = λ i. cond (h e.key i) (e ∷ same_within p q h es i) (same_within p q h es i)
