-- What a page makes of all versions between bounds are the view's pairs between them.
use Rattle.std.proofs.Common.{◌≡◌, ℕ, Bool, true, false, cond, ltb, List, [], ◌∷◌, reverse, Option, Some, None, refl, sym, ap, ◌∙◌}
use Rattle.std.specs.List.{filter}
use Rattle.std.specs.Str.{bytes_eq}
use Rattle.std.specs.Prelude.{T}
use Rattle.std.specs.FinMap.{IsAntisymmetric, is_sorted, entries, retain_keys, from_sorted, get-retain_keys, get-from_sorted, entries-from_sorted, same_map, slice_cmp-IsAntisymmetric, nat_cmp-IsAntisymmetric}
use Rattle.std.proofs.lemmas.Bool.{and_parts}
use Rattle.std.proofs.lemmas.Cmp.{nat_list_cmp_total}
use Rattle.fjall_base.specs.Pairs.{Bytes, KeyRange, Pairs, byte_order, is_within, lookup, pairs_between}
use Rattle.fjall_table.specs.Blocks.{Entry}
use Rattle.fjall_table.specs.Tables.{entries_within}
use Rattle.fjall_memtable.specs.Jobs.{OnceEach}
use Rattle.fjall_memtable.specs.Views.{IsView, is_seen, later, newest, value_left}
use Rattle.fjall_memtable.proofs.Sameness.{same_key, same_newest}
use Rattle.fjall_memtable.proofs.Shown.{value_shown}
use Rattle.fjall_memtable.specs.SortedPages.{barrier, pairs_back, pairs_of}
use Rattle.fjall_memtable.specs.Sorted.{sorted}
use Rattle.fjall_memtable.proofs.Barriers.{barrier_stands}
use Rattle.fjall_memtable.proofs.Paging.{value_within, pairs_sorted, find_pairs}
use Rattle.fjall_memtable.proofs.PagingBack.{backwards}
use Rattle.fjall_memtable.proofs.SortedOrders.{filter_chain}
use Rattle.fjall_memtable.proofs.Sorting.{IsChain, sorted_chain, sorted_same}

-- ---- one key

-- the bound leaves of a value what the clears leave
left_within : (instant : ℕ) (clears : List ℕ) (o : Option Entry) → value_left instant clears o ≡ value_within (barrier instant clears) o
left_within instant clears None = refl
left_within instant clears (Some v) = ap (λ b. cond b None v.value) (barrier_stands instant clears v.number)

-- bounds on keys leave all versions of a key or none
newest_within : (test : Bytes → Bool) (key : Bytes) (instant : ℕ) (vs : List Entry)
    → newest key instant (filter (λ v. test v.key) vs) ≡ cond (test key) (newest key instant vs) None
newest_within test key instant [] = by (test key)
  where
    by : (b : Bool) → ◌≡◌ {A = Option Entry} None (cond b None None)
    by true = refl
    by false = refl
newest_within test key instant (v ∷ vs) = by (is_seen key instant v) refl (test v.key) refl (newest_within test key instant vs)
  where
    kept : List Entry
    kept = filter (λ v. test v.key) vs

    tested : is_seen key instant v ≡ true → test v.key ≡ test key
    tested e = ap test (same_key v.key key (and_parts (bytes_eq v.key key) (ltb v.number instant) e).0)

    one : (b : Bool) → newest key instant kept ≡ cond b (newest key instant vs) None → b ≡ true
        → later (Some v) (newest key instant kept) ≡ cond b (later (Some v) (newest key instant vs)) None
    one true more e = ap (later (Some v)) more
    one false more e = cc

    none : (b : Bool) → newest key instant kept ≡ cond b (newest key instant vs) None → b ≡ false
        → newest key instant kept ≡ cond b (later (Some v) (newest key instant vs)) None
    none true more e = cc
    none false more e = more

    by : (s : Bool) → is_seen key instant v ≡ s → (t : Bool) → test v.key ≡ t → newest key instant kept ≡ cond (test key) (newest key instant vs) None
        → newest key instant (cond t (v ∷ kept) kept) ≡ cond (test key) (later (cond s (Some v) None) (newest key instant vs)) None
    by true e true f more = rw e (one (test key) more (sym (tested e) ∙ f))
    by true e false f more = none (test key) more (sym (tested e) ∙ f)
    by false e true f more = rw e more
    by false e false f more = more

-- ---- all keys

-- From the start.
pub forward : (instant : ℕ) (clears : List ℕ) (range : KeyRange) (versions : List Entry) (pairs : Pairs) → OnceEach versions
    → IsView instant clears versions pairs
    → pairs_of instant (barrier instant clears) None (entries_within range (sorted versions)) ≡ pairs_between range pairs
forward instant clears range versions pairs once view =
    sym (entries-from_sorted byte_order made rises)
    ∙ ap entries (same_map nat_list_cmp_total tied (from_sorted made) (retain_keys pairs (is_within range)) (λ key. at_key key))
  where
    made : List (Bytes × Bytes)
    made = pairs_of instant (barrier instant clears) None (entries_within range (sorted versions))

    tied : IsAntisymmetric byte_order
    tied = slice_cmp-IsAntisymmetric nat_cmp-IsAntisymmetric

    chain : IsChain (entries_within range (sorted versions))
    chain = filter_chain (λ v. is_within range v.key) (sorted versions) (sorted_chain versions)

    rises : T (is_sorted byte_order made)
    rises = pairs_sorted instant (barrier instant clears) None (entries_within range (sorted versions)) chain

    shown : (key : Bytes) → value_within (barrier instant clears) (newest key instant (sorted versions)) ≡ lookup pairs key
    shown key = ap (value_within (barrier instant clears)) (same_newest key instant (sorted versions) versions once (sorted_same versions once))
        ∙ sym (view key ∙ value_shown key instant clears versions ∙ left_within instant clears (newest key instant versions))

    inside : (key : Bytes) (b : Bool)
        → value_within (barrier instant clears) (cond b (newest key instant (sorted versions)) None) ≡ cond b (lookup pairs key) None
    inside key true = shown key
    inside key false = refl

    at_key : (key : Bytes) → lookup (from_sorted made) key ≡ lookup (retain_keys pairs (is_within range)) key
    at_key key =
        get-from_sorted byte_order made key rises
        ∙ find_pairs key instant (barrier instant clears) None (entries_within range (sorted versions)) chain tt
        ∙ ap (value_within (barrier instant clears)) (newest_within (is_within range) key instant (sorted versions))
        ∙ inside key (is_within range key)
        ∙ sym (get-retain_keys pairs (is_within range) key (λ x e. ap (is_within range) (sym (tied key x e))))

-- From behind.
pub back : (instant : ℕ) (clears : List ℕ) (range : KeyRange) (versions : List Entry) (pairs : Pairs) → OnceEach versions
    → IsView instant clears versions pairs
    → pairs_back instant (barrier instant clears) None (reverse (entries_within range (sorted versions))) ≡ reverse (pairs_between range pairs)
back instant clears range versions pairs once view =
    backwards instant (barrier instant clears) (entries_within range (sorted versions))
    (filter_chain (λ v. is_within range v.key) (sorted versions) (sorted_chain versions))
    ∙ ap reverse (forward instant clears range versions pairs once view)
