-- What the commit of an optimistic transaction marks as written: the keys that callers know it by.
use Rattle.std.proofs.Common.{◌≡◌, ◌⊎◌, inl, inr, ⊎_elim, ℕ, zero, suc, ◌<◌, Bool, true, false, cond, List, [], ◌∷◌, map, length, get_or, Some, refl, sym, ap, subst, ◌∙◌, arith}
use Rattle.std.specs.Prelude.{Contains, T}
use Rattle.std.specs.FinMap.{entries, entries_sorted, find, get, get-entries, is_sorted}
use Rattle.std.specs.FinSet as set
use Rattle.std.specs.Ordering.{eq_by_cmp, is_eq}
use Rattle.std.specs.declared.cmp.Ordering.{Ordering}
use Rattle.std.specs.declared.cmp.Ordering.TheVariants.{Equal}
use Rattle.std.proofs.lemmas.Cmp.{tied_itself}
use Rattle.std.proofs.lemmas.List.Elements.{All-contains}
use Rattle.fjall_base.specs.Pairs.{Bytes}
use Rattle.fjall_base.specs.Store.{Item}
use Rattle.fjall_journal.specs.Ops.{BatchItem, item_in}
use Rattle.fjall_journal.specs.declared.op.Op.{Op}
use Rattle.fjall_tx.specs.Marks.{Marks, with_write}
use Rattle.fjall_tx.specs.Owns.{Own, item_of, items_of, key_of, key_order}
use Rattle.fjall_tx.specs.Places.{place}
use Rattle.fjall_tx.specs.declared.key.Key.{Key}
use Rattle.fjall_tx.proofs.Growing.{writes_add_up}
use Rattle.fjall_tx.proofs.Keys.{key_tied, key_total}
use Rattle.fjall_tx.proofs.Merges.{first, is_tied, not_found, second, tied, tied_all}
use Rattle.fjall_calls.specs.Transactions.{marks_of_items}
use Rattle.fjall_calls.proofs.Items.{items_within}
use Rattle.fjall_consistency.proofs.Causes.{contains_map}
use Rattle.fjall_consistency.proofs.Going.{IsWritten, WroteThese}

-- ---- items of own writes

-- an item of sorted entries is what is found at its key
item_at : (es : List (Key × Op)) (id : ℕ) (key : Bytes) (op : Op) → T (is_sorted key_order es) → (k : ℕ) → k < length (map item_of es) → get_or (map item_of es) k (id, key, op) ≡ (id, key, op)
    → find key_order (key_of id key) es ≡ Some op
item_at [] id key op sorted k within is = absurd (omega (arith, within))
item_at (e ∷ es) id key op sorted zero within is =
    let here : key_order (key_of id key) e.0 ≡ Equal = subst (λ (k : Key). key_order k e.0 ≡ Equal) (λ i. key_of (is i).0 (is i).1) (tied_itself key_total e.0) in
    ap (λ (r : Ordering). cond (is_eq r) (Some e.1) (find key_order (key_of id key) es)) here ∙ (λ i. Some (is i).2)
item_at (e ∷ es) id key op sorted (suc k) within is =
    by (item_at es id key op (second _ _ sorted) k (omega (arith, within)) is) (eq_by_cmp key_order (key_of id key) e.0) refl
  where
    by : find key_order (key_of id key) es ≡ Some op → (b : Bool) → eq_by_cmp key_order (key_of id key) e.0 ≡ b → cond b (Some e.1) (find key_order (key_of id key) es) ≡ Some op
    by later true same =
        let above = tied_all key_order key_total (key_of id key) e.0 es (tied key_order key_total (key_of id key) e.0 (is_tied _ same)) (first _ _ sorted) in
        absurd (cc (sym (not_found key_order key_total (key_of id key) es above) ∙ later))
    by later false other = later

-- what is found at a key is an item
pub item_there : (es : List (Key × Op)) (id : ℕ) (key : Bytes) (op : Op) → find key_order (key_of id key) es ≡ Some op → Contains (map item_of es) (id, key, op)
item_there [] id key op is = absurd cc
item_there (e ∷ es) id key op is = by (item_there es id key op) (eq_by_cmp key_order (key_of id key) e.0) refl is
  where
    by : (find key_order (key_of id key) es ≡ Some op → Contains (map item_of es) (id, key, op)) → (b : Bool) → eq_by_cmp key_order (key_of id key) e.0 ≡ b
        → cond b (Some e.1) (find key_order (key_of id key) es) ≡ Some op → Contains (item_of e ∷ map item_of es) (id, key, op)
    by later true same at =
        let key_is : key_of id key ≡ e.0 = key_tied (key_of id key) e.0 (is_tied _ same) in
        let op_is : e.1 ≡ op = cc in
        (zero, omega arith, λ i. ((sym key_is i).keyspace_id, (sym key_is i).key, op_is i))
    by later false other at = let there = later at in (suc there.0, (let within = there.1 in omega (arith, within)), there.2)

-- each item of own writes is one of them
pub item_written : (own : Own) (item : BatchItem) → Contains (items_of own) item → get own (key_of item.0 item.1) ≡ Some item.2
item_written own item there = get-entries own (key_of item.0 item.1) ∙ item_at (entries own) item.0 item.1 item.2 (entries_sorted own) there.0 there.1 there.2

-- ---- marks of items

-- what is marked with items was marked before, or is the key of one
marked_by : (items : List BatchItem) (marks : Marks) (id : ℕ) (key : Bytes) → set.contains (marks_of_items marks items).writes (place id key) ≡ true
    → (set.contains marks.writes (place id key) ≡ true) ⊎ ((op : Op) × Contains items (id, key, op))
marked_by [] marks id key is = inl is
marked_by (item ∷ items) marks id key is =
    ⊎_elim (λ before. ⊎_elim (λ was. inl was) (λ same. inr (item.2, (0, omega arith, λ i. (sym same.0 i, sym same.1 i, item.2)))) ((writes_add_up marks item.0 id item.1 key).0 before))
    (λ has. inr (has.0, (suc has.1.0, (let within = has.1.1 in omega (arith, within)), has.1.2)))
    (marked_by items (with_write marks item.0 item.1) id key is)

-- what was marked stays marked
stays_marked : (items : List BatchItem) (marks : Marks) (id : ℕ) (key : Bytes) → set.contains marks.writes (place id key) ≡ true → set.contains (marks_of_items marks items).writes (place id key) ≡ true
stays_marked [] marks id key was = was
stays_marked (item ∷ items) marks id key was = stays_marked items (with_write marks item.0 item.1) id key ((writes_add_up marks item.0 id item.1 key).1 (inl was))

-- the key of an item is marked
item_marked : (items : List BatchItem) (marks : Marks) (item : BatchItem) → Contains items item → set.contains (marks_of_items marks items).writes (place item.0 item.1) ≡ true
item_marked items marks item there =
    All-contains (λ (one : Item). set.contains (marks_of_items marks items).writes (place one.id one.key) ≡ true) (map item_in items) (item_in item) (items_within items marks)
    (contains_map item_in items item there)

-- a commit marks the keys that are known to be written
pub marks_known : (marks : Marks) (own : Own) (writes : List (ℕ × Bytes)) → WroteThese marks own writes → (id : ℕ) (key : Bytes)
    → set.contains (marks_of_items marks (items_of own)).writes (place id key) ≡ true → Contains {X = ℕ × Bytes} writes (id, key)
marks_known marks own writes wrote id key is = wrote.listed id key (by (marked_by (items_of own) marks id key is))
  where
    by : (set.contains marks.writes (place id key) ≡ true) ⊎ ((op : Op) × Contains (items_of own) (id, key, op)) → IsWritten marks own id key
    by (inl was) = inl was
    by (inr has) = inr (has.0, item_written own (id, key, has.0) has.1)

-- and no others
pub known_marked : (marks : Marks) (own : Own) (writes : List (ℕ × Bytes)) → WroteThese marks own writes → (id : ℕ) (key : Bytes)
    → Contains {X = ℕ × Bytes} writes (id, key) → set.contains (marks_of_items marks (items_of own)).writes (place id key) ≡ true
known_marked marks own writes wrote id key has = by (wrote.written id key has)
  where
    by : IsWritten marks own id key → set.contains (marks_of_items marks (items_of own)).writes (place id key) ≡ true
    by (inl was) = stays_marked (items_of own) marks id key was
    by (inr is) = item_marked (items_of own) marks (id, key, is.0) (item_there (entries own) id key is.0 (sym (get-entries own (key_of id key)) ∙ is.1))
