-- What a transaction's own writes do to an index is what the items do that it wrote.
use Rattle.std.proofs.Common.{◌≡◌, ℕ, Bool, true, false, cond, List, [], ◌∷◌, map, Option, Some, refl, sym, ◌∙◌, ap, subst}
use Rattle.std.specs.Prelude.{◌↔◌, All, Contains, slice_index_or}
use Rattle.std.specs.Ordering.{eq_by_cmp, is_eq, nat_cmp}
use Rattle.std.specs.Cmp.{tied_itself}
use Rattle.std.specs.FinMap.{FinMap, empty, entries, get, get-empty, get-insert, insert, len-empty, len-entries}
use Rattle.std.proofs.lemmas.List.{nil_from_length}
use Rattle.std.proofs.lemmas.List.Elements.{All-cons, All-contains, All-head, All-map, All-nil, All-tail, Contains-get_or}
use Rattle.std.proofs.lemmas.Option.{none-some}
use Rattle.fjall_base.specs.Pairs.{Bytes, Pairs, lookup}
use Rattle.fjall_base.specs.Store.{Item, map_at, written}
use Rattle.fjall_journal.specs.Ops.{BatchItem, item_in}
use Rattle.fjall_journal.specs.declared.op.Op.{Op}
use Rattle.fjall_tx.specs.declared.key.Key.{Key}
use Rattle.fjall_tx.specs.Marks.{IsCovered, Mark}
use Rattle.fjall_tx.specs.Owns.{Own, item_of, items_of, key_of, key_order, own_written, with_writes}
use Rattle.fjall_tx.proofs.Keys.{key_tied, key_total}
use Rattle.fjall_tx.proofs.Merges.{is_tied}
use Rattle.fjall_index_entries.specs.Index.{FieldOf, index_of}
use Rattle.fjall_index_entries.specs.Keeping.{AreRead, KeepsIndex}

-- ---- the keys of own writes

-- something was written to this key
abbrev HasKey : Own → Key → Type 0
HasKey own k = (op : Op) × (get own k ≡ Some op)

here : (own : Own) (w : Key) (op : Op) → HasKey (insert own w op) w
here own w op = (op, get-insert key_total own w op w ∙ ap (λ b. cond b (Some op) (get own w)) (ap is_eq (tied_itself key_total w)))

goes_on : (own : Own) (w : Key) (op : Op) (k : Key) → HasKey own k → HasKey (insert own w op) k
goes_on own w op k (had, is) = by (eq_by_cmp key_order k w) refl
  where
    by : (b : Bool) → eq_by_cmp key_order k w ≡ b → HasKey (insert own w op) k
    by true e = (op, get-insert key_total own w op k ∙ ap (λ b. cond b (Some op) (get own k)) e)
    by false e = (had, get-insert key_total own w op k ∙ ap (λ b. cond b (Some op) (get own k)) e ∙ is)

stays : (items : List BatchItem) (own : Own) (k : Key) → HasKey own k → HasKey (with_writes own items) k
stays [] own k has = has
stays (item ∷ items) own k has = stays items (insert own (key_of item.0 item.1) item.2) k (goes_on own (key_of item.0 item.1) item.2 k has)

-- each item's key was written
each_has : (items : List BatchItem) (own : Own) → All (λ item. HasKey (with_writes own items) (key_of item.0 item.1)) items
each_has [] own = All-nil (λ (item : BatchItem). HasKey own (key_of item.0 item.1))
each_has (item ∷ items) own =
    let next = insert own (key_of item.0 item.1) item.2 in
    All-cons (λ (one : BatchItem). HasKey (with_writes next items) (key_of one.0 one.1)) item items
    (stays items next (key_of item.0 item.1) (here own (key_of item.0 item.1) item.2))
    (each_has items next)

one_more : (P : Key → Type 0) (own : Own) (w : Key) (op : Op) → P w → ((k : Key) → HasKey own k → P k) → (q : Key) → HasKey (insert own w op) q → P q
one_more P own w op holds had q (found, is) = by (eq_by_cmp key_order q w) refl
  where
    by : (b : Bool) → eq_by_cmp key_order q w ≡ b → P q
    by true e = subst P (sym (key_tied q w (is_tied (key_order q w) e))) holds
    by false e = had q (found, sym (get-insert key_total own w op q ∙ ap (λ b. cond b (Some op) (get own q)) e) ∙ is)

-- and no other key was
no_other : (P : Key → Type 0) (items : List BatchItem) (own : Own) → All (λ item. P (key_of item.0 item.1)) items → ((k : Key) → HasKey own k → P k) → (k : Key) → HasKey (with_writes own items) k → P k
no_other P [] own all had k has = had k has
no_other P (item ∷ items) own all had k has =
    let holds = All-head (λ (one : BatchItem). P (key_of one.0 one.1)) item items all in
    no_other P items (insert own (key_of item.0 item.1) item.2) (All-tail (λ (one : BatchItem). P (key_of one.0 one.1)) item items all)
    (one_more P own (key_of item.0 item.1) item.2 holds had) k has

none_had : (P : Key → Type 0) (k : Key) → HasKey empty k → P k
none_had P k (op, is) = absurd (none-some op (sym (get-empty key_order k) ∙ is))

-- ---- items

unmapped : {X Y : Type 0} (P : X → Type 0) (f : Y → X) (ys : List Y) → All P (map f ys) → All (λ y. P (f y)) ys
unmapped P f [] all = All-nil (λ y. P (f y))
unmapped P f (y ∷ ys) all = All-cons (λ y. P (f y)) y ys (All-head P (f y) (map f ys) all) (unmapped P f ys (All-tail P (f y) (map f ys) all))

-- a transaction's items are its own writes
abbrev AreOwn : Type 0
AreOwn = (own : Own) (id : ℕ) (key : Bytes) (op : Op) → Contains (items_of own) (id, key, op) ↔ (get own (key_of id key) ≡ Some op)

-- and what it sees with its own writes is what it sees with such items behind the others
abbrev AreSeenAs : Type 0
AreSeenAs = (own : Own) (maps : FinMap nat_cmp Pairs) (items : List BatchItem) (j : ℕ) → map_at (own_written maps (with_writes own items)) j ≡ map_at (written (own_written maps own) (map item_in items)) j

nothing_written : items_of empty ≡ []
nothing_written = ap (map item_of) (nil_from_length (entries (empty {X = Op} {R = key_order})) (sym (len-entries (empty {X = Op} {R = key_order})) ∙ len-empty key_order Op))

-- what is read for items is read for the own writes that they make
pub own_reads : AreOwn → (items : List BatchItem) (main : ℕ) (reads : List Mark) → AreRead (map item_in items) main reads → AreRead (map item_in (items_of (with_writes empty items))) main reads
own_reads owns items main reads all = All-map IsRead item_in (items_of own) each
  where
    own : Own
    own = with_writes empty items

    IsRead : Item → Type 0
    IsRead one = one.id ≡ main → IsCovered reads main one.key

    IsReadAt : Key → Type 0
    IsReadAt k = k.keyspace_id ≡ main → IsCovered reads main k.key

    each : All (λ item. IsRead (item_in item)) (items_of own)
    each k d lt =
        let one = slice_index_or (items_of own) k d in
        no_other IsReadAt items empty (unmapped IsRead item_in items all) (none_had IsReadAt) (key_of one.0 one.1)
        (one.2, (owns own one.0 one.1 one.2).0 (Contains-get_or (items_of own) k d lt))

-- where items keep the index, the own writes do that they make
pub own_keeps : AreOwn → AreSeenAs → (field : FieldOf) (main index : ℕ) (items : List BatchItem) (seen : Bytes → Option Bytes) → KeepsIndex field main index (map item_in items) seen
    → KeepsIndex field main index (map item_in (items_of (with_writes empty items))) seen
own_keeps owns alike field main index items seen keeps maps all indexed =
    as_items index ∙ keeps maps (All-map IsSeen item_in items each) indexed ∙ ap (index_of field) (sym (as_items main))
  where
    as_items : (j : ℕ) → map_at (written maps (map item_in (items_of (with_writes empty items)))) j ≡ map_at (written maps (map item_in items)) j
    as_items j = alike empty maps items j ∙ ap (λ (l : List BatchItem). map_at (written (written maps (map item_in l)) (map item_in items)) j) nothing_written

    own : Own
    own = with_writes empty items

    IsSeen : Item → Type 0
    IsSeen one = one.id ≡ main → lookup (map_at maps main) one.key ≡ seen one.key

    each : All (λ item. IsSeen (item_in item)) items
    each k d lt =
        let one = slice_index_or items k d in
        let has = each_has items empty k d lt in
        All-contains (λ (item : BatchItem). IsSeen (item_in item)) (items_of own) (one.0, one.1, has.0) (unmapped IsSeen item_in (items_of own) all)
        ((owns own one.0 one.1 has.0).1 has.1)
