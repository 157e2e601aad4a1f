-- Entries as the items of a batch.
use Rattle.std.proofs.Common.{◌≡◌, ℕ, zero, suc, ◌<◌, Bool, true, false, cond, List, [], ◌∷◌, map, length, get_or, Some, refl, sym, ap, subst, ◌∙◌, arith}
use Rattle.std.specs.Prelude.{T, All, AllPairs, Contains}
use Rattle.std.specs.FinMap.{find, is_sorted}
use Rattle.std.specs.FinMap.Entries.{below_all}
use Rattle.std.specs.Ordering.{eq_by_cmp, is_eq}
use Rattle.std.specs.declared.cmp.Ordering.{Ordering}
use Rattle.std.specs.declared.cmp.Ordering.TheVariants.{Less, Equal}
use Rattle.std.proofs.lemmas.Cmp.{tied_itself}
use Rattle.std.proofs.lemmas.List.Elements.{All-cons}
use Rattle.std.proofs.lemmas.List.Kept.{AllPairs-cons}
use Rattle.fjall_base.specs.Pairs.{Bytes}
use Rattle.fjall_journal.specs.Ops.{BatchItem}
use Rattle.fjall_journal.specs.declared.op.Op.{Op}
use Rattle.fjall_tx.specs.declared.key.Key.{Key}
use Rattle.fjall_tx.specs.Owns.{item_of, key_of, key_order}
use Rattle.fjall_tx.proofs.Keys.{key_tied, key_total}
use Rattle.fjall_tx.proofs.Merges.{first, is_tied, less, not_found, second, tied, tied_all}

-- an item's key is below another's
abbrev pub IsBelow : BatchItem → BatchItem → Type 0
IsBelow a b = key_order (key_of a.0 a.1) (key_of b.0 b.1) ≡ Less

all_below : (x : Key × Op) (es : List (Key × Op)) → T (below_all key_order x.0 es) → All (IsBelow (item_of x)) (map item_of es)
all_below x [] h = λ i d l. absurd (omega (arith, l))
all_below x (e ∷ es) h = All-cons (IsBelow (item_of x)) (item_of e) (map item_of es) (less _ (first _ _ h)) (all_below x es (second _ _ h))

-- they ascend
pub items_ascend : (es : List (Key × Op)) → T (is_sorted key_order es) → AllPairs IsBelow (map item_of es)
items_ascend [] s = λ i j d l m. absurd (omega (arith, m))
items_ascend (e ∷ es) s = AllPairs-cons IsBelow (item_of e) (map item_of es) (all_below e es (first _ _ s)) (items_ascend es (second _ _ s))

-- an item is what is found at its key
pub found_item : (id : ℕ) (key : Bytes) (op : Op) (es : List (Key × Op)) → T (is_sorted key_order es) → (k : ℕ) → k < length (map item_of es) → get_or (map item_of es) k (id, key, op) ≡ (id, key, op) → find key_order (key_of id key) es ≡ Some op
found_item id key op [] s k l is = absurd (omega (arith, l))
found_item id key op (e ∷ es) s zero l is =
    let at : key_order (key_of id key) e.0 ≡ Equal = subst (λ (k : Key). key_order k e.0 ≡ Equal) (λ i. key_of (is i).0 (is i).1) (tied_itself key_total e.0) in
    ap (λ (r : Ordering). cond (is_eq r) (Some e.1) (find key_order (key_of id key) es)) at ∙ (λ i. Some (is i).2)
found_item id key op (e ∷ es) s (suc k) l is = by (found_item id key op es (second _ _ s) k (omega (arith, l)) is) (eq_by_cmp key_order (key_of id key) e.0) refl
  where
    by : find key_order (key_of id key) es ≡ Some op → (b : Bool) → eq_by_cmp key_order (key_of id key) e.0 ≡ b → cond b (Some e.1) (find key_order (key_of id key) es) ≡ Some op
    by more true t =
        let none = not_found key_order key_total (key_of id key) es (tied_all key_order key_total (key_of id key) e.0 es (tied key_order key_total (key_of id key) e.0 (is_tied _ t)) (first _ _ s)) in
        absurd (cc (sym none ∙ more))
    by more false t = more

pub item_found : (id : ℕ) (key : Bytes) (op : Op) (es : List (Key × Op)) → find key_order (key_of id key) es ≡ Some op → Contains (map item_of es) (id, key, op)
item_found id key op [] is = absurd cc
item_found id key op (e ∷ es) is = by (item_found id key op es) (eq_by_cmp key_order (key_of id key) e.0) refl is
  where
    by : (find key_order (key_of id key) es ≡ Some op → Contains (map item_of es) (id, key, op)) → (b : Bool) → eq_by_cmp key_order (key_of id key) e.0 ≡ b → cond b (Some e.1) (find key_order (key_of id key) es) ≡ Some op
        → Contains (item_of e ∷ map item_of es) (id, key, op)
    by more true t at =
        let same : key_of id key ≡ e.0 = key_tied (key_of id key) e.0 (is_tied _ t) in
        let op_is : e.1 ≡ op = cc in
        (zero, omega arith, λ i. ((sym same i).keyspace_id, (sym same i).key, op_is i))
    by more false t at = let m = more at in (suc m.0, (let l = m.1 in omega (arith, l)), m.2)
