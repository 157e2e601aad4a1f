-- One more own write is one more item behind the others, and so are many.
use Rattle.std.proofs.Common.{◌≡◌, ℕ, Bool, true, false, cond, List, [], ◌∷◌, map, Option, Some, unwrap_or, refl, sym, ◌∙◌, ap}
use Rattle.std.specs.Ordering.{eq_by_cmp, nat_cmp}
use Rattle.std.specs.Cmp.{nat_cmp_total}
use Rattle.std.specs.Cmp.Lexicographic.{nat_list_cmp_total}
use Rattle.std.specs.FinMap.{FinMap, empty, get, get-insert, insert, same_map}
use Rattle.fjall_base.specs.Pairs.{Bytes, Pairs, altered}
use Rattle.fjall_base.specs.Store.{Item, map_at, written}
use Rattle.fjall_journal.specs.Ops.{BatchItem, item_in, value_in}
use Rattle.fjall_journal.specs.declared.op.Op.{Op}
use Rattle.fjall_tx.specs.Owns.{Own, key_of, key_order, own_written, with_writes}
use Rattle.fjall_tx.proofs.Keys.{byte_tied, key_total}
use Rattle.fjall_tx.proofs.Layers.{one_get, own_get}
use Rattle.fjall_tx.proofs.Merges.{chosen}

chosen_cond : (b : Bool) (op : Op) (f : Option Op) (v : Option Bytes) → chosen value_in (cond b (Some op) f) v ≡ cond b (value_in op) (chosen value_in f v)
chosen_cond true op f v = refl
chosen_cond false op f v = refl

-- the maps with one more own write are those with the others and behind them its item
pub one_grown : (own : Own) (maps : FinMap nat_cmp Pairs) (id : ℕ) (key : Bytes) (op : Op) (j : ℕ)
    → map_at (own_written maps (insert own (key_of id key) op)) j ≡ map_at (written (own_written maps own) (item_in (id, key, op) ∷ [])) j
one_grown own maps id key op j = same_map nat_list_cmp_total byte_tied _ _ (λ q.
    own_get (insert own (key_of id key) op) maps j q
    ∙ ap (λ (f : Option Op). chosen value_in f (get (map_at maps j) q)) (get-insert key_total own (key_of id key) op (key_of j q))
    ∙ chosen_cond (eq_by_cmp key_order (key_of j q) (key_of id key)) op (get own (key_of j q)) (get (map_at maps j) q)
    ∙ ap (cond (eq_by_cmp key_order (key_of j q) (key_of id key)) (value_in op)) (sym (own_get own maps j q))
    ∙ sym (one_get (own_written maps own) id key (value_in op) j q))

-- maps that have the same of each keyspace
abbrev AreAlike : FinMap nat_cmp Pairs → FinMap nat_cmp Pairs → Type 0
AreAlike m n = (j : ℕ) → map_at m j ≡ map_at n j

-- have the same still once an item was written in both
item_alike : (m n : FinMap nat_cmp Pairs) (item : Item) → AreAlike m n → AreAlike (written m (item ∷ [])) (written n (item ∷ []))
item_alike m n item same j =
    ap (λ (o : Option Pairs). unwrap_or o empty) (get-insert nat_cmp_total m item.id (altered (map_at m item.id) item.key item.value) j)
    ∙ by (eq_by_cmp nat_cmp j item.id)
    ∙ sym (ap (λ (o : Option Pairs). unwrap_or o empty) (get-insert nat_cmp_total n item.id (altered (map_at n item.id) item.key item.value) j))
  where
    by : (b : Bool) → unwrap_or (cond b (Some (altered (map_at m item.id) item.key item.value)) (get m j)) empty ≡ unwrap_or (cond b (Some (altered (map_at n item.id) item.key item.value)) (get n j)) empty
    by true = ap (λ (p : Pairs). altered p item.key item.value) (same item.id)
    by false = same j

items_alike : (items : List Item) (m n : FinMap nat_cmp Pairs) → AreAlike m n → AreAlike (written m items) (written n items)
items_alike [] m n same = same
items_alike (item ∷ items) m n same = items_alike items (written m (item ∷ [])) (written n (item ∷ [])) (item_alike m n item same)

-- so are many, one behind another
pub many_grown : (items : List BatchItem) (own : Own) (maps : FinMap nat_cmp Pairs) → AreAlike (own_written maps (with_writes own items)) (written (own_written maps own) (map item_in items))
many_grown [] own maps j = refl
many_grown (item ∷ items) own maps j =
    many_grown items (insert own (key_of item.0 item.1) item.2) maps j
    ∙ items_alike (map item_in items) (own_written maps (insert own (key_of item.0 item.1) item.2)) (written (own_written maps own) (item_in item ∷ [])) (one_grown own maps item.0 item.1 item.2) j
