-- What is written is lawful, where nothing refuses it.
use Rattle.std.proofs.Common.{◌≡◌, ◌≢◌, ℕ, ◌<◌, ◌^◌, true, List, [], length, map, Contains, sym, ◌∙◌}
use Rattle.std.proofs.lemmas.List.Elements.{All-contains, All-contains_itself, All-weaker}
use Rattle.std.specs.FinMap.{entries, get-entries}
use Rattle.fjall_base.specs.Pairs.{Bytes}
use Rattle.fjall_base.specs.Store.{Item, Store}
use Rattle.fjall_journal.specs.Ops.{BatchItem, item_in}
use Rattle.fjall_tx.specs.Owns.{Own, items_of, key_of}
use Rattle.fjall_consistency.specs.Consistency.{AreLawful, is_living}
use Rattle.fjall_consistency.proofs.Alike.{IsOwn}
use Rattle.fjall_consistency.proofs.Causes.{contains_map}
use Rattle.fjall_consistency.proofs.Marking.{item_there}
-- the items of a change
pub use Rattle.fjall_consistency.proofs.Causes.{change_lawful}

-- an item of this keyspace and key is lawful
abbrev IsLawful : Store → ℕ → Bytes → Type 0
IsLawful e id key = (is_living e id ≡ true) × (key ≢ []) × (length key < 2 ^ 16)

-- what a transaction wrote, where what is left of it in a map is lawful
pub own_lawful : (e : Store) (own : Own) (items : List Item) → IsOwn own items → AreLawful e (map item_in (items_of own)) → AreLawful e items
own_lawful e own items is lawful = All-weaker (Contains items) (λ (item : Item). IsLawful e item.id item.key) each items (All-contains_itself items)
  where
    each : (item : Item) → Contains items item → IsLawful e item.id item.key
    each item there =
        let found = is.found item.id item.key (contains_map (λ (i : Item). (i.id, i.key)) items item there) in
        let left : BatchItem = (item.id, item.key, found.0) in
        let among = item_there (entries own) item.id item.key found.0 (sym (get-entries own (key_of item.id item.key)) ∙ found.1) in
        All-contains (λ (i : Item). IsLawful e i.id i.key) (map item_in (items_of own)) (item_in left) lawful (contains_map item_in (items_of own) left among)
