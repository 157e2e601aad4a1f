-- What a write leaves at one key.
use Rattle.std.proofs.Common.{◌≡◌, ℕ, Bool, true, false, cond, ◌&&◌, List, [], ◌∷◌, All, Option, None, Some, unwrap_or, refl, sym, ◌∙◌, ap, arith}
use Rattle.std.proofs.lemmas.Bool.{true≢false, false_from_ne_true}
use Rattle.std.proofs.lemmas.Bool.Decides.{nat_tests}
use Rattle.std.proofs.lemmas.List.Elements.{All-head, All-tail}
use Rattle.std.specs.Ordering.{nat_cmp, eq_by_cmp, is_eq}
use Rattle.std.specs.declared.cmp.Ordering.{Ordering}
use Rattle.std.specs.declared.cmp.Ordering.TheVariants.{Less, Equal, Greater}
use Rattle.std.specs.Cmp.{nat_cmp_total}
use Rattle.std.specs.Cmp.Lexicographic.{nat_list_cmp_total}
use Rattle.std.specs.FinMap.{FinMap, empty, get, insert, get-insert, get-remove, nat_cmp-IsAntisymmetric, slice_cmp-IsAntisymmetric}
use Rattle.std.specs.FinSet as set
use Rattle.fjall_base.specs.Pairs.{Bytes, Pairs, altered, byte_order, lookup}
use Rattle.fjall_base.specs.Store.{Command, Item, Store, Write, apply, map_at, written}
use Rattle.fjall_tx.specs.Places.{Places, place}
use Rattle.fjall_history.specs.Checked.{WritesWithin}
use Rattle.fjall_history.specs.Serial.{value_at}

-- the item is on the key
abbrev is_on : ℕ → Bytes → Item → Bool
is_on id key item = eq_by_cmp nat_cmp id item.id && eq_by_cmp byte_order key item.key

abbrev value_in : FinMap nat_cmp Pairs → ℕ → Bytes → Option Bytes
value_in maps id key = lookup (map_at maps id) key

get_altered : (pairs : Pairs) (k : Bytes) (value : Option Bytes) (key : Bytes) → lookup (altered pairs k value) key ≡ cond (eq_by_cmp byte_order key k) value (lookup pairs key)
get_altered pairs k None key = get-remove nat_list_cmp_total pairs k key
get_altered pairs k (Some value) key = get-insert nat_list_cmp_total pairs k value key

one_item : (maps : FinMap nat_cmp Pairs) (item : Item) (id : ℕ) (key : Bytes) → value_in (insert maps item.id (altered (map_at maps item.id) item.key item.value)) id key ≡ cond (is_on id key item) item.value (value_in maps id key)
one_item maps item id key = ap (λ o. get (unwrap_or o empty) key) (get-insert nat_cmp_total maps item.id _ id) ∙ either (eq_by_cmp nat_cmp id item.id) refl
  where
    either : (b : Bool) → eq_by_cmp nat_cmp id item.id ≡ b → get (unwrap_or (cond (eq_by_cmp nat_cmp id item.id) (Some (altered (map_at maps item.id) item.key item.value)) (get maps id)) empty) key ≡ cond (is_on id key item) item.value (get (map_at maps id) key)
    either true e =
        let same : id ≡ item.id = grind (arith, nat_tests) in
        ap (λ b. get (unwrap_or (cond b (Some (altered (map_at maps item.id) item.key item.value)) (get maps id)) empty) key) e
        ∙ get_altered (map_at maps item.id) item.key item.value key
        ∙ ap (λ n. cond (eq_by_cmp byte_order key item.key) item.value (get (map_at maps n) key)) (sym same)
        ∙ ap (λ b. cond (b && eq_by_cmp byte_order key item.key) item.value (get (map_at maps id) key)) (sym e)
    either false e =
        ap (λ b. get (unwrap_or (cond b (Some (altered (map_at maps item.id) item.key item.value)) (get maps id)) empty) key) e
        ∙ ap (λ b. cond (b && eq_by_cmp byte_order key item.key) item.value (get (map_at maps id) key)) (sym e)

-- what a write leaves at a key depends on what was there alone
pub write_alike : (items : List Item) (m n : FinMap nat_cmp Pairs) (id : ℕ) (key : Bytes) → value_in m id key ≡ value_in n id key → value_in (written m items) id key ≡ value_in (written n items) id key
write_alike [] m n id key same = same
write_alike (item ∷ items) m n id key same = write_alike items _ _ id key (one_item m item id key ∙ ap (λ v. cond (is_on id key item) item.value v) same ∙ sym (one_item n item id key))

-- ---- a key that isn't among the places of a write

tied : (o : Ordering) → is_eq o ≡ true → o ≡ Equal
tied Less e = absurd (true≢false (sym e))
tied Equal e = refl
tied Greater e = absurd (true≢false (sym e))

both : (a b : Bool) → (a && b) ≡ true → (a ≡ true) × (b ≡ true)
both true b e = (refl, e)
both false b e = absurd (true≢false (sym e))

same_id : (i j : ℕ) → eq_by_cmp nat_cmp i j ≡ true → i ≡ j
same_id i j e = grind (arith, nat_tests)

on_place : (id : ℕ) (key : Bytes) (item : Item) → is_on id key item ≡ true → place item.id item.key ≡ place id key
on_place id key item on =
    let parts = both (eq_by_cmp nat_cmp id item.id) (eq_by_cmp byte_order key item.key) on in
    let same_key : key ≡ item.key = slice_cmp-IsAntisymmetric nat_cmp-IsAntisymmetric key item.key (tied (byte_order key item.key) parts.1) in
    λ i. place (sym (same_id id item.id parts.0) i) (sym same_key i)

abbrev AreWithin : List Item → Places → Type 0
AreWithin items places = All (λ item. set.contains places (place item.id item.key) ≡ true) items

write_apart : (items : List Item) (places : Places) → AreWithin items places → (m : FinMap nat_cmp Pairs) (id : ℕ) (key : Bytes) → (set.contains places (place id key) ≡ true → ⊥) → value_in (written m items) id key ≡ value_in m id key
write_apart [] places within m id key none = refl
write_apart (item ∷ items) places within m id key none =
    let off : is_on id key item ≡ false = false_from_ne_true (is_on id key item) (λ on.
    none (ap (set.contains places) (sym (on_place id key item on)) ∙ All-head (λ (x : Item). set.contains places (place x.id x.key) ≡ true) item items within)) in
    write_apart items places (All-tail (λ (x : Item). set.contains places (place x.id x.key) ≡ true) item items within) _ id key none
    ∙ one_item m item id key
    ∙ ap (λ b. cond b item.value (value_in m id key)) off

-- ---- the same of a transaction's command

pub command_alike : (command : Command) (places : Places) → WritesWithin command places → (s t : Store) (id : ℕ) (key : Bytes) → value_at s id key ≡ value_at t id key → value_at (apply s command) id key ≡ value_at (apply t command) id key
command_alike (Write items) places within s t id key same = write_alike items s.maps t.maps id key same
command_alike command places within s t id key same = absurd within

pub command_apart : (command : Command) (places : Places) → WritesWithin command places → (s : Store) (id : ℕ) (key : Bytes) → (set.contains places (place id key) ≡ true → ⊥) → value_at (apply s command) id key ≡ value_at s id key
command_apart (Write items) places within s id key none = write_apart items places within s.maps id key none
command_apart command places within s id key none = absurd within
