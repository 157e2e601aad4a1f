-- What keys have in stores.
use Rattle.std.proofs.Common.{◌≡◌, ℕ, Bool, true, false, cond, List, [], ◌∷◌, length, ◌≢◌, ◌⊎◌, map, Option, Some, None, is_some, bytes_eq, refl, sym, ap, ◌∙◌, inl, inr, arith}
use Rattle.std.specs.List.{list_any}
use Rattle.std.specs.FinMap.{FinMap, contains_key, empty, entries, get, get-empty, get-insert, get-remove, get-retain_keys, get_tied, insert, len-empty, len-entries, nat_cmp-IsAntisymmetric, slice_cmp-IsAntisymmetric}
use Rattle.std.specs.Cmp.{nat_cmp_total}
use Rattle.std.specs.Cmp.Lexicographic.{nat_list_cmp_total}
use Rattle.std.specs.Option.{unwrap_or}
use Rattle.std.specs.Ordering.{nat_cmp, eq_by_cmp, is_eq}
use Rattle.std.specs.declared.cmp.Ordering.{Ordering}
use Rattle.std.specs.declared.cmp.Ordering.TheVariants.{Less, Equal, Greater}
use Rattle.std.proofs.lemmas.Cmp.{tied_itself}
use Rattle.fjall_base.specs.Pairs.{Bytes, Pairs, altered, byte_order, lookup}
use Rattle.fjall_base.specs.Store.{Store, Write, Create, Delete, apply, kept, map_at}
use Rattle.fjall_consistency.specs.Consistency.{has_name, is_living, no_store, one, value_at}

no_length : {A : Type 0} (es : List A) → length es ≡ 0 → es ≡ []
no_length [] e = refl
no_length (x ∷ es) e = absurd (omega arith)

-- no name is taken where there is no keyspace
pub no_name : (name : Bytes) → has_name no_store name ≡ false
no_name name = ap (λ (es : List (ℕ × Bytes)). list_any (λ other. bytes_eq other name) (map (λ e. e.1) es)) none
  where
    none : entries no_store.names ≡ []
    none = no_length _ (sym (len-entries no_store.names) ∙ len-empty nat_cmp Bytes)

key_itself : (key : Bytes) → eq_by_cmp byte_order key key ≡ true
key_itself key = ap is_eq (tied_itself nat_list_cmp_total key)

pub id_itself : (id : ℕ) → eq_by_cmp nat_cmp id id ≡ true
id_itself id = ap is_eq (tied_itself nat_cmp_total id)

-- two ids are one or apart
pub same_id : (i j : ℕ) → ((eq_by_cmp nat_cmp i j ≡ true) × (i ≡ j)) ⊎ (eq_by_cmp nat_cmp i j ≡ false)
same_id i j = by (nat_cmp i j) refl
  where
    by : (r : Ordering) → nat_cmp i j ≡ r → ((is_eq r ≡ true) × (i ≡ j)) ⊎ (is_eq r ≡ false)
    by Less e = inr refl
    by Equal e = inl (refl, nat_cmp-IsAntisymmetric i j e)
    by Greater e = inr refl

-- the map that a keyspace gets
map_of : (maps : FinMap nat_cmp Pairs) (id : ℕ) (pairs : Pairs) → map_at (insert maps id pairs) id ≡ pairs
map_of maps id pairs = ap (λ (p : Option Pairs). unwrap_or p empty) (get-insert nat_cmp_total maps id pairs id ∙ ap (λ (b : Bool). cond b (Some pairs) (get maps id)) (id_itself id))

-- a key has what was written to it, and else what it had
pub wrote : (s : Store) (id : ℕ) (key : Bytes) (value : Option Bytes) (other : Bytes)
    → value_at (apply s (Write (one id key value))) id other ≡ cond (eq_by_cmp byte_order other key) value (value_at s id other)
wrote s id key value other =
    ap (λ (pairs : Pairs). get pairs other) (map_of s.maps id (altered (map_at s.maps id) key value)) ∙ by value
  where
    by : (value : Option Bytes) → get (altered (map_at s.maps id) key value) other ≡ cond (eq_by_cmp byte_order other key) value (value_at s id other)
    by (Some value) = get-insert nat_list_cmp_total (map_at s.maps id) key value other
    by None = get-remove nat_list_cmp_total (map_at s.maps id) key other

-- so it has the value that was written
pub wrote_it : (s : Store) (id : ℕ) (key : Bytes) (value : Option Bytes) → value_at (apply s (Write (one id key value))) id key ≡ value
wrote_it s id key value = wrote s id key value key ∙ ap (λ (b : Bool). cond b value (value_at s id key)) (key_itself key)

-- and other keys have what they had
pub wrote_another : (s : Store) (id : ℕ) (key : Bytes) (value : Option Bytes) (other : Bytes) → other ≢ key → value_at (apply s (Write (one id key value))) id other ≡ value_at s id other
wrote_another s id key value other apart = wrote s id key value other ∙ by (byte_order other key) refl
  where
    by : (r : Ordering) → byte_order other key ≡ r → cond (is_eq r) value (value_at s id other) ≡ value_at s id other
    by Less e = refl
    by Equal e = absurd (apart (slice_cmp-IsAntisymmetric nat_cmp-IsAntisymmetric other key e))
    by Greater e = refl

-- a key that has a value has one after a write of a value
pub wrote_some : (s : Store) (id : ℕ) (key value other : Bytes) → is_some (value_at s id other) ≡ true → is_some (value_at (apply s (Write (one id key (Some value)))) id other) ≡ true
wrote_some s id key value other some = ap is_some (wrote s id key (Some value) other) ∙ by (eq_by_cmp byte_order other key)
  where
    by : (b : Bool) → is_some (cond b (Some value) (value_at s id other)) ≡ true
    by true = refl
    by false = some

-- ---- a keyspace

-- the store with one keyspace of this name
abbrev pub made : Bytes → Store
made name = apply no_store (Create name [])

-- none of its keys has a value
pub made_value : (name : Bytes) (id : ℕ) (key : Bytes) → value_at (made name) id key ≡ None
made_value name id key =
    ap (λ (p : Option Pairs). get (unwrap_or p empty) key) (get-insert nat_cmp_total no_store.maps 1 empty id ∙ ap (cond (eq_by_cmp nat_cmp id 1) (Some empty)) (get-empty nat_cmp id))
    ∙ by (eq_by_cmp nat_cmp id 1)
  where
    by : (b : Bool) → lookup (unwrap_or (cond b (Some empty) None) empty) key ≡ None
    by true = get-empty byte_order key
    by false = get-empty byte_order key

-- its id is 1
pub made_id : (name : Bytes) (id : ℕ) → get (made name).names id ≡ Some name → id ≡ 1
made_id name id e = by (nat_cmp id 1) refl (sym (get-insert nat_cmp_total no_store.names 1 name id) ∙ e)
  where
    none : get no_store.names id ≡ None
    none = get-empty nat_cmp id

    by : (r : Ordering) → nat_cmp id 1 ≡ r → cond (is_eq r) (Some name) (get no_store.names id) ≡ Some name → id ≡ 1
    by Less o h = cc none
    by Equal o h = nat_cmp-IsAntisymmetric id 1 o
    by Greater o h = cc none

-- ---- openings

kept_map : (s : Store) (id : ℕ) → get (kept s).maps id ≡ cond (is_living s id) (get s.maps id) None
kept_map s id = get-retain_keys s.maps (contains_key s.names) id (λ other e. ap is_some (get_tied nat_cmp_total s.names id other e))

-- a keyspace that lives has its values still
pub kept_value : (s : Store) (id : ℕ) (key : Bytes) → is_living s id ≡ true → value_at (kept s) id key ≡ value_at s id key
kept_value s id key living =
    ap (λ (p : Option Pairs). get (unwrap_or p empty) key) (kept_map s id ∙ ap (λ (b : Bool). cond b (get s.maps id) None) living)

-- one that doesn't has none
pub kept_none : (s : Store) (id : ℕ) (key : Bytes) → is_living s id ≡ false → value_at (kept s) id key ≡ None
kept_none s id key gone =
    ap (λ (p : Option Pairs). get (unwrap_or p empty) key) (kept_map s id ∙ ap (λ (b : Bool). cond b (get s.maps id) None) gone) ∙ get-empty byte_order key

-- a deleted one doesn't
pub deleted : (s : Store) (id : ℕ) → is_living (apply s (Delete id)) id ≡ false
deleted s id = ap is_some (get-remove nat_cmp_total s.names id id ∙ ap (λ (b : Bool). cond b None (get s.names id)) (id_itself id))
