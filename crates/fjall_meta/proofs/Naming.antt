-- The names and settings in a store are those of the living keyspaces.
use Rattle.std.proofs.Common.{◌≡◌, ◌≢◌, ℕ, ◌<◌, ◌==◌, ◌&&◌, ◌↔◌, Bool, true, false, List, [], ◌∷◌, map, find, length, All, Option, None, Some, refl, sym, ◌∙◌, ap, subst, arith}
use Rattle.std.proofs.lemmas.Bool.Decides.{nat_tests}
use Rattle.std.proofs.lemmas.Bool.{true≢false, false_from_ne_true}
use Rattle.std.proofs.lemmas.List.{length-map}
use Rattle.std.proofs.lemmas.List.Elements.{All-head, All-tail}
use Rattle.std.proofs.lemmas.Slice.Eq.{bytes_eq-Decides}
use Rattle.std.specs.Prelude.{T}
use Rattle.std.specs.declared.cmp.Ordering.TheVariants.{Less}
use Rattle.std.specs.Option.{option_map, is_some}
use Rattle.std.specs.Ordering.{nat_cmp, is_lt}
use Rattle.std.specs.Str.{bytes_eq}
use Rattle.std.specs.Cmp.{nat_cmp_total}
use Rattle.std.specs.FinMap.{entries, from_entries, from_sorted, get, contains_key, values, len, is_sorted, entries-from_sorted, get-from_sorted, get-from_entries, len-entries}
use Rattle.std.specs.FinMap.Entries.{below_all}
use Rattle.fjall_base.specs.Pairs.{Bytes}
use Rattle.fjall_meta.specs.declared.living.LivingKeyspace.{LivingKeyspace}
use Rattle.fjall_meta.specs.Keyspaces.{Keyspaces, AreKeyspaces, keyspace_at, id_of}
use Rattle.fjall_meta.proofs.Rising.{Rises, from_pairs}
use Rattle.fjall_meta.specs.Replays.{option_pairs, by_id, bare}
use Rattle.fjall_meta.specs.Versions.{Version, store_of}
use Rattle.fjall_meta.proofs.Slots.{SameButMaps, same_id, same_maps, writes_maps}
use Rattle.fjall_meta.proofs.LivingContents.{get_by_id}
use Rattle.fjall_meta.proofs.Keeping.{lives}
use Rattle.fjall_meta.proofs.Found.{same_some, found_passes, found_alone}

-- ---- versions leave names and settings

pub rest_is_bare : (s : Keyspaces) (versions : List Version) → SameButMaps (store_of s versions) (bare s)
rest_is_bare s versions = writes_maps versions (bare s)

pub living_names : (s : Keyspaces) (versions : List Version) (id : ℕ) → contains_key (store_of s versions).names id ≡ is_some (keyspace_at id s.living)
living_names s versions id = ap (λ n. contains_key n id) (rest_is_bare s versions).0 ∙ lives s id

pub settings : (s : Keyspaces) (versions : List Version) (id : ℕ) → get (store_of s versions).options id ≡ option_map (λ k. option_pairs k.options) (keyspace_at id s.living)
settings s versions id = ap (λ o. get o id) (rest_is_bare s versions).1 ∙ get_by_id (λ k. option_pairs k.options) s.living id

-- ---- in the ids' order

both : (a b : Bool) → T a → T b → T (a && b)
both true b p q = q
both false b p q = p

below : {X : Type 0} (has : LivingKeyspace → X) (id : ℕ) (living : List LivingKeyspace) → All (λ k. id < k.id) living → T (below_all nat_cmp id (map (λ (k : LivingKeyspace). (k.id, has k)) living))
below has id [] above = tt
below has id (k ∷ living) above =
    let lt : id < k.id = All-head (λ (j : LivingKeyspace). id < j.id) k living above in
    let less : nat_cmp id k.id ≡ Less = grind (arith, nat_tests) in
    both _ _ (subst (λ o. T (is_lt o)) (sym less) tt) (below has id living (All-tail (λ (j : LivingKeyspace). id < j.id) k living above))

sorted : {X : Type 0} (has : LivingKeyspace → X) (living : List LivingKeyspace) → Rises (λ j k. j.id < k.id) living → T (is_sorted nat_cmp (map (λ (k : LivingKeyspace). (k.id, has k)) living))
sorted has [] rise = tt
sorted has (k ∷ living) rise = both _ _ (below has k.id living rise.0) (sorted has living rise.1)

in_order : {X : Type 0} (has : LivingKeyspace → X) (living : List LivingKeyspace) → Rises (λ j k. j.id < k.id) living → entries (by_id has living) ≡ map (λ (k : LivingKeyspace). (k.id, has k)) living
in_order has living rise =
    let es = map (λ (k : LivingKeyspace). (k.id, has k)) living in
    let is = sorted has living rise in
    ap entries (same_maps (from_entries es) (from_sorted es) (λ q. get-from_entries nat_cmp_total es q ∙ sym (get-from_sorted nat_cmp es q is))) ∙ entries-from_sorted nat_cmp es is

seconds : {X : Type 0} (has : LivingKeyspace → X) (living : List LivingKeyspace) → map (λ (e : ℕ × X). e.1) (map (λ (k : LivingKeyspace). (k.id, has k)) living) ≡ map has living
seconds has [] = refl
seconds has (k ∷ living) = ap (λ l. has k ∷ l) (seconds has living)

pub names_listed : (s : Keyspaces) → AreKeyspaces s → values (bare s).names ≡ map (λ k. k.name) s.living
names_listed s all =
    let rise = from_pairs (λ (j : LivingKeyspace) (k : LivingKeyspace). j.id < k.id) s.living all.ascending in
    ap (map (λ (e : ℕ × Bytes). e.1)) (in_order (λ k. k.name) s.living rise) ∙ seconds (λ k. k.name) s.living

pub named_in_order : (s : Keyspaces) → AreKeyspaces s → entries (bare s).names ≡ map (λ k. (k.id, k.name)) s.living
named_in_order s all = in_order (λ k. k.name) s.living (from_pairs (λ (j : LivingKeyspace) (k : LivingKeyspace). j.id < k.id) s.living all.ascending)

pub names_counted : (s : Keyspaces) → AreKeyspaces s → len (bare s).names ≡ length s.living
names_counted s all =
    let rise = from_pairs (λ (j : LivingKeyspace) (k : LivingKeyspace). j.id < k.id) s.living all.ascending in
    len-entries (bare s).names ∙ ap length (in_order (λ k. k.name) s.living rise) ∙ length-map s.living (λ (k : LivingKeyspace). (k.id, k.name))

-- ---- the id of a name, and the name of an id

itself : (id : ℕ) → (id == id) ≡ true
itself id = grind (arith, nat_tests)

apart : (i j : ℕ) → i < j → (i == j) ≡ false
apart i j lt = grind (arith, nat_tests)

named_itself : (name : Bytes) → bytes_eq name name ≡ true
named_itself name = (bytes_eq-Decides name name).1 refl

names_apart : (a b : Bytes) → a ≢ b → bytes_eq a b ≡ false
names_apart a b other = false_from_ne_true (bytes_eq a b) (λ same. other ((bytes_eq-Decides a b).0 same))

-- where the search for a keyspace finds one that has this, it is this one
found_some : {X : Type 0} (has : LivingKeyspace → X) (found : Option LivingKeyspace) (x : X) → option_map has found ≡ Some x → (k : LivingKeyspace) × (found ≡ Some k) × (has k ≡ x)
found_some has None x e = absurd (true≢false (sym (ap is_some e)))
found_some has (Some k) x e = (k, refl, same_some (has k) x e)

module _ (s : Keyspaces) (all : AreKeyspaces s) where
  name_of_id : (id : ℕ) (name : Bytes) → id_of name s.living ≡ Some id → get (bare s).names id ≡ Some name
  name_of_id id name e =
      let found = found_some (λ k. k.id) (find (λ k. bytes_eq k.name name) s.living) id e in
      let k = found.0 in
      let alone = found_alone (λ k. bytes_eq k.name name) (λ x y. y.id == x.id) (λ x y. x.id < y.id) (λ x. itself x.id) (λ x y lt. apart x.id y.id lt)
      s.living k (from_pairs (λ (j : LivingKeyspace) (k : LivingKeyspace). j.id < k.id) s.living all.ascending) found.1 in
      let named : k.name ≡ name = (bytes_eq-Decides k.name name).0 (found_passes (λ k. bytes_eq k.name name) s.living k found.1) in
      get_by_id (λ k. k.name) s.living id ∙ ap (λ i. option_map (λ (k : LivingKeyspace). k.name) (keyspace_at i s.living)) (sym found.2)
      ∙ ap (option_map (λ (k : LivingKeyspace). k.name)) alone ∙ ap Some named

  id_of_name : (id : ℕ) (name : Bytes) → get (bare s).names id ≡ Some name → id_of name s.living ≡ Some id
  id_of_name id name e =
      let found = found_some (λ k. k.name) (keyspace_at id s.living) name (sym (get_by_id (λ k. k.name) s.living id) ∙ e) in
      let k = found.0 in
      let alone = found_alone (λ k. k.id == id) (λ x y. bytes_eq y.name x.name) (λ x y. x.name ≢ y.name) (λ x. named_itself x.name) (λ x y other. names_apart x.name y.name other)
      s.living k (from_pairs (λ (j : LivingKeyspace) (k : LivingKeyspace). j.name ≢ k.name) s.living all.distinct) found.1 in
      let here : k.id ≡ id = same_id k.id id (found_passes (λ k. k.id == id) s.living k found.1) in
      ap (λ n. id_of n s.living) (sym found.2) ∙ ap (option_map (λ (k : LivingKeyspace). k.id)) alone ∙ ap Some here

  pub names_answer : (versions : List Version) (id : ℕ) (name : Bytes) → (id_of name s.living ≡ Some id) ↔ (get (store_of s versions).names id ≡ Some name)
  names_answer versions id name =
      let same = ap (λ n. get n id) (rest_is_bare s versions).0 in
      (λ e. same ∙ name_of_id id name e, λ e. id_of_name id name (sym same ∙ e))
