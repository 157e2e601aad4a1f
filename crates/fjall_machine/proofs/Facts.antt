-- What the store of trees tells of ids and names is what the keyspaces tell.
use Rattle.std.proofs.Common.{◌≡◌, ℕ, ◌<◌, ◌==◌, ◌||◌, nat_le, Bool, true, false, cond, List, [], ◌∷◌, length, map, find, Option, None, Some, refl, sym, ap, ◌∙◌, subst}
use Rattle.std.proofs.lemmas.Bool.{true≢false}
use Rattle.std.specs.FinMap.{len, values}
use Rattle.std.specs.List.{list_any}
use Rattle.std.specs.Option.{is_some, option_map}
use Rattle.std.specs.Str.{bytes_eq}
use Rattle.fjall_base.specs.Pairs.{Bytes}
use Rattle.fjall_meta.specs.declared.living.LivingKeyspace.{LivingKeyspace}
use Rattle.fjall_meta.specs.Keyspaces.{AreKeyspaces, Keyspaces, id_of, keyspace_at}
use Rattle.fjall_trees.specs.Forests.{Forest}
use Rattle.fjall_trees.specs.Maps.{store_of}
use Rattle.fjall_meta.proofs.Found.{found_has, found_passes}
use Rattle.fjall_meta.proofs.Naming.{living_names as bare_names, names_counted, names_listed}
use Rattle.fjall_meta.proofs.Slots.{same_id}
use Rattle.fjall_machine.specs.Machine.{names_one, is_living, is_unknown}

pub unknown_is : (s : Keyspaces) (trees : Forest) (id next : ℕ) → next ≡ s.next → (id == 0) ≡ false → nat_le next id ≡ is_unknown (store_of s trees) id
unknown_is s trees id next is other = ap (λ n. nat_le n id) is ∙ ap (λ b. b || nat_le s.next id) (sym other)

-- the ids that have names are those of living keyspaces
pub living_names : (s : Keyspaces) (trees : Forest) (id : ℕ) → is_living (store_of s trees) id ≡ is_some (keyspace_at id s.living)
living_names s trees id = bare_names s [] id

any_named : (b later : Bool) (k : LivingKeyspace) (found : Option LivingKeyspace) → later ≡ is_some (option_map (λ (j : LivingKeyspace). j.id) found)
    → (b || later) ≡ is_some (option_map (λ (j : LivingKeyspace). j.id) (cond b (Some k) found))
any_named true later k found same = refl
any_named false later k found same = same

any_is : (living : List LivingKeyspace) (name : Bytes) → list_any (λ other. bytes_eq other name) (map (λ (k : LivingKeyspace). k.name) living) ≡ is_some (id_of name living)
any_is [] name = refl
any_is (k ∷ living) name =
    any_named (bytes_eq k.name name) (list_any (λ other. bytes_eq other name) (map (λ (j : LivingKeyspace). j.name) living)) k (find (λ j. bytes_eq j.name name) living) (any_is living name)

pub names_are : (s : Keyspaces) → AreKeyspaces s → (trees : Forest) → values (store_of s trees).names ≡ map (λ k. k.name) s.living
names_are s all trees = names_listed s all

pub named_is : (s : Keyspaces) → AreKeyspaces s → (trees : Forest) (name : Bytes) → names_one (store_of s trees) name ≡ is_some (id_of name s.living)
named_is s all trees name = ap (list_any (λ other. bytes_eq other name)) (names_are s all trees) ∙ any_is s.living name

pub counted_is : (s : Keyspaces) → AreKeyspaces s → (trees : Forest) → len (store_of s trees).names ≡ length s.living
counted_is s all trees = names_counted s all

pub some_there : {X : Type 0} (found : Option X) → is_some found ≡ true → (x : X) × (found ≡ Some x)
some_there None e = absurd (true≢false (sym e))
some_there (Some x) e = (x, refl)

-- the id of a living keyspace was given out
pub living_given : (s : Keyspaces) → AreKeyspaces s → (trees : Forest) (id : ℕ) → is_living (store_of s trees) id ≡ true → id < s.next
living_given s all trees id lives =
    let there = some_there (keyspace_at id s.living) (sym (living_names s trees id) ∙ lives) in
    let k = there.0 in
    let lt : k.id < s.next = found_has (λ j. j.id == id) (λ j. j.id < s.next) s.living k there.1 all.given in
    subst (λ i. i < s.next) (same_id k.id id (found_passes (λ j. j.id == id) s.living k there.1)) lt

-- where none has a name, no id is found
pub none_named : (s : Keyspaces) → AreKeyspaces s → (trees : Forest) (name : Bytes) → names_one (store_of s trees) name ≡ false → id_of name s.living ≡ None
none_named s all trees name none = nothing (id_of name s.living) (sym (named_is s all trees name) ∙ none)
  where
    nothing : (found : Option ℕ) → is_some found ≡ false → found ≡ None
    nothing None e = refl
    nothing (Some id) e = absurd (true≢false e)
