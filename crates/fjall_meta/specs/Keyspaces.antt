-- The keyspaces that live: their names, ids and options, and the id that the next one gets. It is a store without its maps.
use Rattle.std.specs.Prelude.{◌≡◌, ◌≢◌, ℕ, ◌+◌, ◌<◌, ◌^◌, ◌-◌, ◌==◌, ◌&&◌, Bool, true, not, nat_le, if◌then◌else◌, List, [], ◌∷◌, ◌++◌, length, All, AllPairs, find, filter, Option, Some, None, Result, Ok, Err}
use Rattle.std.specs.Option.{option_map}
use Rattle.std.specs.Str.{bytes_eq}
use Rattle.fjall_base.specs.declared.error.Error.{Error}
use Rattle.fjall_base.specs.declared.error.Error.TheVariants.{InvalidName, NumbersUsedUp, OutOfMemory}
use Rattle.fjall_options.specs.Options.{AreOptions}
use Rattle.fjall_meta.specs.declared.living.LivingKeyspace.{LivingKeyspace}

-- the living keyspaces by id ascending, and the id that the next one gets
pub record Keyspaces : Type 0 where
  pub living : List LivingKeyspace
  pub next : ℕ

-- a name has 1 to 255 bytes
abbrev pub is_name : List ℕ → Bool
is_name name = nat_le 1 (length name) && nat_le (length name) 255

-- Ids begin at 1, have eight bytes, ascend and were given out before; names are names, and each is that of one keyspace; options are a keyspace's.
pub record AreKeyspaces (s : Keyspaces) : Type 0 where
  pub begun : 0 < s.next
  pub fits : s.next < 2 ^ 64
  pub ids : All (λ k. 0 < k.id) s.living
  pub given : All (λ k. k.id < s.next) s.living
  pub ascending : AllPairs (λ j k. j.id < k.id) s.living
  pub names : All (λ k. is_name k.name ≡ true) s.living
  pub distinct : AllPairs (λ j k. j.name ≢ k.name) s.living
  pub options : All (λ k. AreOptions k.options) s.living

-- the keyspace that has this id
abbrev pub keyspace_at : ℕ → List LivingKeyspace → Option LivingKeyspace
keyspace_at id living = find (λ k. k.id == id) living

-- the id of the keyspace that has this name
abbrev pub id_of : List ℕ → List LivingKeyspace → Option ℕ
id_of name living = option_map (λ k. k.id) (find (λ k. bytes_eq k.name name) living)

-- no keyspace lives, and none has lived
abbrev pub no_keyspaces : Keyspaces
no_keyspaces = record { living = []; next = 1 }

-- the keyspaces with one more, which gets the next id
abbrev pub with_keyspace : List ℕ → List (List ℕ) → ℕ → Keyspaces → Keyspaces
with_keyspace name options number s = record {
  living = s.living ++ (record { id = s.next; number = number; name = name; options = options }) ∷ [];
  next = s.next + 1;
}

-- what the creation of a keyspace made of lawful ones is these again
abbrev pub TakesBack : Keyspaces → Keyspaces → Type 0
TakesBack old new = (s : Keyspaces) (name : List ℕ) (options : List (List ℕ)) (number : ℕ) → AreKeyspaces s → old ≡ with_keyspace name options number s → new ≡ s

-- what is found are these keyspaces with this next id; nothing is found where they aren't lawful
abbrev pub AreRestored : List LivingKeyspace → ℕ → Option Keyspaces → Type 0
AreRestored living next None = AreKeyspaces (record { living = living; next = next }) → ⊥
AreRestored living next (Some found) = found ≡ record { living = living; next = next }

-- a name that none has yet gets the next id, while there is one
abbrev pub new_keyspace : List ℕ → List (List ℕ) → ℕ → Keyspaces → Result (ℕ × Keyspaces) Error
new_keyspace name options number s = if s.next == 2 ^ 64 - 1 then Err NumbersUsedUp else Ok (s.next, with_keyspace name options number s)

-- A name that is one has its keyspace's id, or gets the next one.
abbrev pub resolved : Option ℕ → List ℕ → List (List ℕ) → ℕ → Keyspaces → Result (ℕ × Keyspaces) Error
resolved (Some id) name options number s = Ok (id, s)
resolved None name options number s = new_keyspace name options number s

-- the id that a creation answers and the keyspaces after it, or why it is refused, while memory lasts
abbrev pub creation : List ℕ → List (List ℕ) → ℕ → Keyspaces → Result (ℕ × Keyspaces) Error
creation name options number s = if is_name name then resolved (id_of name s.living) name options number s else Err InvalidName

-- why a creation is refused: for its cause, or, where a keyspace is to be made, since memory ran out
abbrev pub IsCreationRefusal : List ℕ → List (List ℕ) → ℕ → Keyspaces → Error → Type 0
IsCreationRefusal name options number s OutOfMemory = creation name options number s ≡ Ok (s.next, with_keyspace name options number s)
IsCreationRefusal name options number s e = creation name options number s ≡ Err e

-- the keyspaces without that of this id; its id is not given out again
abbrev pub without_keyspace : ℕ → Keyspaces → Keyspaces
without_keyspace id s = record { living = filter (λ k. not (k.id == id)) s.living; next = s.next }
