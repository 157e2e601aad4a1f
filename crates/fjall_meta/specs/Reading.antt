-- What pairs of the meta keyspace say of the keyspaces that they store.
use Rattle.std.specs.Prelude.{◌≡◌, ⊤, ℕ, ◌==◌, ◌&&◌, ◌||◌, nat_le, Bool, false, if◌then◌else◌, List, [], ◌∷◌, length, map, filter_map, drop, slice_index, filter, Contains, ◌↔◌, Option, Some, None, unwrap_or, Result, Ok, Err, MatchResult}
use Rattle.std.specs.List.Sorted.{IsStrictlyIncreasing}
use Rattle.std.specs.BTreeMap.{BTreeMap, get}
use Rattle.std.specs.Option.{option_map_or}
use Rattle.std.specs.Ordering.{nat_cmp}
use Rattle.std.specs.Global.{Vec}
use Rattle.byteorder.specs.Endian.{big_number}
use Rattle.fjall_base.specs.declared.error.Error.{Error}
use Rattle.fjall_base.specs.declared.error.Error.TheVariants as errors
use Rattle.fjall_base.specs.declared.error.StorageError.{StorageError}
use Rattle.fjall_base.specs.declared.error.StorageError.TheVariants.{OptionMissing, OptionInvalid}
use Rattle.fjall_options.specs.Options.{name_key, value_of, stored_options, stored_values}
use Rattle.fjall_base.specs.Results.{◌>>=◌}
use Rattle.fjall_meta.specs.declared.entry.MetaEntry.{MetaEntry}
use Rattle.fjall_meta.specs.declared.living.LivingKeyspace.{LivingKeyspace}
use Rattle.fjall_meta.specs.Keyspaces.{Keyspaces, AreKeyspaces, is_name}
use Rattle.fjall_meta.specs.Entries.{entries_of}

-- the id in a key: eight bytes, the highest first, behind an 'n' or a 'c'
abbrev pub key_id : List ℕ → Option ℕ
key_id key =
    if nat_le 9 (length key) && ((slice_index key 0 == 0x6e) || (slice_index key 0 == 0x63)) then Some (big_number 8 (drop 1 key)) else None

-- A keyspace lives where some key has its id: these are the ids, ascending.
pub record AreIds (ids : List ℕ) (entries : List MetaEntry) : Type 0 where
  pub ascending : IsStrictlyIncreasing ids
  pub each : (id : ℕ) → Contains ids id ↔ Contains (filter_map (λ e. key_id e.key) entries) id

abbrev pub pairs_of : List MetaEntry → List (List ℕ × List ℕ)
pairs_of entries = map (λ e. (e.key, e.value)) entries

abbrev pub valid_name : Option (List ℕ) → Result (List ℕ) StorageError
valid_name None = Err OptionMissing
valid_name (Some name) = if is_name name then Ok name else Err OptionInvalid

-- the name that the pairs give to a keyspace
abbrev pub stored_name : ℕ → List (List ℕ × List ℕ) → Result (List ℕ) StorageError
stored_name id pairs = valid_name (value_of (name_key id) pairs)

-- the name and then the options that the pairs give to a keyspace, or the first refusal
abbrev pub stored_keyspace : ℕ → List (List ℕ × List ℕ) → Result (List ℕ × List (List ℕ)) StorageError
stored_keyspace id pairs = do
  name ← stored_name id pairs
  options ← stored_values id pairs stored_options
  Ok (name, options)

abbrev pub or_else : {Y : Type 0} → Result Y StorageError → Option StorageError → Option StorageError
or_else (Ok y) later = later
or_else (Err cause) later = Some cause

-- what is wrong with the first of these keyspaces with which something is
abbrev pub first_fault : List ℕ → List (List ℕ × List ℕ) → Option StorageError
first_fault [] pairs = None
first_fault (id ∷ ids) pairs = or_else (stored_keyspace id pairs) (first_fault ids pairs)

-- the refusal is that fault, or memory ran out
abbrev pub IsFirstFault : List ℕ → List (List ℕ × List ℕ) → Error → Type 0
IsFirstFault ids pairs errors.OutOfMemory = ⊤
IsFirstFault ids pairs (errors.Storage cause) = first_fault ids pairs ≡ Some cause
IsFirstFault ids pairs error = ⊥

-- Why entries are refused: for the first fault of a keyspace, the lowest id first. Where each is whole, something else stands there that no keyspaces store, which is invalid.
abbrev pub IsReadingRefusal : List MetaEntry → Error → Type 0
IsReadingRefusal entries errors.OutOfMemory = ⊤
IsReadingRefusal entries (errors.Storage cause) = (ids : List ℕ) × AreIds ids entries × (cause ≡ unwrap_or (first_fault ids (pairs_of entries)) OptionInvalid)
IsReadingRefusal entries error = ⊥

-- Lawful keyspaces that have these entries and this next id are what is read, while memory lasts.
abbrev pub ReadsBack : List MetaEntry → ℕ → Result Keyspaces Error → Type 0
ReadsBack entries next read = (s : Keyspaces) → AreKeyspaces s → s.next ≡ next → entries_of s.living ≡ entries → MatchResult read (λ m. m ≡ s) (λ e. e ≡ errors.OutOfMemory)

-- ---- the pairs of one keyspace

-- whether an id was found, and is this one
abbrev pub is_that : ℕ → Option ℕ → Bool
is_that id None = false
is_that id (Some found) = found == id

-- the entries in whose keys this id stands, in their order
abbrev pub own_entries : ℕ → List MetaEntry → List MetaEntry
own_entries id entries = filter (λ e. is_that id (key_id e.key)) entries

-- the entries that a map has at this id
abbrev pub entries_at : ℕ → BTreeMap ℕ (Vec MetaEntry) → List MetaEntry
entries_at id groups = option_map_or (λ own. own.items) (get nat_cmp groups id) []

-- the number of the first entry, 0 where there is none
abbrev pub number_in : List MetaEntry → ℕ
number_in [] = 0
number_in (e ∷ entries) = e.number

-- The entries store this keyspace: it has the name and the options that they give to its id, and the number of its first entry.
pub record IsStored (entries : List MetaEntry) (k : LivingKeyspace) : Type 0 where
  pub given : stored_keyspace k.id (pairs_of entries) ≡ Ok (k.name, k.options)
  pub number : k.number ≡ number_in (own_entries k.id entries)
