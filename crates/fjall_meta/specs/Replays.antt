-- The store that keyspaces and the batches of journals stand for, and what no sound journal has.
use Rattle.std.specs.Prelude.{◌≡◌, ℕ, ◌+◌, ◌^◌, ◌==◌, Bool, true, false, nat_lt, nat_le, ◌||◌, ◌&&◌, not, if◌then◌else◌, List, [], ◌∷◌, ◌++◌, map, filter, find, codes, Option, Some, None, unwrap_or, IsSomeAnd}
use Rattle.std.specs.Option.{option_map, option_or}
use Rattle.std.specs.List.{flat_map, list_any}
use Rattle.std.specs.Ordering.{nat_cmp}
use Rattle.std.specs.FinMap.{FinMap, empty, from_entries}
use Rattle.fjall_base.specs.Pairs.{Bytes}
use Rattle.fjall_base.specs.Store.{Store, Options, Item, Command, Write, Clear, fold}
use Rattle.fjall_base.specs.declared.error.Error.{Error}
use Rattle.fjall_base.specs.declared.error.Error.TheVariants.{Unrecoverable, InvalidTag}
use Rattle.fjall_journal.specs.declared.entry.ValueType.{ValueType}
use Rattle.fjall_journal.specs.declared.entry.ValueType.TheVariants.{Value, Indirection}
use Rattle.fjall_journal.specs.declared.batch.ReadBatchItem.{ReadBatchItem}
use Rattle.fjall_journal.specs.Batches.{Shown}
use Rattle.fjall_options.specs.Options.{stored_options, option_name, value_at}
use Rattle.fjall_meta.specs.declared.living.LivingKeyspace.{LivingKeyspace}
use Rattle.fjall_meta.specs.Keyspaces.{Keyspaces, keyspace_at}
use Rattle.fjall_meta.specs.declared.recovery.Persisted.{Persisted}

-- ---- the store

-- the settings of a keyspace as pairs of a store: each option's name with its value, in the options' order
unfoldable pub option_pairs : List (List ℕ) → Options
option_pairs values = map (λ option. (option_name option, value_at option values)) stored_options

-- what each living keyspace has, by its id
abbrev pub by_id : {X : Type 0} → (LivingKeyspace → X) → List LivingKeyspace → FinMap nat_cmp X
by_id has living = from_entries (map (λ k. (k.id, has k)) living)

-- these keyspaces, with nothing in them
abbrev pub bare : Keyspaces → Store
bare s = record {
  names = by_id (λ k. k.name) s.living;
  maps = by_id (λ k. empty) s.living;
  options = by_id (λ k. option_pairs k.options) s.living;
  next = s.next;
}

-- What a batch of that number says of an id counts where its keyspace lives and was made under a lesser number: an id
-- that is given out later never takes over old items.
abbrev pub counts : Keyspaces → ℕ → ℕ → Bool
counts s number id = unwrap_or (option_map (λ k. nat_lt k.number number) (keyspace_at id s.living)) false

-- what an item makes of its key
abbrev pub value_of : ValueType → Bytes → Option Bytes
value_of Value value = Some value
value_of kind value = None

abbrev pub item_of : ReadBatchItem → Item
item_of item = record { id = item.keyspace_id; key = item.key; value = value_of item.value_type item.value }

-- one write of these items, and none where there are none
abbrev pub writing : List Item → List Command
writing [] = []
writing (item ∷ items) = Write (item ∷ items) ∷ []

-- the keyspaces that a batch empties
abbrev pub emptied : Keyspaces → Shown → List ℕ
emptied s b = filter (counts s b.number) b.clears

-- what a batch commands of these keyspaces: its clears, and then its items as one write
abbrev pub commands_of : Keyspaces → Shown → List Command
commands_of s b = map Clear (emptied s b) ++ writing (map item_of (filter (λ item. counts s b.number item.keyspace_id) b.items))

abbrev pub journal_commands : Keyspaces → List Shown → List Command
journal_commands s batches = flat_map (commands_of s) batches

-- the store that these keyspaces and these batches stand for
abbrev pub store_in : Keyspaces → List Shown → Store
store_in s batches = fold (bare s) (journal_commands s batches)

-- ---- what is persisted

-- the number up to which all of an id is persisted, where there is one: what the first says that is of that id
abbrev pub persisted_at : ℕ → List Persisted → Option ℕ
persisted_at id persisted = unwrap_or (option_map (λ p. p.number) (find (λ p. p.id == id) persisted)) None

-- whether a number is at most another one, where there is one
abbrev pub reaches : Option ℕ → ℕ → Bool
reaches None number = false
reaches (Some persisted) number = nat_le number persisted

-- whether what a batch of that number says of an id counts, and isn't persisted
abbrev pub counts_unpersisted : Keyspaces → List Persisted → ℕ → ℕ → Bool
counts_unpersisted s persisted number id = counts s number id && not (reaches (persisted_at id persisted) number)

-- ---- sound batches

-- the least number that a batch behind these may have
abbrev pub least_after : ℕ → List Shown → ℕ
least_after least [] = least
least_after least (batch ∷ batches) = least_after (batch.number + 1) batches

-- what no sound journal has
pub data JournalFault : Type 0 where
  -- a number that isn't above the one before it, or not below 2^63
  Unordered : JournalFault
  -- an item that stands for a value elsewhere
  Indirect : JournalFault

abbrev pub is_indirection : ValueType → Bool
is_indirection Indirection = true
is_indirection kind = false

abbrev pub is_indirect : ReadBatchItem → Bool
is_indirect item = is_indirection item.value_type

-- the fault of a batch that may have that number or a greater one: its number is looked at before its items
abbrev pub fault_of : ℕ → Shown → Option JournalFault
fault_of least batch =
    if nat_lt batch.number least || nat_le (2 ^ 63) batch.number then Some Unordered else (
    if list_any is_indirect batch.items then Some Indirect else None)

-- the first fault of these batches, of which the first may have that number or a greater one
abbrev pub first_fault : ℕ → List Shown → Option JournalFault
first_fault least [] = None
first_fault least (batch ∷ batches) = option_or (fault_of least batch) (first_fault (batch.number + 1) batches)

-- the error that names a fault
abbrev pub Names : Error → JournalFault → Type 0
Names Unrecoverable fault = fault ≡ Unordered
Names (InvalidTag tag) fault = (fault ≡ Indirect) × (tag.0.now ≡ codes "ValueType") × (tag.1 ≡ 4)
Names error fault = ⊥

-- the error names this fault, and there is one
abbrev pub NamesFault : Option JournalFault → Error → Type 0
NamesFault fault error = IsSomeAnd fault (Names error)
