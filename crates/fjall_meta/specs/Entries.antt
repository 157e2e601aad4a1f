-- The pairs of the meta keyspace, each under the number of the change that wrote it.
use Rattle.std.specs.Prelude.{◌≡◌, List, ◌++◌, map, AllPairs}
use Rattle.std.specs.List.{flat_map}
use Rattle.std.specs.declared.cmp.Ordering.TheVariants.{Less}
use Rattle.fjall_base.specs.Pairs.{byte_order}
use Rattle.fjall_options.specs.declared.options.stored_option.StoredOption.{StoredOption}
use Rattle.fjall_options.specs.Options.{name_key, config_key, option_name, options_by_name, value_at}
use Rattle.fjall_meta.specs.declared.living.LivingKeyspace.{LivingKeyspace}
use Rattle.fjall_meta.specs.declared.entry.MetaEntry.{MetaEntry}

-- the pair that stores an option of a keyspace
abbrev pub option_entry : LivingKeyspace → StoredOption → MetaEntry
option_entry k option = record { key = config_key k.id (option_name option); value = value_at option k.options; number = k.number }

unfoldable pub option_entries : LivingKeyspace → List MetaEntry
option_entries k = map (option_entry k) options_by_name

-- the pair that stores a keyspace's name
abbrev pub name_entry : LivingKeyspace → MetaEntry
name_entry k = record { key = name_key k.id; value = k.name; number = k.number }

-- the options of all keyspaces, and then their names: 'c' stands before 'n'
abbrev pub entries_of : List LivingKeyspace → List MetaEntry
entries_of living = flat_map option_entries living ++ map name_entry living

-- each key is above those before it
abbrev pub IsAscending : List MetaEntry → Type 0
IsAscending entries = AllPairs (λ a b. byte_order a.key b.key ≡ Less) entries
