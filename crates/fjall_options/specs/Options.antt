-- The 20 options of a keyspace: their names and order, which values they take, how they are stored as pairs of the meta keyspace, and how these are read.
use Rattle.std.specs.Prelude.{◌≡◌, ⊤, ℕ, nat_lt, ◌==◌, ◌&&◌, Bool, true, List, [], ◌∷◌, ◌++◌, length, map, set, slice_index_or, Option, Some, None, Result, Ok, Err, is_ok, codes, if◌then◌else◌}
use Rattle.std.specs.Str.{bytes_eq}
use Rattle.byteorder.specs.Endian.{little_bytes, little_number, big_bytes}
use Rattle.fjall_base.specs.declared.error.Error.{Error}
use Rattle.fjall_base.specs.declared.error.Error.TheVariants as errors
use Rattle.fjall_base.specs.declared.error.StorageError.{StorageError}
use Rattle.fjall_base.specs.declared.error.StorageError.TheVariants.{OptionMissing, OptionInvalid}
use Rattle.fjall_options.specs.declared.options.stored_option.StoredOption.{StoredOption}
use Rattle.fjall_options.specs.declared.options.stored_option.StoredOption.TheVariants.{CompactionStrategy, DataBlockCompressionPolicy, DataBlockHashRatioPolicy, DataBlockRestartIntervalPolicy, DataBlockSizePolicy, ExpectPointReadHits, FilterBlockPartitioningPolicy, FilterBlockPinningPolicy, FilterPolicy, IndexBlockCompressionPolicy, IndexBlockPartitioningPolicy, IndexBlockPinningPolicy, IndexBlockRestartIntervalPolicy, LevelCount, ManualJournalPersist, MaxMemtableSize, Version, LeveledL0Threshold, LeveledTargetSize, LeveledLevelRatioPolicy}
use Rattle.fjall_options.specs.declared.options.option_value.OptionValue.{OptionValue}
use Rattle.fjall_options.specs.declared.options.option_value.OptionValue.TheVariants as values
use Rattle.fjall_options.specs.declared.options.effective.EffectiveSettings.{EffectiveSettings}
use Rattle.fjall_base.specs.Results.{◌>>=◌}
use Rattle.fjall_options.specs.Reading.{byte_at, number_at}
use Rattle.fjall_options.specs.Policies.{policy_bytes, number_bytes, policy_at, flag_at, compression_at, filter_at}

-- ---- the table

-- the options that come first in both orders
abbrev first_options : List StoredOption
first_options =
    CompactionStrategy ∷
    DataBlockCompressionPolicy ∷
    DataBlockHashRatioPolicy ∷
    DataBlockRestartIntervalPolicy ∷
    DataBlockSizePolicy ∷
    ExpectPointReadHits ∷
    FilterBlockPartitioningPolicy ∷
    FilterBlockPinningPolicy ∷
    FilterPolicy ∷
    IndexBlockCompressionPolicy ∷
    IndexBlockPartitioningPolicy ∷
    IndexBlockPinningPolicy ∷
    IndexBlockRestartIntervalPolicy ∷
    LevelCount ∷
    []

-- all options, in the order in which they are stored and read
abbrev pub stored_options : List StoredOption
stored_options = first_options ++ ManualJournalPersist ∷ MaxMemtableSize ∷ Version ∷ LeveledL0Threshold ∷ LeveledTargetSize ∷ LeveledLevelRatioPolicy ∷ []

-- all options by name ascending, which is the order of their keys
abbrev pub options_by_name : List StoredOption
options_by_name = first_options ++ LeveledL0Threshold ∷ LeveledLevelRatioPolicy ∷ LeveledTargetSize ∷ ManualJournalPersist ∷ MaxMemtableSize ∷ Version ∷ []

-- the place of an option in the order in which it is stored, from 0
abbrev pub place : StoredOption → ℕ
place CompactionStrategy = 0
place DataBlockCompressionPolicy = 1
place DataBlockHashRatioPolicy = 2
place DataBlockRestartIntervalPolicy = 3
place DataBlockSizePolicy = 4
place ExpectPointReadHits = 5
place FilterBlockPartitioningPolicy = 6
place FilterBlockPinningPolicy = 7
place FilterPolicy = 8
place IndexBlockCompressionPolicy = 9
place IndexBlockPartitioningPolicy = 10
place IndexBlockPinningPolicy = 11
place IndexBlockRestartIntervalPolicy = 12
place LevelCount = 13
place ManualJournalPersist = 14
place MaxMemtableSize = 15
place Version = 16
place LeveledL0Threshold = 17
place LeveledTargetSize = 18
place LeveledLevelRatioPolicy = 19

abbrev pub option_name : StoredOption → List ℕ
option_name CompactionStrategy = codes "compaction_strategy"
option_name DataBlockCompressionPolicy = codes "data_block_compression_policy"
option_name DataBlockHashRatioPolicy = codes "data_block_hash_ratio_policy"
option_name DataBlockRestartIntervalPolicy = codes "data_block_restart_interval_policy"
option_name DataBlockSizePolicy = codes "data_block_size_policy"
option_name ExpectPointReadHits = codes "expect_point_read_hits"
option_name FilterBlockPartitioningPolicy = codes "filter_block_partitioning_policy"
option_name FilterBlockPinningPolicy = codes "filter_block_pinning_policy"
option_name FilterPolicy = codes "filter_policy"
option_name IndexBlockCompressionPolicy = codes "index_block_compression_policy"
option_name IndexBlockPartitioningPolicy = codes "index_block_partitioning_policy"
option_name IndexBlockPinningPolicy = codes "index_block_pinning_policy"
option_name IndexBlockRestartIntervalPolicy = codes "index_block_restart_interval_policy"
option_name LevelCount = codes "level_count"
option_name ManualJournalPersist = codes "manual_journal_persist"
option_name MaxMemtableSize = codes "max_memtable_size"
option_name Version = codes "version"
option_name LeveledL0Threshold = codes "leveled_l0_threshold"
option_name LeveledTargetSize = codes "leveled_target_size"
option_name LeveledLevelRatioPolicy = codes "leveled_level_ratio_policy"

abbrev pub default_value : StoredOption → List ℕ
default_value CompactionStrategy = codes "LeveledCompaction"
default_value DataBlockCompressionPolicy = 1 ∷ 0 ∷ []
default_value DataBlockHashRatioPolicy = 1 ∷ 0 ∷ 0 ∷ 0 ∷ 0 ∷ []
default_value DataBlockRestartIntervalPolicy = 2 ∷ 0xa ∷ 0x10 ∷ []
default_value DataBlockSizePolicy = 1 ∷ 0 ∷ 0x10 ∷ 0 ∷ 0 ∷ []
default_value ExpectPointReadHits = 0 ∷ []
default_value FilterBlockPartitioningPolicy = 4 ∷ 0 ∷ 0 ∷ 0 ∷ 1 ∷ []
default_value FilterBlockPinningPolicy = 2 ∷ 1 ∷ 0 ∷ []
default_value FilterPolicy = 2 ∷ 1 ∷ 1 ∷ 0x64 ∷ 0 ∷ 0 ∷ 0 ∷ 1 ∷ 0 ∷ 0x80 ∷ 0x96 ∷ 0x98 ∷ 0 ∷ []
default_value IndexBlockCompressionPolicy = 1 ∷ 0 ∷ []
default_value IndexBlockPartitioningPolicy = 4 ∷ 0 ∷ 0 ∷ 0 ∷ 1 ∷ []
default_value IndexBlockPinningPolicy = 3 ∷ 1 ∷ 1 ∷ 0 ∷ []
default_value IndexBlockRestartIntervalPolicy = 1 ∷ 1 ∷ []
default_value LevelCount = 7 ∷ []
default_value ManualJournalPersist = 0 ∷ []
default_value MaxMemtableSize = 0 ∷ 0 ∷ 0 ∷ 4 ∷ 0 ∷ 0 ∷ 0 ∷ 0 ∷ []
default_value Version = 3 ∷ []
default_value LeveledL0Threshold = 4 ∷ []
default_value LeveledTargetSize = 0 ∷ 0 ∷ 0 ∷ 4 ∷ 0 ∷ 0 ∷ 0 ∷ 0 ∷ []
default_value LeveledLevelRatioPolicy = 1 ∷ 0x80 ∷ 0x96 ∷ 0x98 ∷ 0 ∷ []

-- Which values an option takes: policies that can be read, the one strategy, a size of eight bytes, a threshold of one byte and a target size of eight that aren't 0. The other values aren't looked at.
abbrev pub is_value : StoredOption → List ℕ → Bool
is_value CompactionStrategy value = bytes_eq value (codes "LeveledCompaction")
is_value DataBlockCompressionPolicy value = is_ok (policy_at compression_at value)
is_value DataBlockHashRatioPolicy value = is_ok (policy_at number_at value)
is_value DataBlockRestartIntervalPolicy value = is_ok (policy_at byte_at value)
is_value DataBlockSizePolicy value = is_ok (policy_at number_at value)
is_value ExpectPointReadHits value = true
is_value FilterBlockPartitioningPolicy value = is_ok (policy_at flag_at value)
is_value FilterBlockPinningPolicy value = is_ok (policy_at flag_at value)
is_value FilterPolicy value = is_ok (policy_at filter_at value)
is_value IndexBlockCompressionPolicy value = is_ok (policy_at compression_at value)
is_value IndexBlockPartitioningPolicy value = is_ok (policy_at flag_at value)
is_value IndexBlockPinningPolicy value = is_ok (policy_at flag_at value)
is_value IndexBlockRestartIntervalPolicy value = is_ok (policy_at byte_at value)
is_value LevelCount value = true
is_value ManualJournalPersist value = true
is_value MaxMemtableSize value = length value == 8
is_value Version value = true
is_value LeveledL0Threshold value = (length value == 1) && nat_lt 0 (little_number 1 value)
is_value LeveledTargetSize value = (length value == 8) && nat_lt 0 (little_number 8 value)
is_value LeveledLevelRatioPolicy value = is_ok (policy_at number_at value)

-- ---- the options of a keyspace: a value for each, in their order

abbrev pub value_at : StoredOption → List (List ℕ) → List ℕ
value_at option values = slice_index_or values (place option) []

-- every option has a value that it takes
pub record AreOptions (values : List (List ℕ)) : Type 0 where
  pub complete : length values ≡ 20
  pub valid : (option : StoredOption) → is_value option (value_at option values) ≡ true

unfoldable pub default_options : List (List ℕ)
default_options = map default_value stored_options

-- the options with another value of one
unfoldable pub with_value : StoredOption → List ℕ → List (List ℕ) → List (List ℕ)
with_value option value values = set values (place option) value

-- a value as it is kept: bytes, a byte or a flag, or the eight bytes of a number
abbrev pub kept_bytes : OptionValue → List ℕ
kept_bytes (values.Stored bytes) = bytes
kept_bytes (values.Byte byte) = byte ∷ []
kept_bytes (values.Number bytes) = bytes

-- how tables are merged: from how many tables at level 0 on, how large tables are made, and how much larger each level is than the one above, in millionths
pub record Strategy : Type 0 where
  pub l0_threshold : ℕ
  pub target_size : ℕ
  pub level_ratios : List ℕ

abbrev pub default_strategy : Strategy
default_strategy = record { l0_threshold = 4; target_size = 67108864; level_ratios = 10000000 ∷ [] }

unfoldable pub with_strategy : Strategy → List (List ℕ) → List (List ℕ)
with_strategy s options =
    with_value LeveledLevelRatioPolicy (policy_bytes number_bytes s.level_ratios)
    (with_value LeveledTargetSize (little_bytes 8 s.target_size)
    (with_value LeveledL0Threshold (s.l0_threshold ∷ []) options))

-- A flag is true exactly where its value is the one byte 1.
abbrev pub is_set : List ℕ → Bool
is_set value = bytes_eq value (1 ∷ [])

-- what the options that have an effect say
unfoldable pub effective_settings : List (List ℕ) → EffectiveSettings
effective_settings options = record {
  manual_journal_persist = is_set (value_at ManualJournalPersist options);
  max_memtable_size = little_number 8 (value_at MaxMemtableSize options);
  l0_threshold = little_number 1 (value_at LeveledL0Threshold options);
  target_size = little_number 8 (value_at LeveledTargetSize options);
}

-- ---- pairs of the meta keyspace: ids stand in keys the highest byte first

-- 'n' and the id, which has the keyspace's name
abbrev pub name_key : ℕ → List ℕ
name_key id = 0x6e ∷ big_bytes 8 id

-- 'c', the id and the option's name
abbrev pub config_key : ℕ → List ℕ → List ℕ
config_key id name = 0x63 ∷ big_bytes 8 id ++ name

-- the pair that stores an option of a keyspace
abbrev pub config_pair : ℕ → List (List ℕ) → StoredOption → List ℕ × List ℕ
config_pair id options option = (config_key id (option_name option), value_at option options)

unfoldable pub config_pairs : ℕ → List (List ℕ) → List (List ℕ × List ℕ)
config_pairs id options = map (config_pair id options) stored_options

-- the value of the first pair that has this key
abbrev pub value_of : List ℕ → List (List ℕ × List ℕ) → Option (List ℕ)
value_of key [] = None
value_of key (pair ∷ pairs) = if bytes_eq pair.0 key then Some pair.1 else value_of key pairs

abbrev pub valid_value : StoredOption → Option (List ℕ) → Result (List ℕ) StorageError
valid_value option None = Err OptionMissing
valid_value option (Some value) = if is_value option value then Ok value else Err OptionInvalid

-- the value that the pairs give to an option of a keyspace
abbrev pub stored_value : ℕ → List (List ℕ × List ℕ) → StoredOption → Result (List ℕ) StorageError
stored_value id pairs option = valid_value option (value_of (config_key id (option_name option)) pairs)

-- the values of these options, one after another, or the first refusal
unfoldable pub stored_values : ℕ → List (List ℕ × List ℕ) → List StoredOption → Result (List (List ℕ)) StorageError
stored_values id pairs [] = Ok []
stored_values id pairs (option ∷ options) = do
  value ← stored_value id pairs option
  others ← stored_values id pairs options
  Ok (value ∷ others)

-- the error is the refusal that reading met, or memory ran out
abbrev pub RefusesStored : {Y : Type 0} → Error → Result Y StorageError → Type 0
RefusesStored errors.OutOfMemory read = ⊤
RefusesStored (errors.Storage cause) read = read ≡ Err cause
RefusesStored error read = ⊥

-- what a function answered is what reading gives, unless memory ran out
abbrev pub ReadsStored : {Y : Type 0} → Result Y Error → Result Y StorageError → Type 0
ReadsStored (Ok x) read = read ≡ Ok x
ReadsStored (Err e) read = RefusesStored e read
