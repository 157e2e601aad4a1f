-- The pairs of a keyspace's options, by place and by name.
use Rattle.std.proofs.Common.{◌≡◌, ℕ, List, length, get_or, refl}
use denote.Enum.Declared.{tag_of}
use Rattle.fjall_options.specs.contracts.options.stored_option.StoredOption.{the_type}
use Rattle.fjall_options.specs.declared.options.stored_option.StoredOption.{StoredOption}
use Rattle.fjall_options.specs.declared.options.stored_option.StoredOption.TheVariants.{CompactionStrategy, DataBlockCompressionPolicy, DataBlockHashRatioPolicy, DataBlockRestartIntervalPolicy, DataBlockSizePolicy, ExpectPointReadHits, FilterBlockPartitioningPolicy, FilterBlockPinningPolicy, FilterPolicy, IndexBlockCompressionPolicy, IndexBlockPartitioningPolicy, IndexBlockPinningPolicy, IndexBlockRestartIntervalPolicy, LevelCount, ManualJournalPersist, MaxMemtableSize, Version, LeveledL0Threshold, LeveledTargetSize, LeveledLevelRatioPolicy}
use Rattle.fjall_options.specs.Options.{options_by_name, place, config_pair, config_pairs}

abbrev Pair : Type 0
Pair = List ℕ × List ℕ

-- an option as a number is its place
pub tag_is : (o : StoredOption) → tag_of the_type o ≡ place o
tag_is CompactionStrategy = refl
tag_is DataBlockCompressionPolicy = refl
tag_is DataBlockHashRatioPolicy = refl
tag_is DataBlockRestartIntervalPolicy = refl
tag_is DataBlockSizePolicy = refl
tag_is ExpectPointReadHits = refl
tag_is FilterBlockPartitioningPolicy = refl
tag_is FilterBlockPinningPolicy = refl
tag_is FilterPolicy = refl
tag_is IndexBlockCompressionPolicy = refl
tag_is IndexBlockPartitioningPolicy = refl
tag_is IndexBlockPinningPolicy = refl
tag_is IndexBlockRestartIntervalPolicy = refl
tag_is LevelCount = refl
tag_is ManualJournalPersist = refl
tag_is MaxMemtableSize = refl
tag_is Version = refl
tag_is LeveledL0Threshold = refl
tag_is LeveledTargetSize = refl
tag_is LeveledLevelRatioPolicy = refl

-- an option's pair stands at its place
pub pair_at : (id : ℕ) (options : List (List ℕ)) (o : StoredOption) (d : Pair) → get_or (config_pairs id options) (place o) d ≡ config_pair id options o
unfolding config_pairs
pair_at id options CompactionStrategy d = refl
pair_at id options DataBlockCompressionPolicy d = refl
pair_at id options DataBlockHashRatioPolicy d = refl
pair_at id options DataBlockRestartIntervalPolicy d = refl
pair_at id options DataBlockSizePolicy d = refl
pair_at id options ExpectPointReadHits d = refl
pair_at id options FilterBlockPartitioningPolicy d = refl
pair_at id options FilterBlockPinningPolicy d = refl
pair_at id options FilterPolicy d = refl
pair_at id options IndexBlockCompressionPolicy d = refl
pair_at id options IndexBlockPartitioningPolicy d = refl
pair_at id options IndexBlockPinningPolicy d = refl
pair_at id options IndexBlockRestartIntervalPolicy d = refl
pair_at id options LevelCount d = refl
pair_at id options ManualJournalPersist d = refl
pair_at id options MaxMemtableSize d = refl
pair_at id options Version d = refl
pair_at id options LeveledL0Threshold d = refl
pair_at id options LeveledTargetSize d = refl
pair_at id options LeveledLevelRatioPolicy d = refl

pub pairs_count : (id : ℕ) (options : List (List ℕ)) → length (config_pairs id options) ≡ 20
unfolding config_pairs
pairs_count id options = refl

-- the option that a loop is at
abbrev pub item : ℕ → StoredOption
item i = get_or options_by_name i CompactionStrategy
