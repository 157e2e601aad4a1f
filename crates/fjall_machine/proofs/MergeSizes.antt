-- The settings of a keyspace by which it is merged.
use Rattle.std.proofs.Common.{◌≡◌, ℕ, codes, List, [], Option, None, Some, unwrap_or, refl, ap, ◌∙◌}
use Rattle.std.specs.Option.{option_map}
use Rattle.byteorder.specs.Endian.{little_number}
use Rattle.fjall_base.specs.Pairs.{Bytes}
use Rattle.fjall_base.specs.Store.{Options}
use Rattle.fjall_trees.specs.Maps.{store_of}
use Rattle.fjall_meta.specs.declared.living.LivingKeyspace.{LivingKeyspace}
use Rattle.fjall_meta.specs.Keyspaces.{Keyspaces, keyspace_at}
use Rattle.fjall_options.specs.declared.options.effective.EffectiveSettings.{EffectiveSettings}
use Rattle.fjall_options.specs.declared.options.stored_option.StoredOption.TheVariants.{LeveledL0Threshold, LeveledTargetSize}
use Rattle.fjall_options.specs.Options.{effective_settings, value_at, value_of}
use Rattle.fjall_trees.specs.Forests.{Forest}
use Rattle.fjall_meta.specs.Replays.{option_pairs}
use Rattle.fjall_meta.proofs.Naming.{settings}
use Rattle.fjall_machine.specs.Machine.{l0_threshold, options_in, target_size}

-- ---- what pairs of options say

threshold_found : (values : List Bytes) → value_of (codes "leveled_l0_threshold") (option_pairs values) ≡ Some (value_at LeveledL0Threshold values)
unfolding option_pairs
threshold_found values = refl

target_found : (values : List Bytes) → value_of (codes "leveled_target_size") (option_pairs values) ≡ Some (value_at LeveledTargetSize values)
unfolding option_pairs
target_found values = refl

threshold_is : (values : List Bytes) → l0_threshold (option_pairs values) ≡ (effective_settings values).l0_threshold
unfolding effective_settings
threshold_is values = ap (λ (o : Option Bytes). little_number 1 (unwrap_or o [])) (threshold_found values)

target_is : (values : List Bytes) → target_size (option_pairs values) ≡ (effective_settings values).target_size
unfolding effective_settings
target_is values = ap (λ (o : Option Bytes). little_number 8 (unwrap_or o [])) (target_found values)

-- ---- what the options of a keyspace say

-- a setting of the options that a keyspace has, and 0 where it isn't there
abbrev pub said : (EffectiveSettings → ℕ) → Option (List Bytes) → ℕ
said setting None = 0
said setting (Some values) = setting (effective_settings values)

-- what is read of the store's options is what they say
held : (read : Options → ℕ) (setting : EffectiveSettings → ℕ) → read [] ≡ 0 → ((values : List Bytes) → read (option_pairs values) ≡ setting (effective_settings values)) → (s : Keyspaces) (trees : Forest) (id : ℕ)
    → read (options_in (store_of s trees) id) ≡ said setting (option_map (λ k. k.options) (keyspace_at id s.living))
held read setting none same s trees id = ap (λ (o : Option Options). read (unwrap_or o [])) (settings s [] id) ∙ by (keyspace_at id s.living)
  where
    by : (found : Option LivingKeyspace) → read (unwrap_or (option_map (λ (k : LivingKeyspace). option_pairs k.options) found) []) ≡ said setting (option_map (λ (k : LivingKeyspace). k.options) found)
    by None = none
    by (Some k) = same k.options

pub held_threshold : (s : Keyspaces) (trees : Forest) (id : ℕ) → l0_threshold (options_in (store_of s trees) id) ≡ said (λ settings. settings.l0_threshold) (option_map (λ k. k.options) (keyspace_at id s.living))
held_threshold = held l0_threshold (λ settings. settings.l0_threshold) refl threshold_is

pub held_target : (s : Keyspaces) (trees : Forest) (id : ℕ) → target_size (options_in (store_of s trees) id) ≡ said (λ settings. settings.target_size) (option_map (λ k. k.options) (keyspace_at id s.living))
held_target = held target_size (λ settings. settings.target_size) refl target_is
