-- Which keyspaces persist by hand.
use Rattle.std.proofs.Common.{◌≡◌, ℕ, ◌&&◌, Bool, true, false, cond, List, [], Option, None, Some, unwrap_or, codes, refl, sym, ap, ◌∙◌}
use Rattle.std.specs.Option.{is_some, option_map}
use Rattle.std.specs.FinMap.{contains_key, get, get-retain_keys, nat_cmp-IsAntisymmetric}
use Rattle.fjall_base.specs.Pairs.{Bytes}
use Rattle.fjall_base.specs.Store.{Options, Store, kept}
use Rattle.fjall_meta.specs.declared.living.LivingKeyspace.{LivingKeyspace}
use Rattle.fjall_meta.specs.Keyspaces.{Keyspaces, keyspace_at}
use Rattle.fjall_options.specs.declared.options.stored_option.StoredOption.TheVariants.{ManualJournalPersist}
use Rattle.fjall_options.specs.Options.{effective_settings, is_set, value_at, value_of}
use Rattle.fjall_meta.specs.Replays.{option_pairs}
use Rattle.fjall_meta.proofs.Naming.{settings}
use Rattle.fjall_trees.specs.Forests.{Forest}
use Rattle.fjall_trees.specs.Maps.{store_of}
use Rattle.fjall_trees.specs.MapTables.{store_with}
use Rattle.fjall_machine.specs.Machine.{State, is_by_hand, persists_by_hand, present}
use Rattle.fjall_machine.specs.Remembered.{MemoryStandsFor, Remembered}
use Rattle.fjall_machine.proofs.Facts.{living_names}

-- ---- what is held

pair_found : (values : List Bytes) → value_of (codes "manual_journal_persist") (option_pairs values) ≡ Some (value_at ManualJournalPersist values)
unfolding option_pairs
pair_found values = refl

-- the settings of a store say what the options do
settings_say : (values : List Bytes) → is_by_hand (option_pairs values) ≡ (effective_settings values).manual_journal_persist
unfolding effective_settings
settings_say values = ap (λ (o : Option Bytes). is_set (unwrap_or o [])) (pair_found values)

-- the options of a keyspace, where it is there, say that it persists by hand
abbrev pub says_by_hand : Option (List Bytes) → Bool
says_by_hand None = false
says_by_hand (Some values) = (effective_settings values).manual_journal_persist

found_says : (found : Option LivingKeyspace) → (is_some found && is_by_hand (unwrap_or (option_map (λ (k : LivingKeyspace). option_pairs k.options) found) [])) ≡ says_by_hand (option_map (λ (k : LivingKeyspace). k.options) found)
found_says None = refl
found_says (Some k) = settings_say k.options

pub held_says : (s : Keyspaces) (trees : Forest) (id : ℕ) → persists_by_hand (store_of s trees) id ≡ says_by_hand (option_map (λ k. k.options) (keyspace_at id s.living))
held_says s trees id =
    ap (λ b. b && is_by_hand (unwrap_or (get (store_of s trees).options id) [])) (living_names s trees id)
    ∙ ap (λ (o : Option Options). is_some (keyspace_at id s.living) && is_by_hand (unwrap_or o [])) (settings s [] id)
    ∙ found_says (keyspace_at id s.living)

-- ---- what is kept

both_times : (b : Bool) (o : Option Options) → (b && is_by_hand (unwrap_or (cond b o None) [])) ≡ (b && is_by_hand (unwrap_or o []))
both_times true o = refl
both_times false o = refl

kept_says : (s : Store) (id : ℕ) → persists_by_hand (kept s) id ≡ persists_by_hand s id
kept_says s id =
    let p = contains_key s.names in
    ap (λ (o : Option Options). p id && is_by_hand (unwrap_or o [])) (get-retain_keys s.options p id (λ x e. ap p (sym (nat_cmp-IsAntisymmetric id x e))))
    ∙ both_times (p id) (get s.options id)

-- the store of trees over tables has the options that the store of memory has
pub options_agree : (m : Remembered) (table : ℕ) (s : State) → MemoryStandsFor m table s → (id : ℕ) → persists_by_hand (present s) id ≡ persists_by_hand (store_of m.keyspaces m.trees) id
options_agree m table s stands id = sym (kept_says (present s) id) ∙ ap (λ (t : Store). persists_by_hand t id) stands.present ∙ kept_says (store_with s.parts.entries m.keyspaces m.trees) id
