-- The store of keyspaces whose maps are given: what it has under an id, and where it is the same.
use Rattle.std.proofs.Common.{◌≡◌, ℕ, All, Option, None, Some, unwrap_or, refl, sym, ap, ◌∙◌}
use Rattle.std.specs.Option.{option_map}
use Rattle.std.specs.FinMap.{empty, get}
use Rattle.fjall_base.specs.Pairs.{Pairs}
use Rattle.fjall_base.specs.Store.{kept, map_at}
use Rattle.fjall_meta.specs.declared.living.LivingKeyspace.{LivingKeyspace}
use Rattle.fjall_meta.specs.Keyspaces.{Keyspaces, keyspace_at}
use Rattle.fjall_meta.specs.Replays.{option_pairs}
use Rattle.fjall_meta.proofs.Ids.{living_has, own_id}
use Rattle.fjall_meta.proofs.Keeping.{nothing_at}
use Rattle.fjall_meta.proofs.Kept.{all_are_kept}
use Rattle.fjall_meta.proofs.LivingContents.{get_by_id}
use Rattle.fjall_meta.proofs.Slots as Slots
use Rattle.fjall_trees.specs.MapTables.{store_by}

pub held_by : (pairs : ℕ → Pairs) (s : Keyspaces) (id : ℕ) → get (store_by pairs s).maps id ≡ option_map (λ k. pairs id) (keyspace_at id s.living)
held_by pairs s id = get_by_id (λ k. pairs k.id) s.living id ∙ by (keyspace_at id s.living) refl
  where
    by : (found : Option LivingKeyspace) → keyspace_at id s.living ≡ found → option_map (λ (k : LivingKeyspace). pairs k.id) found ≡ option_map (λ (k : LivingKeyspace). pairs id) found
    by None e = refl
    by (Some k) e = ap (λ (i : ℕ). Some (pairs i)) (own_id s.living id k e)

-- where a keyspace lives its map stands
pub living_by : (pairs : ℕ → Pairs) (s : Keyspaces) (id : ℕ) (k : LivingKeyspace) → keyspace_at id s.living ≡ Some k → get (store_by pairs s).maps id ≡ Some (pairs id)
living_by pairs s id k is = held_by pairs s id ∙ ap (option_map (λ (j : LivingKeyspace). pairs id)) is

pub reads_by : (pairs : ℕ → Pairs) (s : Keyspaces) (id : ℕ) (k : LivingKeyspace) → keyspace_at id s.living ≡ Some k → map_at (store_by pairs s).maps id ≡ pairs id
reads_by pairs s id k is = ap (λ o. unwrap_or o empty) (living_by pairs s id k is)

-- the store holds nothing of other keyspaces than those that live
pub kept_by : (pairs : ℕ → Pairs) (s : Keyspaces) → kept (store_by pairs s) ≡ store_by pairs s
kept_by pairs s = all_are_kept (store_by pairs s) (λ id none. nothing_at (λ k. pairs k.id) s id none) (λ id none. nothing_at (λ k. option_pairs k.options) s id none)

-- where each living keyspace has the same map, the store is the same
pub same_by : (pairs others : ℕ → Pairs) (s : Keyspaces) → All (λ k. pairs k.id ≡ others k.id) s.living → store_by pairs s ≡ store_by others s
same_by pairs others s same =
    Slots.same_store (store_by pairs s) (store_by others s) refl (λ id. held_by pairs s id ∙ by id (keyspace_at id s.living) refl ∙ sym (held_by others s id)) refl refl
  where
    by : (id : ℕ) (found : Option LivingKeyspace) → keyspace_at id s.living ≡ found → option_map (λ (k : LivingKeyspace). pairs id) found ≡ option_map (λ (k : LivingKeyspace). others id) found
    by id None e = refl
    by id (Some k) e = ap Some (living_has (λ j. pairs j ≡ others j) s.living id k e same)
