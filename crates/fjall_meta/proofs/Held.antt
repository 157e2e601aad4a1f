-- What the store has under the id of a keyspace.
use Rattle.std.proofs.Common.{◌≡◌, ℕ, ◌^◌, List, All, Option, None, Some, unwrap_or, refl, sym, ◌∙◌, ap}
use Rattle.std.proofs.lemmas.List.Elements.{All-weaker}
use Rattle.std.specs.Option.{option_map}
use Rattle.std.specs.FinMap.{empty, get}
use Rattle.fjall_base.specs.Pairs.{Bytes}
use Rattle.fjall_base.specs.Store.{map_at}
use Rattle.fjall_journal.specs.Batches.{Shown}
use Rattle.fjall_meta.specs.declared.living.LivingKeyspace.{LivingKeyspace}
use Rattle.fjall_meta.specs.Keyspaces.{Keyspaces, keyspace_at}
use Rattle.fjall_meta.specs.Replays.{by_id}
use Rattle.fjall_meta.proofs.Ids.{living_has, own_id}
use Rattle.fjall_meta.proofs.LivingContents.{get_by_id}
use Rattle.fjall_meta.proofs.Slots.{same_maps}
use Rattle.fjall_memtable.specs.Views.{value_at}
use Rattle.fjall_memtable.proofs.Shown.{same_views}
use Rattle.fjall_meta.specs.Contents.{Stored, clears_held, map_held, store_held, versions_held}

-- ---- by ids

-- what is told of ids stands under each that lives
pub has_at : {X : Type 0} (has : ℕ → X) (living : List LivingKeyspace) (id : ℕ)
    → get (by_id (λ k. has k.id) living) id ≡ option_map (λ k. has id) (keyspace_at id living)
has_at {X} has living id = get_by_id (λ k. has k.id) living id ∙ by (keyspace_at id living) refl
  where
    by : (found : Option LivingKeyspace) → keyspace_at id living ≡ found
        → option_map (λ (k : LivingKeyspace). has k.id) found ≡ option_map (λ (k : LivingKeyspace). has id) found
    by None e = refl
    by (Some k) e = ap (λ i. Some (has i)) (own_id living id k e)

-- ---- the store's maps

pub held_at : (s : Keyspaces) (stored : ℕ → Stored) (batches : List Shown) (id : ℕ)
    → get (store_held s stored batches).maps id ≡ option_map (λ k. map_held s (stored id) id batches) (keyspace_at id s.living)
held_at s stored batches id = has_at (λ i. map_held s (stored i) i batches) s.living id

pub a_living_one_reads : (s : Keyspaces) (stored : ℕ → Stored) (batches : List Shown) (id : ℕ) (k : LivingKeyspace) → keyspace_at id s.living ≡ Some k
    → map_at (store_held s stored batches).maps id ≡ map_held s (stored id) id batches
a_living_one_reads s stored batches id k e =
    ap (λ o. unwrap_or o empty) (held_at s stored batches id ∙ ap (option_map (λ (j : LivingKeyspace). map_held s (stored id) id batches)) e)

pub others_have_none : (s : Keyspaces) (stored : ℕ → Stored) (batches : List Shown) (id : ℕ) → keyspace_at id s.living ≡ None
    → get (store_held s stored batches).maps id ≡ None
others_have_none s stored batches id e = held_at s stored batches id ∙ ap (option_map (λ (j : LivingKeyspace). map_held s (stored id) id batches)) e

-- ---- the same store

-- where each living keyspace has the same map
pub same_stores : (s : Keyspaces) (stored other : ℕ → Stored) (batches others : List Shown)
    → All (λ k. map_held s (stored k.id) k.id batches ≡ map_held s (other k.id) k.id others) s.living
    → store_held s stored batches ≡ store_held s other others
same_stores s stored other batches others same =
    let maps = same_maps (store_held s stored batches).maps (store_held s other others).maps
    (λ id. held_at s stored batches id ∙ by id (keyspace_at id s.living) refl ∙ sym (held_at s other others id)) in
    λ i. record { names = (store_held s stored batches).names; maps = maps i; options = (store_held s stored batches).options; next = s.next }
  where
    by : (id : ℕ) (found : Option LivingKeyspace) → keyspace_at id s.living ≡ found
        → option_map (λ (k : LivingKeyspace). map_held s (stored id) id batches) found ≡ option_map (λ (k : LivingKeyspace). map_held s (other id) id others) found
    by id None e = refl
    by id (Some k) e =
        ap Some (living_has (λ j. map_held s (stored j) j batches ≡ map_held s (other j) j others) s.living id k e same)

-- where the same is stored of each living keyspace
pub same_stored : (s : Keyspaces) (stored other : ℕ → Stored) (batches : List Shown) → All (λ k. stored k.id ≡ other k.id) s.living
    → store_held s stored batches ≡ store_held s other batches
same_stored s stored other batches same =
    same_stores s stored other batches batches
    (All-weaker (λ k. stored k.id ≡ other k.id) (λ k. map_held s (stored k.id) k.id batches ≡ map_held s (other k.id) k.id batches)
    (λ k e. ap (λ h. map_held s h k.id batches) e) s.living same)

pub views_alone_matter : (s : Keyspaces) (stored other : ℕ → Stored) (batches others : List Shown)
    → All (λ k. (key : Bytes) → value_at key (2 ^ 63) (clears_held s (stored k.id) k.id batches) (versions_held s (stored k.id) k.id batches)
    ≡ value_at key (2 ^ 63) (clears_held s (other k.id) k.id others) (versions_held s (other k.id) k.id others)) s.living
    → store_held s stored batches ≡ store_held s other others
views_alone_matter s stored other batches others same =
    same_stores s stored other batches others
    (All-weaker (λ k. (key : Bytes) → value_at key (2 ^ 63) (clears_held s (stored k.id) k.id batches) (versions_held s (stored k.id) k.id batches)
    ≡ value_at key (2 ^ 63) (clears_held s (other k.id) k.id others) (versions_held s (other k.id) k.id others))
    (λ k. map_held s (stored k.id) k.id batches ≡ map_held s (other k.id) k.id others)
    (λ k each. same_views (2 ^ 63) (clears_held s (stored k.id) k.id batches) (clears_held s (other k.id) k.id others)
    (versions_held s (stored k.id) k.id batches) (versions_held s (other k.id) k.id others) each) s.living same)
