-- Keyspaces that live, and the home of each of them.
use Rattle.std.proofs.Common.{◌≡◌, ℕ, suc, ◌<◌, ◌^◌, true, All, List, [], ◌∷◌, Option, Some, None, is_some, get_or, map, refl, arith}
use Rattle.std.specs.List.{AllByRecursion, Contains}
use Rattle.std.specs.FinMap.{get}
use Rattle.std.proofs.lemmas.List.Elements.{All-contains, All-contains_itself, All-map}
use Rattle.fjall_base.specs.Disk.{DiskState, Image}
use Rattle.fjall_manifest.specs.Homes.{Home}
use Rattle.fjall_meta.specs.declared.living.LivingKeyspace.{LivingKeyspace}
use Rattle.fjall_meta.specs.Keyspaces.{Keyspaces, AreKeyspaces, keyspace_at}
use Rattle.fjall_meta.proofs.Ids.{each_lives, living_has}
use Rattle.fjall_recovery.specs.Homes.{HasHomeAt, HasOpenableHome, HaveHomes, Homes}
use Rattle.fjall_recovery.specs.Places.{HasSafeHome, HasSafeHomeAt, HaveSafeHomes}
use Rattle.fjall_recovery.proofs.Housing.{homes_alike}
use Rattle.fjall_repair.specs.Sweeps.{KeyspaceLives}
use Rattle.fjall_repair.proofs.Items.{contains_map}

-- ---- ids

-- the ids of tree 0 and of all that live
abbrev pub ids_with : List LivingKeyspace → List ℕ
ids_with living = 0 ∷ map (λ (k : LivingKeyspace). k.id) living

-- have 64 bits
pub ids_fit : (s : Keyspaces) → AreKeyspaces s → AllByRecursion (λ id. id < 2 ^ 64) (ids_with s.living)
ids_fit s are = (omega arith, of s.living are.given)
  where
    of : (living : List LivingKeyspace) → All (λ k. k.id < s.next) living → AllByRecursion (λ id. id < 2 ^ 64) (map (λ (k : LivingKeyspace). k.id) living)
    of [] all = tt
    of (k ∷ living) all = ((let lt = all 0 k (omega arith) in let fits = are.fits in omega (arith, lt, fits)), of living (λ i d lt. all (suc i) d (omega (arith, lt))))

-- one that lives is among them
pub with_living : (living : List LivingKeyspace) (id : ℕ) → KeyspaceLives living id → Contains (ids_with living) id
with_living living id lives = (suc lives.0, (let lt = lives.1 in omega (arith, lt)), lives.2)

all_live : (living : List LivingKeyspace) → All (λ k. KeyspaceLives living k.id) living
all_live living i d lt = contains_map (λ (k : LivingKeyspace). k.id) living (get_or living i d) (All-contains_itself living i d lt)

-- one of an id that lives is found
pub lives_found : (living : List LivingKeyspace) (id : ℕ) → KeyspaceLives living id → is_some (keyspace_at id living) ≡ true
lives_found living id lives =
    All-contains (λ i. is_some (keyspace_at i living) ≡ true) (map (λ (k : LivingKeyspace). k.id) living) id
    (All-map (λ i. is_some (keyspace_at i living) ≡ true) (λ (k : LivingKeyspace). k.id) living (each_lives living)) lives

-- ---- homes

module _ (image : Image) (living : List LivingKeyspace) (homes : Homes) where
  -- another image has them where it has each of them
  pub have_along : (other : Image) → ((id : ℕ) (h : Home) → KeyspaceLives living id → HasOpenableHome image id h → HasOpenableHome other id h) → HaveHomes image living homes → HaveHomes other living homes
  have_along other each have = homes_alike (KeyspaceLives living) living homes (all_live living) image other each have

  -- they are safe on a disk where each of them is
  pub homes_safe : (state : DiskState) → ((id : ℕ) (h : Home) → KeyspaceLives living id → get homes id ≡ Some h → HasOpenableHome image id h → HasSafeHome state id h) → HaveHomes image living homes → HaveSafeHomes state living homes
  homes_safe state each have id = of (keyspace_at id living) refl (get homes id) refl (have id)
    where
      of : (k : Option LivingKeyspace) → keyspace_at id living ≡ k → (h : Option Home) → get homes id ≡ h → HasHomeAt image id k h → HasSafeHomeAt state id k h
      of (Some k) at (Some h) is has = each id h (living_has (KeyspaceLives living) living id k at (all_live living)) is has
      of (Some k) at None is has = absurd has
      of None at (Some h) is has = absurd has
      of None at None is has = tt
