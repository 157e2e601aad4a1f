-- The map of homes: what it has under the id of each keyspace.
use Rattle.std.proofs.Common.{◌≡◌, ℕ, ◌==◌, Bool, true, false, cond, List, All, Option, None, Some, is_some, refl, sym, ◌∙◌, ap, subst}
use Rattle.std.specs.List.{AllByRecursion}
use Rattle.std.proofs.lemmas.List.Elements.{All-weaker, recursion_from_All}
use Rattle.std.specs.FinMap.{get, insert}
use Rattle.fjall_base.specs.Disk.{Name, Image, DiskState}
use Rattle.fjall_files.specs.Names.{keyspace_folder}
use Rattle.fjall_files.specs.Regions.{is_under}
use Rattle.fjall_manifest.specs.Records.{view}
use Rattle.fjall_manifest.specs.declared.reading.LoadedHome.{LoadedHome}
use Rattle.fjall_manifest.specs.Homes.{Home}
use Rattle.fjall_manifest.specs.Reading.{IsHomeOpenable}
use Rattle.fjall_manifest.proofs.Meanings.{home_alike}
use Rattle.fjall_manifest.proofs.Openings.{one_loading}
use Rattle.fjall_meta.specs.declared.living.LivingKeyspace.{LivingKeyspace}
use Rattle.fjall_meta.specs.Keyspaces.{keyspace_at}
use Rattle.fjall_meta.proofs.Ids.{each_lives, living_has}
use Rattle.fjall_meta.proofs.Slots.{get_put, same_id}
use Rattle.fjall_recovery.specs.Homes.{ClearsAreWithin, HasHomeAt, HasOpenableHome, HaveHomes, Homes, IsHomeRead}
use Rattle.fjall_recovery.specs.Places.{HasSafeHome, HasSafeHomeAt, HaveSafeHomes}

-- ---- one home

-- an opening finds its files right, to the ends of its tables
pub openable_of : (image : Image) (id : ℕ) (h : Home) → (has : HasOpenableHome image id h) → IsHomeOpenable image id has.records h has.indexes
openable_of image id h has = record { files = has.home.files; indexed = has.indexed }

-- a home that was read is there
pub home_was_read : (image : Image) (id : ℕ) (home : LoadedHome) → (is : IsHomeRead image id home) → HasOpenableHome image id is.loaded.h
home_was_read image id home is = record {
  records = is.loaded.records;
  home = record { folder = is.folder; files = is.loaded.openable.files };
  indexes = is.loaded.indexes;
  indexed = is.loaded.openable.indexed;
  clears = subst ClearsAreWithin is.loaded.record_is is.clears;
}

-- and its last record is the one that was read
pub last_was_read : (image : Image) (id : ℕ) (h : Home) (home : LoadedHome) → HasOpenableHome image id h → IsHomeRead image id home → view home.record ≡ h.last
last_was_read image id h home has is = (one_loading image id has.records h has.indexes home (openable_of image id h has) is.loaded).0

-- two images that agree in the keyspace's folder have the same home
pub plain_alike : (image other : Image) (id : ℕ) (h : Home) → ((q : Name) → is_under (keyspace_folder id) q ≡ true → other q ≡ image q) → HasOpenableHome image id h → HasOpenableHome other id h
plain_alike image other id h agree has = record {
  records = has.records;
  home = home_alike image other id agree has.records h has.home;
  indexes = has.indexes;
  indexed = has.indexed;
  clears = has.clears;
}

-- ---- homes that are carried over, where something holds of all ids

module _ (P : ℕ → Type 0) (living : List LivingKeyspace) (homes : Homes) (all : All (λ k. P k.id) living) where
  -- to another state
  pub along_at : (old new : DiskState) (id : ℕ) → ((h : Home) → P id → HasSafeHome old id h → HasSafeHome new id h) → HasSafeHomeAt old id (keyspace_at id living) (get homes id)
      → HasSafeHomeAt new id (keyspace_at id living) (get homes id)
  along_at old new id each = of (keyspace_at id living) refl (get homes id)
    where
      of : (k : Option LivingKeyspace) → keyspace_at id living ≡ k → (h : Option Home) → HasSafeHomeAt old id k h → HasSafeHomeAt new id k h
      of (Some k) at (Some h) has = each h (living_has P living id k at all) has
      of (Some k) at None has = absurd has
      of None at (Some h) has = absurd has
      of None at None has = tt

  pub homes_along : (old new : DiskState) → ((id : ℕ) (h : Home) → P id → HasSafeHome old id h → HasSafeHome new id h) → HaveSafeHomes old living homes → HaveSafeHomes new living homes
  homes_along old new each safe id = along_at old new id (each id) (safe id)

  -- to an image of it
  pub left_at : (state : DiskState) (image : Image) (id : ℕ) → ((h : Home) → P id → HasSafeHome state id h → HasOpenableHome image id h) → HasSafeHomeAt state id (keyspace_at id living) (get homes id)
      → HasHomeAt image id (keyspace_at id living) (get homes id)
  left_at state image id each = of (keyspace_at id living) refl (get homes id)
    where
      of : (k : Option LivingKeyspace) → keyspace_at id living ≡ k → (h : Option Home) → HasSafeHomeAt state id k h → HasHomeAt image id k h
      of (Some k) at (Some h) has = each h (living_has P living id k at all) has
      of (Some k) at None has = absurd has
      of None at (Some h) has = absurd has
      of None at None has = tt

  pub homes_left : (state : DiskState) (image : Image) → ((id : ℕ) (h : Home) → P id → HasSafeHome state id h → HasOpenableHome image id h) → HaveSafeHomes state living homes → HaveHomes image living homes
  homes_left state image each safe id = left_at state image id (each id) (safe id)

  -- to another image
  pub alike_at : (image other : Image) (id : ℕ) → ((h : Home) → P id → HasOpenableHome image id h → HasOpenableHome other id h) → HasHomeAt image id (keyspace_at id living) (get homes id)
      → HasHomeAt other id (keyspace_at id living) (get homes id)
  alike_at image other id each = of (keyspace_at id living) refl (get homes id)
    where
      of : (k : Option LivingKeyspace) → keyspace_at id living ≡ k → (h : Option Home) → HasHomeAt image id k h → HasHomeAt other id k h
      of (Some k) at (Some h) has = each h (living_has P living id k at all) has
      of (Some k) at None has = absurd has
      of None at (Some h) has = absurd has
      of None at None has = tt

  pub homes_alike : (image other : Image) → ((id : ℕ) (h : Home) → P id → HasOpenableHome image id h → HasOpenableHome other id h) → HaveHomes image living homes → HaveHomes other living homes
  homes_alike image other each have id = alike_at image other id (each id) (have id)

-- ---- where they are found

-- a keyspace that lives has one
abbrev pub IsHoused : Image → Homes → ℕ → Type 0
IsHoused image homes id = (h : Home) × (get homes id ≡ Some h) × HasOpenableHome image id h

pub is_housed : (image : Image) (living : List LivingKeyspace) (homes : Homes) (id : ℕ) → HaveHomes image living homes → is_some (keyspace_at id living) ≡ true → IsHoused image homes id
is_housed image living homes id have lives = of (keyspace_at id living) (get homes id) refl lives (have id)
  where
    of : (k : Option LivingKeyspace) (h : Option Home) → get homes id ≡ h → is_some k ≡ true → HasHomeAt image id k h → IsHoused image homes id
    of (Some k) (Some h) at lives has = (h, at, has)
    of (Some k) None at lives has = absurd has
    of None h at lives has = let no : false ≡ true = lives in cc

-- so each of them has
pub all_housed : (image : Image) (living : List LivingKeyspace) (homes : Homes) → HaveHomes image living homes → AllByRecursion (λ k. IsHoused image homes k.id) living
all_housed image living homes have =
    recursion_from_All (λ (k : LivingKeyspace). IsHoused image homes k.id) living
    (All-weaker (λ (k : LivingKeyspace). is_some (keyspace_at k.id living) ≡ true) (λ (k : LivingKeyspace). IsHoused image homes k.id) (λ k lives. is_housed image living homes k.id have lives) living (each_lives living))

-- ---- one home more, or another one

module _ (living : List LivingKeyspace) (homes : Homes) (id : ℕ) (h : Home) (lives : is_some (keyspace_at id living) ≡ true) where
  lives_at : (q : ℕ) → (q == id) ≡ true → is_some (keyspace_at q living) ≡ true
  lives_at q is = ap (λ i. is_some (keyspace_at i living)) (same_id q id is) ∙ lives

  put_at : (q : ℕ) (b : Bool) → (q == id) ≡ b → get (insert homes id h) q ≡ cond b (Some h) (get homes q)
  put_at q b is = get_put homes id h q ∙ ap (λ c. cond c (Some h) (get homes q)) is

  pub homes_with : (image : Image) → HasOpenableHome image id h → ((q : ℕ) → (q == id) ≡ false → HasHomeAt image q (keyspace_at q living) (get homes q)) → HaveHomes image living (insert homes id h)
  homes_with image one others q = of (q == id) refl
    where
      at : (k : Option LivingKeyspace) → is_some k ≡ true → HasOpenableHome image q h → HasHomeAt image q k (Some h)
      at (Some k) some has = has
      at None some has = let no : false ≡ true = some in cc

      of : (b : Bool) → (q == id) ≡ b → HasHomeAt image q (keyspace_at q living) (get (insert homes id h) q)
      of true is = subst (λ (o : Option Home). HasHomeAt image q (keyspace_at q living) o) (sym (put_at q true is))
          (at (keyspace_at q living) (lives_at q is) (subst (λ i. HasOpenableHome image i h) (sym (same_id q id is)) one))
      of false is = subst (λ (o : Option Home). HasHomeAt image q (keyspace_at q living) o) (sym (put_at q false is)) (others q is)

  pub safe_homes_with : (state : DiskState) → HasSafeHome state id h → ((q : ℕ) → (q == id) ≡ false → HasSafeHomeAt state q (keyspace_at q living) (get homes q)) → HaveSafeHomes state living (insert homes id h)
  safe_homes_with state one others q = of (q == id) refl
    where
      at : (k : Option LivingKeyspace) → is_some k ≡ true → HasSafeHome state q h → HasSafeHomeAt state q k (Some h)
      at (Some k) some has = has
      at None some has = let no : false ≡ true = some in cc

      of : (b : Bool) → (q == id) ≡ b → HasSafeHomeAt state q (keyspace_at q living) (get (insert homes id h) q)
      of true is = subst (λ (o : Option Home). HasSafeHomeAt state q (keyspace_at q living) o) (sym (put_at q true is))
          (at (keyspace_at q living) (lives_at q is) (subst (λ i. HasSafeHome state i h) (sym (same_id q id is)) one))
      of false is = subst (λ (o : Option Home). HasSafeHomeAt state q (keyspace_at q living) o) (sym (put_at q false is)) (others q is)
