-- The names that keyspaces rest on, and names whose removal leaves them.
use Rattle.std.proofs.Common.{◌≡◌, ◌≢◌, inl, inr, ℕ, List, [], ◌∷◌, codes, Option, None, Some, refl, sym, subst}
use Rattle.std.specs.List.{AllByRecursion}
use Rattle.std.specs.FinMap.{get}
use Rattle.fjall_base.specs.Disk.{Name, Missing, DiskState, Image, Meaning, Survives, LeavesBy, LeavesOnly, after, folder_of, put, state_in}
use Rattle.fjall_base.proofs.States.{differs, put-other}
use Rattle.fjall_files.proofs.Parts.{in_region}
use Rattle.fjall_manifest.specs.Records.{Fields}
use Rattle.fjall_files.specs.Names.{IsNameOf, keyspace_folder}
use Rattle.fjall_manifest.specs.Homes.{Home}
use Rattle.fjall_manifest.proofs.Resting.{At, at_more, rests_along as home_rests_along}
use Rattle.fjall_meta.specs.declared.living.LivingKeyspace.{LivingKeyspace}
use Rattle.fjall_meta.specs.Keyspaces.{keyspace_at}
use Rattle.fjall_manifest.specs.Catalog.{listed}
use Rattle.fjall_manifest.proofs.CatalogResting.{rests_along}
use Rattle.fjall_recovery.specs.Halves.{HasTree, Tree, is_of_keyspaces}
use Rattle.fjall_recovery.specs.Places.{HasSafeHomeAt, IsNeverFolder, RestsInTree}
use Rattle.fjall_recovery.proofs.Trees.{crashes_leave_the_tree}
use Rattle.fjall_repair.specs.Sweeps.{RemovesNames, removals}

-- what holds at each name that keyspaces rest on
pub record AtTree (t : Tree) (P : Name → Type 0) : Type 0 where
  pub catalog : At 0 (listed t.last.table) P
  pub homes : (id : ℕ) (h : Home) → get t.homes id ≡ Some h → At id h.last.tables P
  pub strays : (name : Name) → folder_of name ≡ codes "keyspaces" → ((id : ℕ) → IsNameOf keyspace_folder name id → ⊥) → P name

pub tree_more : (t : Tree) (P Q : Name → Type 0) → ((q : Name) → P q → Q q) → AtTree t P → AtTree t Q
tree_more t P Q to at = record {
  catalog = at_more 0 (listed t.last.table) P Q to at.catalog;
  homes = λ id h is. at_more id h.last.tables P Q to (at.homes id h is);
  strays = λ name inside stray. to name (at.strays name inside stray);
}

-- what stands at those names is all that matters
home_along : (old new : DiskState) (id : ℕ) (k : Option LivingKeyspace) (h : Option Home) → ((i : Home) → h ≡ Some i → At id i.last.tables (λ q. new q ≡ old q)) → HasSafeHomeAt old id k h → HasSafeHomeAt new id k h
home_along old new id (Some k) (Some h) at have = record { records = have.records; rests = home_rests_along old new id have.records h (at h refl) have.rests; indexes = have.indexes; indexed = have.indexed; clears = have.clears }
home_along old new id None None at have = tt
home_along old new id (Some k) None at have = absurd have
home_along old new id None (Some h) at have = absurd have

pub tree_along : (old new : DiskState) (records : List Fields) (t : Tree) → AtTree t (λ q. new q ≡ old q) → RestsInTree old records t → RestsInTree new records t
tree_along old new records t at rests = record {
  named = λ name inside stray. subst IsNeverFolder (sym (at.strays name inside stray)) (rests.named name inside stray);
  catalog = rests_along old new records t.last t.keyspaces at.catalog rests.catalog;
  made = rests.made;
  homes = λ id. home_along old new id (keyspace_at id t.keyspaces.living) (get t.homes id) (at.homes id) (rests.homes id);
  versions = rests.versions;
}

-- keyspaces don't rest on this name
abbrev pub IsSpare : Tree → Name → Type 0
IsSpare t name = AtTree t (λ q. q ≢ name)

one_spared : (state : DiskState) (records : List Fields) (t : Tree) (name : Name) → IsSpare t name → RestsInTree state records t → RestsInTree (put state name Missing) records t
one_spared state records t name spare rests =
    tree_along state (put state name Missing) records t (tree_more t (λ q. q ≢ name) (λ q. put state name Missing q ≡ state q) (λ q other. put-other state name Missing q (differs q name other)) spare) rests

all_spared : (state : DiskState) (records : List Fields) (t : Tree) (names : List Name) → AllByRecursion (IsSpare t) names → RestsInTree state records t → RestsInTree (after state (removals names)) records t
all_spared state records t [] spare rests = rests
all_spared state records t (name ∷ names) spare rests = all_spared (put state name Missing) records t names spare.1 (one_spared state records t name spare.0 rests)

pub moments : (state : DiskState) (records : List Fields) (t : Tree) (names : List Name) (image : Image) → AllByRecursion (IsSpare t) names → RestsInTree state records t → LeavesBy Survives state (removals names) image → HasTree image t
moments state records t [] image spare rests left = crashes_leave_the_tree state image records t rests (in_region is_of_keyspaces state image left)
moments state records t (name ∷ names) image spare rests (inl now) = crashes_leave_the_tree state image records t rests (in_region is_of_keyspaces state image now)
moments state records t (name ∷ names) image spare rests (inr later) = moments (put state name Missing) records t names image spare.1 (one_spared state records t name spare.0 rests) later

module _ (records : List Fields) (t : Tree) (old new : Meaning) (run : RemovesNames (IsSpare t) old new) (rests : RestsInTree (state_in old) records t) where
  -- the keyspaces rest as before
  pub spared : RestsInTree (state_in new) records t
  spared = subst (λ (state : DiskState). RestsInTree state records t) (sym run.took.state) (all_spared (state_in old) records t run.names run.each rests)

  -- and at each moment they are left
  pub spared_run : LeavesOnly old new (λ image. HasTree image t)
  spared_run = record { added = removals run.names; took = run.took; each = λ image left. moments (state_in old) records t run.names image run.each rests left }
