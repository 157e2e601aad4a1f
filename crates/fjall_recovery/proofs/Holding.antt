-- What a disk holds where nothing on it waits for a sync.
use Rattle.std.proofs.Common.{◌≡◌, ◌⊎◌, inl, inr, ⊎_elim, ℕ, zero, suc, ◌+◌, ◌<◌, List, [], ◌∷◌, ◌++◌, length, Option, None, Some, refl, sym, ◌∙◌, subst, arith}
use Rattle.fjall_base.specs.Disk.{Name, DiskEntry, Missing, File, Folder, DiskState, Image, DiskStep, Survives, SomeSurvives, IsImage, IsThere, Leaves, change, disk_of, folder_of, standing}
use Rattle.fjall_base.proofs.States.{survives_whole}
use Rattle.fjall_files.proofs.Parts.{in_region}
use Rattle.fjall_files.proofs.Under.{folder_is_shorter}
use Rattle.fjall_journal.specs.Batches.{Written}
use Rattle.fjall_manifest.specs.Records.{Fields}
use Rattle.fjall_recovery.specs.Folders.{Contents, ImageStandsFor, IsOpenable, IsSound}
use Rattle.fjall_recovery.specs.Halves.{HasRoot, HasTree, Tree, is_of_keyspaces, is_of_root}
use Rattle.fjall_recovery.specs.Held.{Holds, IsFolder, store_of_folder}
use Rattle.fjall_recovery.specs.Places.{Journaling, LiesInRoot, RestsInTree, contents_with}
use Rattle.fjall_recovery.proofs.Roots.{HasSomeRoot, crashes_leave_the_root, standing_root}
use Rattle.fjall_recovery.proofs.Trees.{crashes_leave_the_tree, standing_tree}

-- ---- both halves

abbrev pub tree_of : Contents → Tree
tree_of c = record { last = c.last; keyspaces = c.keyspaces; homes = c.homes; versions = c.versions }

pub made : (image : Image) (c : Contents) → HasRoot image c.journals → HasTree image (tree_of c) → IsSound image c
made image c root tree = record {
  openable = record {
    marker = root.marker;
    journals_named = root.named;
    journals = root.holds;
    keyspaces_named = tree.named;
    folder = tree.folder;
    records = tree.records;
    catalog = tree.catalog;
    made = tree.made;
    homes = tree.homes;
  };
  versions = tree.versions;
}

pub root_of : (image : Image) (c : Contents) → IsOpenable image c → HasRoot image c.journals
root_of image c sound = record { marker = sound.marker; named = sound.journals_named; holds = sound.journals }

pub folder_stands : (image : Image) (folder : Option Contents) → IsFolder image folder → ImageStandsFor image (store_of_folder folder)
folder_stands image None begun = inr (begun, refl)
folder_stands image (Some c) sound = inl (c, sound, refl)

-- ---- what a crash of a crash leaves

-- nothing that waits for a sync
abbrev pub IsRested : DiskEntry → Type 0
IsRested entry = (left : DiskEntry) → Survives entry left → left ≡ entry

rested_left : (entry left : DiskEntry) → Survives entry left → IsRested left
rested_left Missing left is = subst IsRested (sym is) (λ more at. at)
rested_left (File synced unsynced) left some = subst IsRested (sym some.1) (λ more at. survives_whole _ more at)
rested_left Folder left is = subst IsRested (sym is) (λ more at. at)

some_rested : (entries : List DiskEntry) (left : DiskEntry) → SomeSurvives entries left → IsRested left
some_rested [] left none = absurd none
some_rested (entry ∷ entries) left (inl here) = rested_left entry left here
some_rested (entry ∷ entries) left (inr later) = some_rested entries left later

missing_rested : IsRested Missing
missing_rested left is = is

folder_or_not : (entry : DiskEntry) → (entry ≡ Folder) ⊎ (entry ≡ Folder → ⊥)
folder_or_not Missing = inr (λ e. let no : Missing ≡ Folder = e in cc)
folder_or_not (File synced unsynced) = inr (λ e. let no : File synced unsynced ≡ Folder = e in cc)
folder_or_not Folder = inl refl

pub there_or_not : (image : Image) (name : Name) → IsThere image name ⊎ (IsThere image name → ⊥)
there_or_not image [] = inl (inl refl)
there_or_not image (c ∷ name) = elim (folder_or_not (image (c ∷ name))) [
  | inl is ↦ inl (inr is)
  | inr other ↦ inr (λ there. ⊎_elim (λ (root : c ∷ name ≡ []). let bad : ⊥ = cc in bad) other there)
]

-- what a crash left: nothing waits for a sync, and nothing stands where the folder is gone
pub record IsLeft (image : Image) : Type 0 where
  pub rested : (name : Name) → IsRested (image name)
  pub lost : (name : Name) → (IsThere image (folder_of name) → ⊥) → image name ≡ Missing

image_left : (state : DiskState) (image : Image) → IsImage state image → IsLeft image
image_left state image is = record {
  rested = λ name. elim (there_or_not image (folder_of name)) [
    | inl there ↦ some_rested ((state name).now ∷ (state name).older) (image name) (is.kept name there)
    | inr gone ↦ subst IsRested (sym (is.lost name gone)) missing_rested
  ];
  lost = is.lost;
}

pub crash_left : (state : DiskState) (steps : List DiskStep) (image : Image) → Leaves state steps image → IsLeft image
crash_left state [] image is = image_left state image is
crash_left state (step ∷ steps) image (inl now) = image_left state image now
crash_left state (step ∷ steps) image (inr later) = crash_left (change step state) steps image later

module _ (image other : Image) (left : IsLeft image) (is : IsImage (disk_of image) other) where
  stays : (name : Name) → IsThere other (folder_of name) → other name ≡ image name
  stays name there = ⊎_elim (λ here. left.rested name (other name) here) (λ none. absurd none) (is.kept name there)

  -- names of at most that many bytes
  stays_within : (most : ℕ) (name : Name) → length name < most → other name ≡ image name
  stays_within zero name less = absurd (omega (arith, less))
  stays_within (suc most) name less = elim (there_or_not other (folder_of name)) [
    | inl there ↦ stays name there
    | inr gone ↦
        let some : folder_of name ≡ [] → ⊥ = λ root. gone (inl root) in
        let shorter = folder_is_shorter (folder_of name) name some refl in
        let same : other (folder_of name) ≡ image (folder_of name) = stays_within most (folder_of name) (omega (arith, shorter, less)) in
        let lost : IsThere image (folder_of name) → ⊥ = λ there. ⊎_elim some (λ stands. gone (inr (same ∙ stands))) there in
        is.lost name gone ∙ sym (left.lost name lost)
  ]

  -- it is the image itself
  pub same_image : other ≡ image
  same_image = let each : (name : Name) → other name ≡ image name = λ name. stays_within (length name + 1) name (omega arith) in λ i name. each name i

pub a_crash_holds : (state : DiskState) (steps : List DiskStep) (image : Image) (folder : Option Contents) → Leaves state steps image → IsFolder image folder → Holds (disk_of image) folder
a_crash_holds state steps image folder leaves is = record {
  now = is;
  crash = λ other other_is. subst (λ (i : Image). IsFolder i folder) (sym (same_image image other (crash_left state steps image leaves) other_is)) is;
}

-- ---- a disk on which both halves lie

-- the image is sound, with some of the later batches
abbrev pub IsSomeSound : Image → Journaling → Tree → Type 0
IsSomeSound image j t = (behind rest : List Written) × (behind ++ rest ≡ j.later) × IsSound image (contents_with j t behind)

pub some_sound : (image : Image) (j : Journaling) (t : Tree) → HasSomeRoot image j → HasTree image t → IsSomeSound image j t
some_sound image j t some tree = (some.0, some.1, some.2, made image (contents_with j t some.0) some.3 tree)

-- whatever a crash leaves of it is sound
pub crash_sound : (state : DiskState) (image : Image) (j : Journaling) (records : List Fields) (t : Tree) → LiesInRoot state j → RestsInTree state records t → IsImage state image → IsSomeSound image j t
crash_sound state image j records t lies rests is =
    some_sound image j t (crashes_leave_the_root state image j lies (in_region is_of_root state image is)) (crashes_leave_the_tree state image records t rests (in_region is_of_keyspaces state image is))

-- and so is what stands
pub standing_sound : (state : DiskState) (j : Journaling) (records : List Fields) (t : Tree) → LiesInRoot state j → RestsInTree state records t → IsSomeSound (standing state) j t
standing_sound state j records t lies rests = some_sound (standing state) j t (standing_root state j lies) (standing_tree state records t rests)

-- ---- a disk that rests

none_behind : (behind rest : List Written) → behind ++ rest ≡ [] → behind ≡ []
none_behind [] rest is = refl
none_behind (b ∷ behind) rest is = cc

-- without later batches there is one reading
pub one_sound : (image : Image) (j : Journaling) (t : Tree) → j.later ≡ [] → IsSomeSound image j t → IsSound image (contents_with j t [])
one_sound image j t none some =
    subst (λ (l : List Written). IsSound image (contents_with j t l)) (none_behind some.0 some.1 (some.2 ∙ none)) some.3

pub a_rest_holds : (state : DiskState) (j : Journaling) (records : List Fields) (t : Tree) → j.later ≡ [] → LiesInRoot state j → RestsInTree state records t → Holds state (Some (contents_with j t []))
a_rest_holds state j records t none lies rests = record {
  now = one_sound (standing state) j t none (standing_sound state j records t lies rests);
  crash = λ image is. one_sound image j t none (crash_sound state image j records t lies rests is);
}
