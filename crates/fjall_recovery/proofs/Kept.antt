-- What tree 0 says, and with it all of a folder in which an opening finds nothing wrong, is refused for no cause.
use Rattle.std.proofs.Common.{◌≡◌, inl, inr, ℕ, List, Option, None, Some, Result, Ok, Err, sym, ◌∙◌, subst}
use Rattle.fjall_base.specs.Disk.{Image}
use Rattle.fjall_base.specs.Store.{Store}
use Rattle.fjall_base.specs.Errors.{IsFaultOrMemory}
use Rattle.fjall_base.specs.declared.error.Error.{Error}
use Rattle.fjall_base.specs.declared.error.Error.TheVariants.{Io, OutOfMemory, Storage, Unrecoverable}
use Rattle.fjall_base.specs.declared.error.StorageError.TheVariants.{RecordDamaged}
use Rattle.fjall_manifest.specs.Records.{Fields}
use Rattle.fjall_manifest.proofs.Currents.{contradiction_has_no_reading}
use Rattle.fjall_meta.specs.declared.living.LivingKeyspace.{LivingKeyspace}
use Rattle.fjall_meta.specs.Keyspaces.{Keyspaces}
use Rattle.fjall_files.specs.declared.marker.Marker.{Marker}
use Rattle.fjall_files.specs.declared.marker.Marker.TheVariants.{Whole, Unfinished}
use Rattle.fjall_files.specs.Marker.{marker_tells}
use Rattle.fjall_manifest.specs.declared.catalog.Catalog.{Catalog}
use Rattle.fjall_manifest.specs.Catalog.{Says}
use Rattle.fjall_manifest.proofs.CatalogMeanings.{one_catalog}
use Rattle.fjall_recovery.specs.Folders.{AreMade, Contents, ImageStandsFor, IsBegun, IsOpenable, IsUnfinished, marker_bytes}
use Rattle.fjall_recovery.specs.Held.{IsOpenFolder}
use Rattle.fjall_recovery.specs.Journals.{AreJournalIds}
use Rattle.fjall_recovery.specs.Naming.{JournalsAreNamed}
use Rattle.fjall_recovery.specs.Refusals.{BegunRefuses, CatalogRefuses, FinishedRefuses, FolderRefuses, HomesRefuse, IsDue, JournalsRefuse, KeyspacesRefuse, PartsRefuse, TreeRefuses, UnfinishedRefuses}
use Rattle.fjall_recovery.proofs.Finishing.{due_as}
use Rattle.fjall_recovery.proofs.Opened.{held_journals_are_kept, homes_are_kept}

-- ---- tree 0

-- the catalog that is told is the one that is said
module _ (image : Image) (c : Contents) (sound : IsOpenable image c) where
  homes_told : (records : List Fields) (last : Catalog) (s : Keyspaces) (error : Error) → Says image records last s → HomesRefuse image s.living error → ⊥
  homes_told records last s error says refused =
      let same : s ≡ c.keyspaces = (one_catalog image records sound.records last c.last s c.keyspaces says sound.catalog).2 in
      homes_are_kept image c.keyspaces.living c.homes error sound.homes (subst (λ (t : Keyspaces). HomesRefuse image t.living error) same refused)

  made_told : (records : List Fields) (last : Catalog) (s : Keyspaces) → Says image records last s → (AreMade last s → ⊥) → ⊥
  made_told records last s says none =
      let same = one_catalog image records sound.records last c.last s c.keyspaces says sound.catalog in
      none (subst (λ (t : Keyspaces). AreMade last t) (sym same.2) (subst (λ (d : Catalog). AreMade d c.keyspaces) (sym same.1) sound.made))

  catalog_is_kept : (error : Error) → CatalogRefuses image error → ⊥
  catalog_is_kept (Storage cause) (inl (bad, silent)) = silent sound.records c.last c.keyspaces sound.catalog
  catalog_is_kept (Storage cause) (inr (records, last, s, says, inl (is, none))) = made_told records last s says none
  catalog_is_kept (Storage cause) (inr (records, last, s, says, inr (made, refused))) = homes_told records last s (Storage cause) says refused
  catalog_is_kept error refused = homes_told refused.0 refused.1 refused.2 error refused.3 refused.5

  tree_is_kept : (error : Error) → TreeRefuses image error → ⊥
  tree_is_kept error (inl none) = none.1 sound.folder
  tree_is_kept error (inr refused) = catalog_is_kept error refused.1

  keyspaces_are_kept : (error : Error) → KeyspacesRefuse image error → ⊥
  keyspaces_are_kept error (inl misnamed) = misnamed.1 sound.keyspaces_named
  keyspaces_are_kept error (inr refused) = tree_is_kept error refused.1

  finished_is_kept : (error : Error) → FinishedRefuses image error → ⊥
  finished_is_kept error (inl (ids, are, refused)) = held_journals_are_kept image c.journals ids error sound.journals are refused
  finished_is_kept error (inr refused) = keyspaces_are_kept error refused.1

-- ---- a folder whose making was cut short

begun_is_kept : (text : List ℕ) (error : Error) → IsBegun text → BegunRefuses text error → ⊥
begun_is_kept text (Storage RecordDamaged) begun refused = contradiction_has_no_reading text begun.records begun.end refused begun.whole
begun_is_kept text Unrecoverable begun refused = refused.1 begun
begun_is_kept text error begun refused = refused

unfinished_is_kept : (image : Image) (error : Error) → IsUnfinished image → UnfinishedRefuses image error → ⊥
unfinished_is_kept image error is (inl written) = written.1 is.journals
unfinished_is_kept image error is (inr (empty, inl misnamed)) = misnamed.1 is.keyspaces_named
unfinished_is_kept image error is (inr (empty, inr (named, refused))) = begun_is_kept _ error is.catalog refused

-- ---- the whole folder

-- the marker tells one thing
pub marker_is_kept : (told : Result Marker Error) (marker : Marker) (error : Error) → told ≡ Ok marker → told ≡ Err error → ⊥
marker_is_kept told marker error is refused = let no = sym is ∙ refused in cc

pub one_marker : (told : Result Marker Error) (marker other : Marker) → told ≡ Ok marker → told ≡ Ok other → marker ≡ other
one_marker told marker other is at = let same = sym is ∙ at in cc

parts_along : (image : Image) (marker other : Marker) (error : Error) → marker_tells (marker_bytes image) ≡ Ok marker → marker_tells (marker_bytes image) ≡ Ok other → PartsRefuse marker image error → PartsRefuse other image error
parts_along image marker other error is at refused = subst (λ (m : Marker). PartsRefuse m image error) (one_marker (marker_tells (marker_bytes image)) marker other is at) refused

sound_is_kept : (image : Image) (c : Contents) (error : Error) → IsOpenable image c → FolderRefuses image error → ⊥
sound_is_kept image c error sound (inl refused) = marker_is_kept (marker_tells (marker_bytes image)) Whole error sound.marker refused
sound_is_kept image c error sound (inr (marker, tells, inl misnamed)) = misnamed.1 sound.journals_named
sound_is_kept image c error sound (inr (marker, tells, inr (named, refused))) = finished_is_kept image c sound error (parts_along image marker Whole error tells sound.marker refused)

begun_folder_is_kept : (image : Image) (error : Error) → IsUnfinished image → FolderRefuses image error → ⊥
begun_folder_is_kept image error is (inl refused) = marker_is_kept (marker_tells (marker_bytes image)) Unfinished error is.marker refused
begun_folder_is_kept image error is (inr (marker, tells, inl misnamed)) = misnamed.1 is.journals_named
begun_folder_is_kept image error is (inr (marker, tells, inr (named, refused))) = unfinished_is_kept image error is (parts_along image marker Unfinished error tells is.marker refused)

pub open_folder_is_kept : (image : Image) (folder : Option Contents) (error : Error) → IsOpenFolder image folder → FolderRefuses image error → ⊥
open_folder_is_kept image (Some c) error sound refused = sound_is_kept image c error sound refused
open_folder_is_kept image None error begun refused = begun_folder_is_kept image error begun refused

-- in what stands for a store an opening finds nothing wrong
pub opens : (image : Image) (store : Store) → ImageStandsFor image store → (folder : Option Contents) × IsOpenFolder image folder
opens image store (inl (c, sound, is)) = (Some c, sound.openable)
opens image store (inr (begun, is)) = (None, begun)

pub folder_is_kept : (image : Image) (store : Store) (error : Error) → ImageStandsFor image store → FolderRefuses image error → ⊥
folder_is_kept image store error stands refused = let it = opens image store stands in open_folder_is_kept image it.0 error it.1 refused

-- ---- as it is read

-- what cannot refuse leaves want of memory and faults of the disk alone
pub spared : (P : Error → Type 0) (error : Error) → ((e : Error) → P e → ⊥) → IsDue P error → IsDue (λ e. ⊥) error
spared P error none is = due_as P (λ e. ⊥) error none is

pub fault_spared : (old new : ℕ) (error : Error) → IsFaultOrMemory old new error → IsDue (λ e. ⊥) error
fault_spared old new OutOfMemory is = tt
fault_spared old new (Io kind) is = tt
fault_spared old new error is = absurd is

pub names_spared : (image other : Image) (Named : Image → Type 0) (cause error : Error) → other ≡ image → Named image → IsDue (λ e. (e ≡ cause) × (Named other → ⊥)) error → IsDue (λ e. ⊥) error
names_spared image other Named cause error same named is = spared (λ e. (e ≡ cause) × (Named other → ⊥)) error (λ e refused. refused.1 (subst Named (sym same) named)) is

pub journals_spared : (image : Image) (c : Contents) (ids : List ℕ) (error : Error) → IsOpenable image c → AreJournalIds image ids → IsDue (JournalsRefuse image 0 ids) error → IsDue (λ e. ⊥) error
journals_spared image c ids error sound are is = spared (JournalsRefuse image 0 ids) error (λ e refused. held_journals_are_kept image c.journals ids e sound.journals are refused) is

pub homes_spared : (image other another : Image) (c : Contents) (records : List Fields) (last : Catalog) (s : Keyspaces) (living : List LivingKeyspace) (error : Error) → other ≡ image → another ≡ image → IsOpenable image c → Says other records last s → living ≡ s.living
    → IsDue (HomesRefuse another living) error → IsDue (λ e. ⊥) error
homes_spared image other another c records last s living error same alike sound says is due =
    spared (HomesRefuse another living) error
    (λ e refused. homes_told image c sound records last s e (subst (λ i. Says i records last s) same says) (subst (λ (l : List LivingKeyspace). HomesRefuse image l e) is (subst (λ i. HomesRefuse i living e) alike refused))) due

-- ---- a folder in which an opening finds nothing wrong

pub open_names : (image : Image) (folder : Option Contents) → IsOpenFolder image folder → JournalsAreNamed image
open_names image (Some c) sound = sound.journals_named
open_names image None begun = begun.journals_named

pub open_marker : (image : Image) (folder : Option Contents) (error : Error) → IsOpenFolder image folder → marker_tells (marker_bytes image) ≡ Err error → ⊥
open_marker image (Some c) error sound refused = marker_is_kept (marker_tells (marker_bytes image)) Whole error sound.marker refused
open_marker image None error begun refused = marker_is_kept (marker_tells (marker_bytes image)) Unfinished error begun.marker refused

not_both : Whole ≡ Unfinished → ⊥
not_both e = cc

pub whole_opens : (image : Image) (folder : Option Contents) → marker_tells (marker_bytes image) ≡ Ok Whole → IsOpenFolder image folder → (c : Contents) × IsOpenable image c
whole_opens image (Some c) tells sound = (c, sound)
whole_opens image None tells begun = absurd (not_both (one_marker (marker_tells (marker_bytes image)) Whole Unfinished tells begun.marker))

begun_opens : (image : Image) (folder : Option Contents) → marker_tells (marker_bytes image) ≡ Ok Unfinished → IsOpenFolder image folder → IsUnfinished image
begun_opens image (Some c) tells sound = absurd (not_both (one_marker (marker_tells (marker_bytes image)) Whole Unfinished sound.marker tells))
begun_opens image None tells begun = begun

pub unfinished_spared : (image other : Image) (folder : Option Contents) (error : Error) → other ≡ image → marker_tells (marker_bytes image) ≡ Ok Unfinished → IsOpenFolder image folder → IsDue (UnfinishedRefuses other) error → IsDue (λ e. ⊥) error
unfinished_spared image other folder error same tells right is =
    spared (UnfinishedRefuses other) error (λ e refused. unfinished_is_kept image e (begun_opens image folder tells right) (subst (λ i. UnfinishedRefuses i e) same refused)) is
