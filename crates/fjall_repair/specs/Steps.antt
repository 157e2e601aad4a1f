-- What is done to a folder that is mended, and what each part of it keeps.
use Rattle.std.specs.Prelude.{◌≡◌, ◌⊎◌, All, Contains, ◌≢◌, ℕ, ◌-◌, ◌≤◌, Bool, false, nat_lt, List, [], ◌∷◌, length, map, take, codes, slice_index_or, string_bytes, Some}
use Rattle.std.specs.List.{AllByRecursion}
use Rattle.fjall_base.specs.Disk.{Name, DiskEntry, Meaning, Missing, File, Place, DiskState, Image, IsFile, IsImage, all_synced, folder_of}
use Rattle.fjall_manifest.specs.Records.{Fields, IsRecords}
use Rattle.fjall_base.specs.Lists.{last_of}
use Rattle.fjall_files.specs.Texts.{text_in}
use Rattle.fjall_files.specs.Calls.{seen}
use Rattle.fjall_files.specs.Names.{journal_name, keyspace_folder, current_name}
use Rattle.fjall_manifest.specs.declared.catalog_reading.LoadedCatalog.{LoadedCatalog}
use Rattle.fjall_recovery.specs.declared.folder.RecoveredFolder.{RecoveredFolder}
use Rattle.fjall_manifest.specs.declared.reading.LoadedHome.{LoadedHome}
use Rattle.fjall_recovery.specs.Folders.{Contents, IsOpenable}
use Rattle.fjall_recovery.specs.Journals.{WholeJournal}
use Rattle.fjall_recovery.specs.Places.{texts_of}
use Rattle.fjall_repair.specs.declared.mending.plan.FileEnd.{FileEnd}
use Rattle.fjall_repair.specs.declared.mending.plan.MendPlan.{MendPlan}

-- ---- what is planned

-- a file, whether it is to be cut, and where it ends then
pub record End : Type 0 where
  pub name : Name
  pub cut : Bool
  pub len : ℕ

-- what a file's end in a plan says
abbrev pub end_of : FileEnd → End
end_of e = record { name = string_bytes e.name; cut = e.cut; len = e.len }

-- the id of the active journal, which is the last one; 1 where there is none
abbrev pub active_of : List ℕ → ℕ
active_of ids = slice_index_or ids (length ids - 1) 1

-- the ids of the sealed journals, which are the others
abbrev pub sealed_of : List ℕ → List ℕ
sealed_of ids = take (length ids - 1) ids

-- the folders whose names count, but for the root: that of all keyspaces, and those of tree 0 and of these keyspaces
abbrev pub folder_names : List ℕ → List Name
folder_names ids = codes "keyspaces" ∷ keyspace_folder 0 ∷ map keyspace_folder ids

-- the files that are whole: the marker, and the sealed ones of these journals
abbrev pub whole_names : List ℕ → List Name
whole_names ids = codes "version" ∷ map journal_name (sealed_of ids)

-- the end of a keyspace's records as they were read
abbrev pub home_end : LoadedHome → End
home_end h = record { name = current_name h.id; cut = nat_lt h.end h.len; len = h.end }

-- the end of tree 0's records as they were read
abbrev pub tree_end : LoadedCatalog → End
tree_end c = record { name = current_name 0; cut = c.is_torn; len = c.end }

-- the files that are ended: the active journal, and the records of tree 0 and of these keyspaces
abbrev pub ended_names : ℕ → List ℕ → List Name
ended_names active ids = journal_name active ∷ current_name 0 ∷ map current_name ids

-- ---- which ends are right

-- the file is the active journal's, and its whole batches end there
pub record EndsBatches (c : Contents) (name : Name) (len : ℕ) : Type 0 where
  pub journal : WholeJournal
  pub last : last_of c.journals ≡ Some journal
  pub named : name ≡ journal_name journal.id
  pub is : len ≡ length (texts_of journal.batches)

-- the file is that of a keyspace's or of tree 0's records, and the whole ones end there
pub record EndsRecords (image : Image) (name : Name) (len : ℕ) : Type 0 where
  pub id : ℕ
  pub named : name ≡ current_name id
  pub records : List Fields
  pub whole : IsRecords (text_in (image name)) records len

-- The file is there and reaches so far, all that counts in it ends there, and where it isn't to be cut nothing stands behind.
pub record IsRightEnd (image : Image) (c : Contents) (e : End) : Type 0 where
  pub file : IsFile (image e.name)
  pub kind : EndsBatches c e.name e.len ⊎ EndsRecords image e.name e.len
  pub uncut : e.cut ≡ false → length (text_in (image e.name)) ≤ e.len
  pub long : e.len ≤ length (text_in (image e.name))

-- ---- what the steps keep

-- the journals, or an empty one of the id 1 where there is none
abbrev pub opened : List WholeJournal → List WholeJournal
opened [] = record { id = 1; batches = [] } ∷ []
opened (j ∷ journals) = j ∷ journals

-- the same folder with an active journal
abbrev pub with_active : Contents → Contents
with_active c = record { journals = opened c.journals; keyspaces = c.keyspaces; last = c.last; homes = c.homes; versions = c.versions }

-- what stands but for this file, which is there and was made where it was missing
pub record IsOpened (image made : Image) (active : Name) : Type 0 where
  pub elsewhere : (q : Name) → q ≢ active → made q ≡ image q
  pub here : (IsFile (image active) × (made active ≡ image active)) ⊎ ((image active ≡ Missing) × (made active ≡ File [] []))

-- a file all of whose bytes are synced
abbrev pub IsSynced : DiskEntry → Type 0
IsSynced entry = (bytes : List ℕ) × (entry ≡ File bytes [])

-- what was there before is as it was, and what stands now is as it was or synced
pub record IsSame (old new : Place) : Type 0 where
  pub older : new.older ≡ old.older
  pub now : (new.now ≡ old.now) ⊎ (new.now ≡ all_synced old.now)

-- the file has its first bytes alone, all of them synced
abbrev pub IsEnded : DiskState → DiskState → End → Type 0
IsEnded start state e = (state e.name).now ≡ File (take e.len (text_in (start e.name).now)) []

-- An opening finds nothing wrong in the image, which holds this, and each file whose name is synced has a beginning of what it
-- had.
pub record Stays (start : DiskState) (c : Contents) (image : Image) : Type 0 where
  pub sound : IsOpenable image c
  pub parts : (q : Name) → (start q).older ≡ [] → (n : ℕ) × (text_in (image q) ≡ take n (text_in (start q).now))

-- ---- the plan

-- The plan suits what stands and holds this: it names all that counts, and each file's end is right once the active journal
-- is there.
pub record Suits (image : Image) (c : Contents) (p : MendPlan) : Type 0 where
  pub active : string_bytes p.active ≡ journal_name (active_of (map (λ (j : WholeJournal). j.id) c.journals))
  pub folders : map string_bytes p.folders.items ≡ folder_names (map (λ k. k.id) c.keyspaces.living)
  pub whole : map string_bytes p.whole.items ≡ whole_names (map (λ (j : WholeJournal). j.id) c.journals)
  pub ended : map (λ (e : FileEnd). string_bytes e.name) p.ends.items ≡ ended_names (active_of (map (λ (j : WholeJournal). j.id) c.journals)) (map (λ k. k.id) c.keyspaces.living)
  pub right : (made : Image) → IsOpened image made (string_bytes p.active) → AllByRecursion (IsRightEnd made (with_active c)) (map end_of p.ends.items)

-- the end of tree 0's records: the whole ones end there, and where it isn't to be cut nothing stands behind
pub record IsTreeEnd (image : Image) (e : End) : Type 0 where
  pub named : e.name ≡ current_name 0
  pub is : (records : List Fields) (end : ℕ) → IsRecords (text_in (image (current_name 0))) records end → end ≡ e.len
  pub uncut : e.cut ≡ false → length (text_in (image (current_name 0))) ≤ e.len

-- the end of the active journal as it was read
abbrev pub journal_end : RecoveredFolder → End
journal_end f = record { name = journal_name (active_of f.journal_ids.items); cut = f.journals.torn; len = f.journals.end }

-- the plan for the folder that was read, whose tree 0 has this end
pub record IsMendPlan (f : RecoveredFolder) (tree : End) (p : MendPlan) : Type 0 where
  pub active : string_bytes p.active ≡ journal_name (active_of f.journal_ids.items)
  pub folders : map string_bytes p.folders.items ≡ folder_names (map (λ (h : LoadedHome). h.id) f.homes.items)
  pub whole : map string_bytes p.whole.items ≡ whole_names f.journal_ids.items
  pub ends : map end_of p.ends.items ≡ journal_end f ∷ tree ∷ map home_end f.homes.items

-- ---- afterwards

-- nothing stands behind the whole records at the front of these bytes
abbrev pub EndsWithRecords : List ℕ → Type 0
EndsWithRecords text = (records : List Fields) (end : ℕ) → IsRecords text records end → length text ≤ end

-- When all steps were taken: an opening finds nothing wrong in whatever a crash leaves, which holds this; no name that counts is
-- unsynced, nor is a file that the plan names; and nothing stands behind the active journal's batches, nor behind the records of
-- tree 0 and of each keyspace that lives.
pub record IsRested (state : DiskState) (c : Contents) : Type 0 where
  pub images : (image : Image) → IsImage state image → IsOpenable image c
  pub root : (q : Name) → folder_of q ≡ [] → (state q).older ≡ []
  pub folders : AllByRecursion (λ f. (q : Name) → folder_of q ≡ f → (state q).older ≡ []) (folder_names (map (λ k. k.id) c.keyspaces.living))
  pub whole : AllByRecursion (λ f. IsSynced (state f).now) (whole_names (map (λ (j : WholeJournal). j.id) c.journals))
  pub ended : AllByRecursion (λ f. IsSynced (state f).now) (ended_names (active_of (map (λ (j : WholeJournal). j.id) c.journals)) (map (λ k. k.id) c.keyspaces.living))
  pub active : (journal : WholeJournal) → last_of c.journals ≡ Some journal → length (text_in (state (journal_name journal.id)).now) ≤ length (texts_of journal.batches)
  pub records : (id : ℕ) → Contains (0 ∷ map (λ k. k.id) c.keyspaces.living) id → EndsWithRecords (text_in (state (current_name id)).now)

-- ---- what a step is asked for

-- the name is that of the active journal of these contents
abbrev pub IsActiveIn : Contents → Name → Type 0
IsActiveIn c name = name ≡ journal_name (active_of (map (λ (j : WholeJournal). j.id) c.journals))

-- all of these are right ends
abbrev pub AreRightEnds : Image → Contents → List FileEnd → Type 0
AreRightEnds image c ends = All (λ e. IsRightEnd image c (end_of e)) ends

-- the names of all of these files are synced
abbrev pub AreNamesSynced : DiskState → List FileEnd → Type 0
AreNamesSynced state ends = All (λ e. (state (string_bytes e.name)).older ≡ []) ends

-- P is so of what the folder on the disk holds, where an opening finds nothing wrong in it and the plan suits it
abbrev pub WhereSuits : Meaning → MendPlan → (Contents → Type 0) → Type 0
WhereSuits disk plan P = (c : Contents) → IsOpenable (seen disk) c → Suits (seen disk) c plan → P c
