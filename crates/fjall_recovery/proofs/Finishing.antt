-- A folder that was made to its end, read part by part.
use Rattle.std.proofs.Common.{◌≡◌, inl, inr, ℕ, ◌==◌, Bool, true, false, cond, List, [], ◌∷◌, ◌++◌, map, Option, Some, None, Result, Ok, Err, refl, sym, ◌∙◌, ap, subst, arith}
use Rattle.std.proofs.lemmas.Bool.{true≢false}
use Rattle.std.proofs.lemmas.Bool.Decides.{nat_tests}
use Rattle.std.specs.FinMap.{empty, get, insert, get-empty}
use Rattle.std.specs.List.{AllByRecursion}
use Rattle.std.specs.Ordering.{nat_cmp}
use Rattle.std.specs.Prelude.{Vec, IfErr, OnOk, IsSomeAnd, IsNone}
use Rattle.std.specs.declared.alloc.Global.{Global}
use Rattle.fjall_base.specs.declared.error.Error.{Error}
use Rattle.fjall_base.specs.declared.error.Error.TheVariants.{Io, JournalRecovery, OutOfMemory, Storage, Unrecoverable}
use Rattle.fjall_base.specs.declared.error.JournalRecoveryError.TheVariants.{InvalidFileName}
use Rattle.fjall_base.specs.Disk.{DiskEntry, Missing, File, Folder, Image, ReadsFile}
use Rattle.fjall_journal.specs.Batches.{view}
use Rattle.fjall_manifest.specs.Records.{Fields}
use Rattle.fjall_manifest.specs.Records as records
use Rattle.fjall_manifest.specs.Homes.{Home}
use Rattle.fjall_meta.specs.Keyspaces.{Keyspaces, keyspace_at}
use Rattle.fjall_meta.specs.declared.living.LivingKeyspace.{LivingKeyspace}
use Rattle.fjall_files.specs.declared.marker.Marker.{Marker}
use Rattle.fjall_files.specs.declared.marker.Marker.TheVariants.{Whole, Unfinished}
use Rattle.fjall_files.specs.Marker.{marker_tells}
use Rattle.fjall_files.specs.Names.{keyspace_folder}
use Rattle.fjall_meta.proofs.Slots.{get_put, same_id}
use Rattle.fjall_manifest.specs.declared.catalog.Catalog.{Catalog}
use Rattle.fjall_manifest.specs.Catalog.{HasEnd, Says, records_in}
use Rattle.fjall_manifest.specs.Refusals.{IsRefusal}
use Rattle.fjall_base.specs.Errors.{IsFaultOrMemory}
use Rattle.fjall_recovery.specs.declared.folder.RecoveredFolder.{RecoveredFolder}
use Rattle.fjall_manifest.specs.declared.reading.LoadedHome.{LoadedHome}
use Rattle.fjall_recovery.specs.Folders.{AreEmpty, AreMade, Contents, IsBegun, IsFinished, IsOpenable, ReadsFolder, ShowsContents, file_bytes, marker_bytes}
use Rattle.fjall_recovery.specs.Homes.{AreHomesRead, HasHomeAt, HasOpenableHome, HaveHomes, Homes, last_in, lasts}
use Rattle.fjall_recovery.specs.Journals.{WholeJournal, AreFound, AreJournalIds, HoldsJournals}
use Rattle.fjall_recovery.specs.Told.{AreTold}
use Rattle.fjall_recovery.specs.Naming.{AreFolderIds, JournalsAreNamed, KeyspacesAreNamed}
use Rattle.fjall_recovery.specs.Refusals.{BegunRefuses, CatalogRefuses, FinishedRefuses, FolderRefuses, HomesRefuse, IsDue, TreeRefuses, UnfinishedRefuses}
use Rattle.fjall_recovery.proofs.Gathering.{due}
use Rattle.fjall_recovery.proofs.Housing.{IsHoused, all_housed, home_was_read, last_was_read}

-- ---- causes

pub due_as : (P Q : Error → Type 0) (error : Error) → ((e : Error) → P e → Q e) → IsDue P error → IsDue Q error
due_as P Q OutOfMemory f is = tt
due_as P Q (Io kind) f is = tt
due_as P Q error f is = f error is

pub holds_journals : (image : Image) (ids : List ℕ) (least end : ℕ) (torn : Bool) → AreJournalIds image ids → AreFound image ids least end torn → (journals : List WholeJournal) × HoldsJournals image journals
holds_journals image ids least end torn are found =
    (found.journals, record { ids = subst (AreJournalIds image) (sym found.named) are; read = found.read; sound = found.gathers.sound })

pub names_refuse : (image other : Image) (error : Error) → other ≡ image → (journals : List WholeJournal) × HoldsJournals image journals → IsDue (λ e. (e ≡ Unrecoverable) × (KeyspacesAreNamed other → ⊥)) error → IsDue (FinishedRefuses image) error
names_refuse image other error same holds due =
    due_as (λ e. (e ≡ Unrecoverable) × (KeyspacesAreNamed other → ⊥)) (FinishedRefuses image) error (λ e refused. inr (holds, inl (refused.0, subst (λ i. KeyspacesAreNamed i → ⊥) same refused.1))) due

pub tree_refuses : (image other : Image) (error : Error) → other ≡ image → (journals : List WholeJournal) × HoldsJournals image journals → KeyspacesAreNamed image → IsDue (TreeRefuses other) error → IsDue (FinishedRefuses image) error
tree_refuses image other error same holds named due =
    due_as (TreeRefuses other) (FinishedRefuses image) error (λ e refused. inr (holds, inr (named, subst (λ i. TreeRefuses i e) same refused))) due

homes_in : (image : Image) (records : List Fields) (last : Catalog) (s : Keyspaces) (error : Error) → Says image records last s → AreMade last s → HomesRefuse image s.living error → CatalogRefuses image error
homes_in image records last s (Storage cause) says made refused = inr (records, last, s, says, inr (made, refused))
homes_in image records last s error says made refused = (records, last, s, says, made, refused)

pub homes_refuse : (image other : Image) (records : List Fields) (last : Catalog) (s : Keyspaces) (living : List LivingKeyspace) (error : Error) → other ≡ image → (journals : List WholeJournal) × HoldsJournals image journals → KeyspacesAreNamed image
    → image (keyspace_folder 0) ≡ Folder → Says image records last s → AreMade last s → living ≡ s.living → IsDue (HomesRefuse other living) error → IsDue (FinishedRefuses image) error
homes_refuse image other records last s living error same holds named folder says made is due =
    due_as (HomesRefuse other living) (FinishedRefuses image) error
    (λ e refused. inr (holds, inr (named, inr (folder, homes_in image records last s e says made (subst (λ (l : List LivingKeyspace). HomesRefuse image l e) is (subst (λ i. HomesRefuse i living e) same refused)))))) due

-- what the catalog is refused for is damage, and where that is nothing is said
pub catalog_refuses : (image : Image) (old new : ℕ) (error : Error) → image (keyspace_folder 0) ≡ Folder → IsRefusal image old new error
    → ((records : List Fields) (last : Catalog) (s : Keyspaces) → Says image records last s → IsFaultOrMemory old new error) → IsDue (TreeRefuses image) error
catalog_refuses image old new OutOfMemory folder is all = tt
catalog_refuses image old new (Io kind) folder is all = tt
catalog_refuses image old new (Storage cause) folder is all = inr (folder, inl (is, all))
catalog_refuses image old new error folder is all = absurd is

-- ---- what the folder holds

-- the homes of these keyspaces as they were read
homes_from : (image : Image) (living : List LivingKeyspace) (homes : List LoadedHome) → AreHomesRead image living homes → Homes
homes_from image [] homes all = empty
homes_from image (k ∷ living) [] all = empty
homes_from image (k ∷ living) (home ∷ homes) all = insert (homes_from image living homes all.1) k.id all.0.loaded.h

home_held : (image : Image) (k : LivingKeyspace) (living : List LivingKeyspace) (h : Home) (homes : Homes) → HasOpenableHome image k.id h → (id : ℕ) → HasHomeAt image id (keyspace_at id living) (get homes id)
    → HasHomeAt image id (keyspace_at id (k ∷ living)) (get (insert homes k.id h) id)
home_held image k living h homes one id rest =
    subst (λ (o : Option Home). HasHomeAt image id (keyspace_at id (k ∷ living)) o) (sym (get_put homes k.id h id))
    (either (k.id == id) refl (id == k.id) refl)
  where
    either : (b : Bool) → (k.id == id) ≡ b → (c : Bool) → (id == k.id) ≡ c → HasHomeAt image id (cond b (Some k) (keyspace_at id living)) (cond c (Some h) (get homes id))
    either true at true at' = subst (λ i. HasOpenableHome image i h) (same_id k.id id at) one
    either false at false at' = rest
    either true at false at' = let no : ⊥ = grind (arith, nat_tests) in absurd no
    either false at true at' = let no : ⊥ = grind (arith, nat_tests) in absurd no

none_held : (image : Image) (id : ℕ) → HasHomeAt image id None (get {R = nat_cmp} empty id)
none_held image id = subst (λ (o : Option Home). HasHomeAt image id None o) (sym (get-empty nat_cmp id)) tt

homes_held : (image : Image) (living : List LivingKeyspace) (homes : List LoadedHome) → (all : AreHomesRead image living homes) → HaveHomes image living (homes_from image living homes all)
unfolding homes_from
homes_held image [] [] all = none_held image
homes_held image [] (h ∷ homes) all = absurd all
homes_held image (k ∷ living) [] all = absurd all
homes_held image (k ∷ living) (h ∷ homes) all = λ id.
    home_held image k living all.0.loaded.h (homes_from image living homes all.1) (home_was_read image k.id h all.0) id (homes_held image living homes all.1 id)

-- the records that were read are those of the homes that are there
pub lasts_read : (image : Image) (living : List LivingKeyspace) (found : List LoadedHome) (homes : Homes) → AreHomesRead image living found → HaveHomes image living homes
    → map (λ (h : LoadedHome). records.view h.record) found ≡ lasts living homes
lasts_read image living found homes all have = of living found all (all_housed image living homes have)
  where
    of : (some : List LivingKeyspace) (found : List LoadedHome) → AreHomesRead image some found → AllByRecursion (λ k. IsHoused image homes k.id) some → map (λ (h : LoadedHome). records.view h.record) found ≡ lasts some homes
    of [] [] all each = refl
    of [] (h ∷ found) all each = absurd all
    of (k ∷ some) [] all each = absurd all
    of (k ∷ some) (h ∷ found) all each =
        let last : records.view h.record ≡ each.0.0.last = last_was_read image k.id each.0.0 h each.0.2 all.0 in
        let at : records.view h.record ≡ last_in (get homes k.id) = last ∙ ap (λ (o : Option Home). last_in o) (sym each.0.1) in
        ap (λ (r : Fields). r ∷ map (λ (h : LoadedHome). records.view h.record) found) at ∙ ap (λ (l : List Fields). last_in (get homes k.id) ∷ l) (of some found all.1 each.1)

-- what was read of a folder is what it holds, and no versions are read
pub record Holds (image : Image) (f : RecoveredFolder) : Type 0 where
  pub contents : Contents
  pub sound : IsOpenable image contents
  pub shows : ShowsContents f contents

pub held : (image : Image) (f : RecoveredFolder) → marker_tells (marker_bytes image) ≡ Ok Whole → JournalsAreNamed image → IsFinished image f → Holds image f
held image f marker named finished =
    let found = finished.journals in
    let homes = homes_from image f.catalog.keyspaces.living f.homes.items finished.homes in
    let have = homes_held image f.catalog.keyspaces.living f.homes.items finished.homes in
    record {
      contents = record { journals = found.journals; keyspaces = f.catalog.keyspaces; last = f.catalog.catalog; homes = homes; versions = empty };
      sound = record {
        marker = marker;
        journals_named = named;
        journals = record { ids = subst (AreJournalIds image) (sym found.named) finished.journal_ids; read = found.read; sound = found.gathers.sound };
        keyspaces_named = finished.keyspaces_named;
        folder = finished.folder;
        records = finished.records;
        catalog = finished.catalog;
        made = finished.made;
        homes = have;
      };
      shows = record {
        ids = sym found.named;
        least = found.gathers.next;
        keyspaces = refl;
        last = refl;
        homes = lasts_read image f.catalog.keyspaces.living f.homes.items homes finished.homes have;
      };
    }

-- ---- the parts of a reading, one after another

pub folders_along : (a b : Image) (ids others : List ℕ) → a ≡ b → others ≡ ids → AreFolderIds a ids → AreFolderIds b others
folders_along a b ids others same is are = subst (AreFolderIds b) (sym is) (subst (λ i. AreFolderIds i ids) same are)

pub journals_along : (a b : Image) (ids others : List ℕ) → a ≡ b → others ≡ ids → AreJournalIds a ids → AreJournalIds b others
journals_along a b ids others same is are = subst (AreJournalIds b) (sym is) (subst (λ i. AreJournalIds i ids) same are)

pub finished_of : (image one two three : Image) (f : RecoveredFolder) (journal_ids : List ℕ) (living : List LivingKeyspace) → one ≡ image → two ≡ image → three ≡ image
    → journal_ids ≡ f.journal_ids.items → AreJournalIds image f.journal_ids.items
    → AreFound image journal_ids f.journals.least f.journals.end f.journals.torn
    → AreTold image journal_ids f.journals.sealed f.journals.watermarks
    → AreFolderIds one f.folder_ids.items → KeyspacesAreNamed one → two (keyspace_folder 0) ≡ Folder
    → (records : List Fields) × Says two records f.catalog.catalog f.catalog.keyspaces → HasEnd two f.catalog.end f.catalog.is_torn → AreMade f.catalog.catalog f.catalog.keyspaces
    → living ≡ f.catalog.keyspaces.living → AreHomesRead three living f.homes.items → IsFinished image f
finished_of image one two three f journal_ids living at_one at_two at_three ids are found told folders named folder says ends made is homes = record {
  journal_ids = are;
  journals = subst (λ (l : List ℕ). AreFound image l f.journals.least f.journals.end f.journals.torn) ids found;
  told = subst (λ (l : List ℕ). AreTold image l f.journals.sealed f.journals.watermarks) ids told;
  folder_ids = subst (λ i. AreFolderIds i f.folder_ids.items) at_one folders;
  keyspaces_named = subst KeyspacesAreNamed at_one named;
  folder = subst (λ (i : Image). i (keyspace_folder 0) ≡ Folder) at_two folder;
  records = says.0;
  catalog = subst (λ i. Says i says.0 f.catalog.catalog f.catalog.keyspaces) at_two says.1;
  end = subst (λ i. HasEnd i f.catalog.end f.catalog.is_torn) at_two ends;
  made = made;
  homes = subst (λ i. AreHomesRead i f.catalog.keyspaces.living f.homes.items) at_three (subst (λ (l : List LivingKeyspace). AreHomesRead three l f.homes.items) is homes);
}

-- ---- the marker

pub marker_due : {X : Type 0} (result told other : Result X Error) → result ≡ told → told ≡ other → IfErr result (IsDue (λ e. other ≡ Err e))
marker_due (Ok x) told other is same = tt
marker_due (Err e) told other is same = due (λ error. other ≡ Err error) e (sym same ∙ sym is)

pub file_read : (entry : DiskEntry) (found : Option (Vec ℕ Global)) (bytes : Vec ℕ Global) → ReadsFile entry found → found ≡ Some bytes → file_bytes entry ≡ Some bytes.items
file_read (File synced unsynced) found bytes reads is = ap Some (sym (subst (λ (o : Option (Vec ℕ Global)). IsSomeAnd o (λ b. b.items ≡ synced ++ unsynced)) is reads))
file_read Missing found bytes reads is = absurd (true≢false (subst (λ (o : Option (Vec ℕ Global)). IsNone o) is reads))
file_read Folder found bytes reads is = absurd (true≢false (subst (λ (o : Option (Vec ℕ Global)). IsNone o) is reads))

-- ---- an unfinished folder

pub begun_names : (image other : Image) (error : Error) → other ≡ image → AreEmpty image → IsDue (λ e. (e ≡ Unrecoverable) × (KeyspacesAreNamed other → ⊥)) error → IsDue (UnfinishedRefuses image) error
begun_names image other error same none due =
    due_as (λ e. (e ≡ Unrecoverable) × (KeyspacesAreNamed other → ⊥)) (UnfinishedRefuses image) error (λ e refused. inr (none, inl (refused.0, subst (λ i. KeyspacesAreNamed i → ⊥) same refused.1))) due

pub begun_tree : (image other : Image) (error : Error) → other ≡ image → AreEmpty image → KeyspacesAreNamed image → IsDue (BegunRefuses (records_in other)) error → IsDue (UnfinishedRefuses image) error
begun_tree image other error same none named due =
    due_as (BegunRefuses (records_in other)) (UnfinishedRefuses image) error (λ e refused. inr (none, inr (named, subst (λ i. BegunRefuses (records_in i) e) same refused))) due

pub begun_tree_err : {X : Type 0} (image other : Image) (result : Result X Error) → other ≡ image → AreEmpty image → KeyspacesAreNamed image → IfErr result (IsDue (BegunRefuses (records_in other))) → IfErr result (IsDue (UnfinishedRefuses image))
begun_tree_err image other (Ok x) same none named cause = tt
begun_tree_err image other (Err e) same none named cause = begun_tree image other e same none named cause

pub ok_along : {X : Type 0} (P : Image → Type 0) (image other : Image) (result : Result X Error) → other ≡ image → OnOk result (P other) → OnOk result (P image)
ok_along P image other (Ok x) same is = subst P same is
ok_along P image other (Err e) same is = tt

pub on_ok_of : {X : Type 0} (P : Type 0) (result : Result X Error) → P → OnOk result P
on_ok_of P (Ok x) is = is
on_ok_of P (Err e) is = tt

-- ---- the whole folder

pub names_of_folder : (image other : Image) (marker : Marker) (error : Error) → other ≡ image → marker_tells (marker_bytes image) ≡ Ok marker
    → IsDue (λ e. (e ≡ JournalRecovery InvalidFileName) × (JournalsAreNamed other → ⊥)) error → IsDue (FolderRefuses image) error
names_of_folder image other marker error same tells due =
    due_as (λ e. (e ≡ JournalRecovery InvalidFileName) × (JournalsAreNamed other → ⊥)) (FolderRefuses image) error (λ e refused. inr (marker, tells, inl (refused.0, subst (λ i. JournalsAreNamed i → ⊥) same refused.1))) due

pub finished_refuses : (image other : Image) (error : Error) → other ≡ image → marker_tells (marker_bytes image) ≡ Ok Whole → JournalsAreNamed image → IsDue (FinishedRefuses other) error → IsDue (FolderRefuses image) error
finished_refuses image other error same tells named due =
    due_as (FinishedRefuses other) (FolderRefuses image) error (λ e refused. inr (Whole, tells, inr (named, subst (λ i. FinishedRefuses i e) same refused))) due

pub unfinished_refuses : (image other : Image) (error : Error) → other ≡ image → marker_tells (marker_bytes image) ≡ Ok Unfinished → JournalsAreNamed image → IsDue (UnfinishedRefuses other) error → IsDue (FolderRefuses image) error
unfinished_refuses image other error same tells named due =
    due_as (UnfinishedRefuses other) (FolderRefuses image) error (λ e refused. inr (Unfinished, tells, inr (named, subst (λ i. UnfinishedRefuses i e) same refused))) due

pub reads_finished : (image other : Image) (f : RecoveredFolder) → other ≡ image → marker_tells (marker_bytes image) ≡ Ok Whole → JournalsAreNamed image → IsFinished other f → ReadsFolder image (Some f)
reads_finished image other f same tells named finished =
    let here = subst (λ i. IsFinished i f) same finished in
    let it = held image f tells named here in
    (here, (it.contents, it.sound, it.shows))

pub reads_unfinished : (image other : Image) → other ≡ image → marker_tells (marker_bytes image) ≡ Ok Unfinished → JournalsAreNamed image → AreEmpty other → KeyspacesAreNamed other → IsBegun (records_in other) → ReadsFolder image None
reads_unfinished image other same tells named none keyspaces begun = record {
  marker = tells;
  journals_named = named;
  journals = subst AreEmpty same none;
  keyspaces_named = subst KeyspacesAreNamed same keyspaces;
  catalog = subst (λ i. IsBegun (records_in i)) same begun;
}
