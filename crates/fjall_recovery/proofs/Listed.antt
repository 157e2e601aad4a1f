-- What the list of a folder tells of an image.
use Rattle.std.proofs.Common.{◌≡◌, ◌≢◌, ◌⊎◌, inl, inr, ℕ, Bool, List, [], codes, Any, Result, Ok, Err, refl, sym, ◌∙◌, ap, subst}
use Rattle.std.specs.Prelude.{Vec, IfOk, IfErr, OnOk, IsFalse, IsTrue, string_bytes}
use Rattle.std.proofs.lemmas.Bool.{true≢false}
use Rattle.std.specs.declared.alloc.Global.{Global}
use Rattle.fjall_base.specs.declared.error.Error.{Error}
use Rattle.fjall_base.specs.declared.error.Error.TheVariants.{OutOfMemory}
use Rattle.fjall_base.specs.declared.disk.DirEntry.{DirEntry}
use Rattle.fjall_base.specs.Disk.{Name, DiskEntry, Missing, File, Folder, DiskState, IsFile, Lists, IsInList, TellsEntry, folder_of, standing}
use Rattle.fjall_files.specs.Names.{IsMisnamed, IsNameOf, journal_name, keyspace_folder}
use Rattle.fjall_files.specs.Lists.{AreIds, IsJournal, IsKeyspace, IsMisnamedFile, IsStrayFolder}
use Rattle.fjall_recovery.specs.Naming.{AreFolderIds, JournalsAreNamed, KeyspacesAreNamed}
use Rattle.fjall_recovery.specs.Journals.{AreJournalIds}
use Rattle.fjall_recovery.specs.Refusals.{IsDue}
use Rattle.fjall_recovery.proofs.Gathering.{due}
pub use Rattle.fjall_files.proofs.Fitting.{folder_of-journal as in_root, folder_of-folder as in_keyspaces}

-- journals stand in the root, and the folders of keyspaces in `keyspaces`

-- ---- entries of a list

-- what an entry tells of the image
pub listed_at : (state : DiskState) (folder : Name) (listed : List DirEntry) (P : DirEntry → Type 0) → Lists state folder listed → Any P listed → (entry : DirEntry) × P entry × IsInList state folder entry
listed_at state folder listed P lists (k, x, lt, at, is) = (x, is, subst (IsInList state folder) at (lists.each k x lt))

file_told : (entry : DiskEntry) (is_folder : Bool) → IsFalse is_folder → TellsEntry entry is_folder → IsFile entry
file_told Missing is_folder is told = absurd told
file_told (File synced unsynced) is_folder is told = tt
file_told Folder is_folder is told = absurd (true≢false (sym told ∙ is))

folder_told : (entry : DiskEntry) (is_folder : Bool) → IsTrue is_folder → TellsEntry entry is_folder → entry ≡ Folder
folder_told Missing is_folder is told = absurd told
folder_told Folder is_folder is told = refl
folder_told (File synced unsynced) is_folder is told = absurd (true≢false (sym is ∙ told))

tells_file : (entry : DiskEntry) (is_folder : Bool) → IsFile entry → TellsEntry entry is_folder → IsFalse is_folder
tells_file (File synced unsynced) is_folder file told = told
tells_file Missing is_folder file told = absurd file
tells_file Folder is_folder file told = absurd file

tells_folder : (entry : DiskEntry) (is_folder : Bool) → entry ≡ Folder → TellsEntry entry is_folder → IsTrue is_folder
tells_folder entry is_folder is told = subst (λ (e : DiskEntry). TellsEntry e is_folder) is told

some_file : (entry : DiskEntry) → IsFile entry → entry ≢ Missing
some_file entry file is = subst IsFile is file

some_folder : (entry : DiskEntry) → entry ≡ Folder → entry ≢ Missing
some_folder entry is none = let e : Folder ≡ Missing = sym is ∙ none in cc

module _ (state : DiskState) (folder : Name) (listed : List DirEntry) (lists : Lists state folder listed) where
  -- the entry of the list that has this name, with what the list tells of it
  at_name : (P : DirEntry → Type 0) (name : Name) → folder_of name ≡ folder → standing state name ≢ Missing
      → ((entry : DirEntry) → string_bytes entry.name ≡ name → TellsEntry (standing state name) entry.is_folder → P entry) → Any P listed
  at_name P name inside some f =
      let (k, x, lt, at, is) = lists.whole name inside some in
      (k, x, lt, at, f x is (subst (λ (n : Name). TellsEntry (standing state n) x.is_folder) is (subst (IsInList state folder) at (lists.each k x lt)).1))

module _ (state : DiskState) (listed : List DirEntry) (lists : Lists state [] listed) where
  pub journal_ids : (ids : List ℕ) → AreIds IsJournal listed ids → AreJournalIds (standing state) ids
  journal_ids ids are = record {
    ascending = are.ascending;
    each = λ id. (
      (λ has.
          let (entry, is, told) = listed_at state [] listed (λ e. IsJournal e id) lists ((are.each id).0 has) in
          (is.1.0, subst (λ (n : Name). IsFile (standing state n)) is.1.1 (file_told (standing state (string_bytes entry.name)) entry.is_folder is.0 told.1))),
      (λ stands. (are.each id).1
          (at_name state [] listed lists (λ e. IsJournal e id) (journal_name id) (in_root id stands.0) (some_file (standing state (journal_name id)) stands.1)
          (λ entry named told. (tells_file (standing state (journal_name id)) entry.is_folder stands.1 told, (stands.0, named))))),
    );
  }

  pub journals_named : (Any IsMisnamedFile listed → ⊥) → JournalsAreNamed (standing state)
  journals_named none name root file misnamed =
      none (at_name state [] listed lists IsMisnamedFile name root (some_file (standing state name) file)
      (λ entry named told. (tells_file (standing state name) entry.is_folder file told, subst IsMisnamed (sym named) misnamed)))

  pub journals_misnamed : Any IsMisnamedFile listed → JournalsAreNamed (standing state) → ⊥
  journals_misnamed some named =
      let (entry, is, told) = listed_at state [] listed IsMisnamedFile lists some in
      named (string_bytes entry.name) told.0 (file_told (standing state (string_bytes entry.name)) entry.is_folder is.0 told.1) is.1

module _ (state : DiskState) (listed : List DirEntry) (lists : Lists state (codes "keyspaces") listed) where
  pub folder_ids : (ids : List ℕ) → AreIds IsKeyspace listed ids → AreFolderIds (standing state) ids
  folder_ids ids are = record {
    ascending = are.ascending;
    each = λ id. (
      (λ has.
          let (entry, is, told) = listed_at state (codes "keyspaces") listed (λ e. IsKeyspace e id) lists ((are.each id).0 has) in
          (is.1.0, subst (λ (n : Name). standing state n ≡ Folder) is.1.1 (folder_told (standing state (string_bytes entry.name)) entry.is_folder is.0 told.1))),
      (λ stands. (are.each id).1
          (at_name state (codes "keyspaces") listed lists (λ e. IsKeyspace e id) (keyspace_folder id) (in_keyspaces id stands.0) (some_folder (standing state (keyspace_folder id)) stands.1)
          (λ entry named told. (tells_folder (standing state (keyspace_folder id)) entry.is_folder stands.1 told, (stands.0, named))))),
    );
  }

  pub keyspaces_named : (Any IsStrayFolder listed → ⊥) → KeyspacesAreNamed (standing state)
  keyspaces_named none name inside is stray =
      none (at_name state (codes "keyspaces") listed lists IsStrayFolder name inside (some_folder (standing state name) is)
      (λ entry named told. (tells_folder (standing state name) entry.is_folder is told, λ id of. stray id (subst (λ (n : Name). IsNameOf keyspace_folder n id) named of))))

  pub keyspaces_misnamed : Any IsStrayFolder listed → KeyspacesAreNamed (standing state) → ⊥
  keyspaces_misnamed some named =
      let (entry, is, told) = listed_at state (codes "keyspaces") listed IsStrayFolder lists some in
      named (string_bytes entry.name) told.0 (folder_told (standing state (string_bytes entry.name)) entry.is_folder is.0 told.1) is.1

-- ---- over the answers

pub journal_ids_ok : (state : DiskState) (result : Result (Vec ℕ Global) Error) (listed : List DirEntry) → Lists state [] listed → IfOk result (λ ids. AreIds IsJournal listed ids.items) → IfOk result (λ ids. AreJournalIds (standing state) ids.items)
journal_ids_ok state (Ok ids) listed lists are = journal_ids state listed lists ids.items are
journal_ids_ok state (Err e) listed lists are = tt

-- no error, where there is no cause for one
unless : {X : Type 0} (result : Result X Error) (error : Error) (P : Type 0) → (P → result ≡ Err error) → OnOk result (P → ⊥)
unless (Ok x) error P refused = λ some. let no : Ok x ≡ Err error = refused some in cc
unless (Err e) error P refused = tt

on_ok : {X : Type 0} (result : Result X Error) (P Q : Type 0) → (P → Q) → OnOk result P → OnOk result Q
on_ok (Ok x) P Q f p = f p
on_ok (Err e) P Q f p = tt

pub journals_named_ok : {X : Type 0} (state : DiskState) (result : Result X Error) (error : Error) (listed : List DirEntry) → Lists state [] listed → (Any IsMisnamedFile listed → result ≡ Err error) → OnOk result (JournalsAreNamed (standing state))
journals_named_ok state result error listed lists refused = on_ok result (Any IsMisnamedFile listed → ⊥) (JournalsAreNamed (standing state)) (journals_named state listed lists) (unless result error (Any IsMisnamedFile listed) refused)

pub journals_refused : {X : Type 0} (state : DiskState) (result : Result X Error) (error : Error) (listed : List DirEntry) → Lists state [] listed → (result ≡ Err error → Any IsMisnamedFile listed)
    → IfErr result (λ e. (e ≡ error) ⊎ (e ≡ OutOfMemory)) → IfErr result (IsDue (λ e. (e ≡ error) × (JournalsAreNamed (standing state) → ⊥)))
journals_refused state (Ok x) error listed lists some only = tt
journals_refused state (Err e) error listed lists some (inl is) = due (λ e. (e ≡ error) × (JournalsAreNamed (standing state) → ⊥)) e (is, journals_misnamed state listed lists (some (ap Err is)))
journals_refused state (Err e) error listed lists some (inr memory) = subst (IsDue (λ e. (e ≡ error) × (JournalsAreNamed (standing state) → ⊥))) (sym memory) tt

pub folder_ids_ok : (state : DiskState) (result : Result (Vec ℕ Global) Error) (listed : List DirEntry) → Lists state (codes "keyspaces") listed → IfOk result (λ ids. AreIds IsKeyspace listed ids.items) → IfOk result (λ ids. AreFolderIds (standing state) ids.items)
folder_ids_ok state (Ok ids) listed lists are = folder_ids state listed lists ids.items are
folder_ids_ok state (Err e) listed lists are = tt

pub keyspaces_named_ok : {X : Type 0} (state : DiskState) (result : Result X Error) (error : Error) (listed : List DirEntry) → Lists state (codes "keyspaces") listed → (Any IsStrayFolder listed → result ≡ Err error) → OnOk result (KeyspacesAreNamed (standing state))
keyspaces_named_ok state result error listed lists refused = on_ok result (Any IsStrayFolder listed → ⊥) (KeyspacesAreNamed (standing state)) (keyspaces_named state listed lists) (unless result error (Any IsStrayFolder listed) refused)

pub keyspaces_refused : {X : Type 0} (state : DiskState) (result : Result X Error) (error : Error) (listed : List DirEntry) → Lists state (codes "keyspaces") listed → (result ≡ Err error → Any IsStrayFolder listed)
    → IfErr result (λ e. (e ≡ error) ⊎ (e ≡ OutOfMemory)) → IfErr result (IsDue (λ e. (e ≡ error) × (KeyspacesAreNamed (standing state) → ⊥)))
keyspaces_refused state (Ok x) error listed lists some only = tt
keyspaces_refused state (Err e) error listed lists some (inl is) = due (λ e. (e ≡ error) × (KeyspacesAreNamed (standing state) → ⊥)) e (is, keyspaces_misnamed state listed lists (some (ap Err is)))
keyspaces_refused state (Err e) error listed lists some (inr memory) = subst (IsDue (λ e. (e ≡ error) × (KeyspacesAreNamed (standing state) → ⊥))) (sym memory) tt
