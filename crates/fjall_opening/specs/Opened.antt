-- A database that was opened.
use Rattle.std.specs.Prelude.{◌≡◌, ◌⊎◌, ℕ, ◌<◌, ◌≤◌, ◌^◌, All, IfSome, List, [], ◌∷◌, ◌++◌, is_some, length, map, true, Option, None, Some}
use Rattle.std.specs.List.{AllZip}
use Rattle.std.specs.List.Sorted.{IsStrictlyIncreasing}
use Rattle.std.specs.FinMap.{empty, get}
use Rattle.fjall_base.specs.Disk.{DiskState, Image, IsFile, Meaning, Name, Took, standing, state_in}
use Rattle.fjall_base.specs.declared.error.Error.{Error}
use Rattle.fjall_base.specs.declared.error.Error.TheVariants.{Io, OutOfMemory}
use Rattle.fjall_base.specs.Store.{Store}
use Rattle.fjall_files.specs.Calls.{seen}
use Rattle.fjall_files.specs.Names.{journal_name, table_name}
use Rattle.fjall_journal.specs.declared.batch.ReadBatchItem.{ReadBatchItem}
use Rattle.fjall_journal.specs.Batches.{Shown, shown}
use Rattle.fjall_files.specs.Journals.{Sealed}
use Rattle.fjall_files.specs.Marks.{JournalMarks}
use Rattle.fjall_files.specs.Reaching.{some_reaches}
use Rattle.fjall_files.specs.Telling.{AreMarksOf}
use Rattle.fjall_manifest.specs.Records.{Fields}
use Rattle.fjall_manifest.specs.Records as records
use Rattle.fjall_meta.specs.Keyspaces.{AreKeyspaces, Keyspaces, no_keyspaces}
use Rattle.fjall_manifest.specs.declared.catalog.Catalog.{Catalog}
use Rattle.fjall_manifest.specs.Catalog.{fields, first_catalog}
use Rattle.fjall_table.specs.Blocks.{Entry}
use Rattle.fjall_table_reader.specs.Files.{entry_at}
use Rattle.fjall_table_reader.specs.Readers.{SomeTableIsWrong}
use Rattle.fjall_manifest.specs.Homes.{Home}
use Rattle.fjall_meta.specs.Contents.{store_held as store_beyond}
use Rattle.fjall_trees.specs.MapTables.{store_with}
use Rattle.fjall_journal.specs.declared.recovery_mode.RecoveryMode.{RecoveryMode}
use Rattle.fjall_replay.specs.Beside.{AreReplayedWith}
use Rattle.fjall_replay.specs.Parted.{AreLeftBy, ArePartedBy, all_unwritten}
use Rattle.fjall_replay.specs.Known.{AreAtHome, IsKnown}
use Rattle.fjall_replay.specs.Opening.{HaveEntries, stored_with}
use Rattle.fjall_trees.specs.Forests.{AreBefore, Forest, IsForest, tree_at}
use Rattle.fjall_trees.specs.Views.{forest_of}
use Rattle.fjall_trees.specs.Tables.{AreReadOn}
use Rattle.fjall_meta.specs.Replays.{bare}
use Rattle.fjall_recovery.specs.declared.folder.RecoveredFolder.{RecoveredFolder}
use Rattle.fjall_recovery.specs.Folders.{Contents, number_of_contents, store_of_contents}
use Rattle.fjall_recovery.specs.Journals.{WholeJournal, batches_in}
use Rattle.fjall_recovery.specs.Told.{TellsOf}
use Rattle.fjall_recovery.specs.Refusals.{FolderRefusesIn, IsDue}
use Rattle.fjall_recovery.specs.Halves.{Tree}
use Rattle.fjall_recovery.specs.Homes.{Homes, stored_in}
use Rattle.fjall_recovery.specs.Held.{IsOpenFolder, number_held, store_of_folder}
use Rattle.fjall_recovery.specs.Places.{Journaling, LiesInRoot, LiesInTree, contents_with, journals_with, texts_of}
use Rattle.fjall_repair.specs.Making.{ComesBackUnfinished}
use Rattle.fjall_files.specs.Places.{told}
use Rattle.fjall_opening.specs.declared.opened.Opened.{Opened}

-- ---- what was opened

-- The database lies on the disk, all of it synced, and is what was opened; it stands for the store that the folder stood for. The
-- tables of its trees lie in their keyspaces' folders, have these entries on the disk, and no wrong block. The trees show what the
-- files hold and what the batches make beyond that, and each keyspace's home is known.
pub record OpensFolder (disk : Meaning) (folder : Option Contents) (o : Opened) : Type 0 where
  pub j : Journaling
  pub records : List Fields
  pub t : Tree
  pub root : LiesInRoot (state_in disk) j
  pub tree : LiesInTree (state_in disk) records t
  pub later : j.later ≡ []
  pub journal : o.journal ≡ record { name = journal_name j.active; buffer = []; len = length (texts_of j.whole) }
  pub sealed : AllZip TellsOf j.sealed o.sealed
  pub active : o.active ≡ j.active
  pub marks : AreMarksOf (map shown j.whole) (told o.watermarks)
  pub last : t.last ≡ o.catalog
  pub keyspaces : t.keyspaces ≡ o.keyspaces
  pub entries : ℕ → List (List Entry)
  pub on : AreReadOn disk (forest_of o.trees) entries
  pub named : AreAtHome o.records (forest_of o.trees)
  pub right : All (λ k. SomeTableIsWrong disk k.shape.tables → ⊥) (forest_of o.trees)
  pub unused : (id : ℕ) → o.keyspaces.next ≤ id → entries id ≡ []
  pub made : store_with entries o.keyspaces (forest_of o.trees) ≡ store_of_contents (contents_with j t [])
  pub shown : AreReplayedWith entries t.keyspaces (stored_in t.homes t.versions) (map shown (batches_in (journals_with j []))) (forest_of o.trees)
  pub known : All (IsKnown o.records (forest_of o.trees) entries t.homes t.versions) t.keyspaces.living
  pub store : store_of_contents (contents_with j t []) ≡ store_of_folder folder
  pub number : o.number ≡ number_of_contents (contents_with j t [])
  pub same : o.number ≡ number_held folder

-- Keyspaces were made, and all in memory was changed, under lesser numbers than the next one, which is at most 2^63. The trees are
-- of ids that were given out, and each keyspace that lives has one. The numbers of the sealed journals ascend, and the active one's
-- is greater. Of each keyspace that lives the last record is kept, and none of an id that isn't given out. No flush and no merge is out
-- of a tree. What the sealed journals have of it is sealed: all in its sealed memtables is numbered up to some watermark of theirs, and
-- nothing in the active one is.
pub record IsLawfulOpening (o : Opened) : Type 0 where
  pub keyspaces : AreKeyspaces o.keyspaces
  pub made : All (λ k. k.number < o.number) o.keyspaces.living
  pub forest : IsForest (forest_of o.trees)
  pub planted : All (λ k. is_some (tree_at k.id (forest_of o.trees)) ≡ true) o.keyspaces.living
  pub positive : All (λ k. 0 < k.id) (forest_of o.trees)
  pub given : All (λ k. k.id < o.keyspaces.next) (forest_of o.trees)
  pub below : AreBefore o.number (forest_of o.trees)
  pub small : o.number ≤ 2 ^ 63
  pub numbered : IsStrictlyIncreasing (map (λ journal. journal.id) o.sealed ++ o.active ∷ [])
  pub recorded : All (λ k. is_some (get o.records k.id) ≡ true) o.keyspaces.living
  pub kept : (id : ℕ) → o.keyspaces.next ≤ id → get o.records id ≡ None
  pub still : All (λ k. (k.shape.flush ≡ None) × (k.shape.merge ≡ None)) (forest_of o.trees)
  pub parted : ArePartedBy (some_reaches o.sealed) (forest_of o.trees)

-- This is opened: a writer at the end of the active journal, what the last record of tree 0 says, the keyspaces that live, and
-- trees over the tables of those that were loaded, which differ in what is in memory alone. What the sealed journals have is sealed.
pub record TakesOver (o : Opened) (active : Name) (end : ℕ) (last : Catalog) (s : Keyspaces) (loaded : Forest) : Type 0 where
  pub journal : o.journal ≡ record { name = active; buffer = []; len = end }
  pub last_is : o.catalog ≡ last
  pub keyspaces : o.keyspaces ≡ s
  pub reads : (disk : Meaning) (entries : ℕ → List (List Entry)) → AreReadOn disk loaded entries → AreReadOn disk (forest_of o.trees) entries
  pub rest : all_unwritten (forest_of o.trees) ≡ all_unwritten loaded
  pub parted : ArePartedBy (some_reaches o.sealed) (forest_of o.trees)

-- these are its sealed journals, the number of its active one, and the watermarks of that
pub record HasJournals (o : Opened) (sealed : List Sealed) (active : ℕ) (marks : JournalMarks) : Type 0 where
  pub sealed_are : o.sealed ≡ sealed
  pub active_is : o.active ≡ active
  pub marks_are : told o.watermarks ≡ marks

-- The tables of a folder's keyspaces have these entries on the disk, but for wrong blocks, and an id without a home has none.
abbrev pub HaveEntriesIn : Meaning → Option Contents → (ℕ → List (List Entry)) → Type 0
HaveEntriesIn disk None entries = (id : ℕ) → entries id ≡ []
HaveEntriesIn disk (Some c) entries = HaveEntries disk c entries × ((id : ℕ) → get c.homes id ≡ None → entries id ≡ [])

-- the store of a folder whose tables have these entries
abbrev pub store_entries : (ℕ → List (List Entry)) → Option Contents → Store
store_entries entries None = bare no_keyspaces
store_entries entries (Some c) = store_beyond c.keyspaces (stored_with c.homes entries) (map shown (batches_in c.journals))

-- What the trees have in memory is what the journals of a folder left there, one sealed memtable for each sealed journal that has
-- something of a keyspace beyond its home. Where the folder's making was cut short there is no tree.
abbrev pub AreLeftIn : Option Contents → Forest → Type 0
AreLeftIn None trees = trees ≡ []
AreLeftIn (Some c) trees = AreLeftBy c.keyspaces c.homes c.journals trees

-- its writer goes on in a journal's file
abbrev pub WritesJournal : Opened → Type 0
WritesJournal o = (id : ℕ) × (id < 2 ^ 64) × (o.journal.name ≡ journal_name id)

-- The opened trees read these entries on the disk, but for wrong blocks, and show the store with them.
pub record ReadsEntries (disk : Meaning) (folder : Option Contents) (entries : ℕ → List (List Entry)) (o : Opened) : Type 0 where
  pub on : AreReadOn disk (forest_of o.trees) entries
  pub store : store_with entries o.keyspaces (forest_of o.trees) ≡ store_entries entries folder
  pub unused : (id : ℕ) → o.keyspaces.next ≤ id → entries id ≡ []

-- So it is of a folder with these contents, where the disk held it and is now another.
pub record ReadsFrom (old new : Meaning) (c : Contents) (o : Opened) : Type 0 where
  pub named : AreAtHome o.records (forest_of o.trees)
  pub left : AreLeftBy c.keyspaces c.homes c.journals (forest_of o.trees)
  pub reads : (entries : ℕ → List (List Entry)) → HaveEntriesIn old (Some c) entries → ReadsEntries new (Some c) entries o

-- What was opened is what the disk held, a folder that opens: one past the greatest number in it, trees with what its journals left in
-- memory, which with whatever entries its tables have, but for wrong blocks, read them on the disk as it is now and show the store.
pub record IsOpenedFrom (old new : Meaning) (o : Opened) : Type 0 where
  pub folder : Option Contents
  pub is : IsOpenFolder (seen old) folder
  pub number : o.number ≡ number_held folder
  pub named : AreAtHome o.records (forest_of o.trees)
  pub left : AreLeftIn folder (forest_of o.trees)
  pub reads : (entries : ℕ → List (List Entry)) → HaveEntriesIn old folder entries → ReadsEntries new folder entries o

-- the tables that the homes' last records name stand in sight as they did
abbrev pub KeepsNamed : Meaning → Meaning → Homes → Type 0
KeepsNamed old new homes = (id : ℕ) (h : Home) → get homes id ≡ Some h → All (λ t. entry_at new (table_name id t.id) ≡ entry_at old (table_name id t.id)) h.last.tables

-- no journal stands there
abbrev pub HasNoJournal : Image → Type 0
HasNoJournal image = (id : ℕ) → id < 2 ^ 64 → IsFile (image (journal_name id)) → ⊥

-- Where a folder's making was cut short, whatever may come back in folders that are made anew is such a folder too.
abbrev pub ComesBack : DiskState → Option Contents → Type 0
ComesBack state None = ComesBackUnfinished state
ComesBack state (Some contents) = Unit {0}

-- ---- the repair

-- these contents lie on the disk with these journals, all of them synced, and this is the file of the active one and where it ends
pub record IsRepaired (state : DiskState) (contents : Contents) (journals : List WholeJournal) (active : Name) (end : ℕ) : Type 0 where
  pub j : Journaling
  pub records : List Fields
  pub root : LiesInRoot state j
  pub tree : LiesInTree state records (record { last = contents.last; keyspaces = contents.keyspaces; homes = contents.homes; versions = contents.versions })
  pub later : j.later ≡ []
  pub active_is : journal_name j.active ≡ active
  pub end_is : length (texts_of j.whole) ≡ end
  pub batches : batches_in (journals_with j []) ≡ batches_in contents.journals
  pub journals_are : journals_with j [] ≡ journals

-- a database without keyspaces, that nothing was written into
abbrev pub nothing : Contents
nothing = record { journals = []; keyspaces = no_keyspaces; last = first_catalog; homes = empty; versions = empty }

-- ---- numbers

-- the numbers of a record end before the greatest
abbrev pub HasNumbers : Fields → Type 0
HasNumbers r = IfSome r.persisted (λ n. n < 2 ^ 63) × IfSome r.highest (λ n. n < 2 ^ 63)

-- the last records of tree 0 and of each keyspace, as they were read
abbrev pub records_of : RecoveredFolder → List Fields
records_of f = fields f.catalog.catalog ∷ map (λ h. records.view h.record) f.homes.items

-- what each keyspace's record tells as persisted is numbered below this
abbrev pub TellsBelow : ℕ → RecoveredFolder → Type 0
TellsBelow number f = All (λ h. IfSome h.record.persisted (λ n. n < number)) f.homes.items

-- ---- sizes

-- the item's key and value have lengths that a journal spells
pub record HasSizes (item : ReadBatchItem) : Type 0 where
  pub some : 0 < length item.key
  pub key : length item.key < 2 ^ 16
  pub value : length item.value < 2 ^ 32

-- the items of the batch have such lengths
abbrev pub IsFit : Shown → Type 0
IsFit b = All HasSizes b.items

-- ---- why it isn't opened

-- the disk failed, or memory ran out before anything was changed
abbrev pub IsHeldUp : Meaning → Meaning → Error → Type 0
IsHeldUp old new (Io kind) = Unit {0}
IsHeldUp old new OutOfMemory = Took old new []
IsHeldUp old new error = ⊥

-- the folder is one that opens
abbrev pub IsSomeFolder : Image → Type 0
IsSomeFolder image = (folder : Option Contents) × IsOpenFolder image folder

-- The disk failed, or memory ran out or the folder is refused in this mode, before anything was changed. Where the disk failed and
-- something was changed, the folder is one that opens.
abbrev pub IsUnopened : RecoveryMode → Meaning → Meaning → Error → Type 0
IsUnopened mode old new (Io kind) = Took old new [] ⊎ IsSomeFolder (standing (state_in old))
IsUnopened mode old new error = IsDue (FolderRefusesIn mode (standing (state_in old))) error × Took old new []
