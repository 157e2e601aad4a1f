-- What was opened, and the disk until then.
use Rattle.std.proofs.Common.{◌≡◌, ◌⊎◌, inl, inr, ℕ, zero, suc, ◌<◌, ◌≤◌, ◌^◌, ◌==◌, Bool, true, false, if◌then◌else◌, max, List, [], ◌∷◌, length, get_or, map, All, Option, None, Some, Result, Ok, Err, refl, sym, ◌∙◌, ap, subst, arith}
use Rattle.std.specs.List.{AllByRecursion}
use Rattle.std.proofs.lemmas.List.Elements.{All-from_recursion, All-nil}
use Rattle.std.specs.Prelude.{IfOk, IfErr, IfSome}
use Rattle.fjall_base.specs.Disk.{Name, DiskState, Image, Survives, LeavesBy, LeavesOnly, Meaning, Took, standing, state_in}
use Rattle.fjall_base.specs.declared.error.Error.{Error}
use Rattle.fjall_base.specs.declared.error.Error.TheVariants.{Io, OutOfMemory, Storage, Unrecoverable}
use Rattle.fjall_base.specs.declared.error.StorageError.TheVariants.{TableDamaged}
use Rattle.fjall_base.proofs.Moments.{started}
use Rattle.fjall_files.proofs.Made.{took_both}
use Rattle.fjall_journal.specs.Batches.{Written, shown}
use Rattle.fjall_meta.specs.Keyspaces.{Keyspaces, no_keyspaces}
use Rattle.fjall_journal.specs.Writer.{Journal}
use Rattle.fjall_files.specs.Names.{journal_name}
use Rattle.fjall_meta.specs.Replays.{least_after}
use Rattle.fjall_meta.specs.Contents.{store_held as store_beyond}
use Rattle.fjall_trees.specs.MapTables.{store_with}
use Rattle.fjall_table.specs.Blocks.{Entry}
use Rattle.fjall_tree.specs.Trees.{ReadsAll}
use Rattle.fjall_journal.specs.declared.recovery_mode.RecoveryMode.{RecoveryMode}
use Rattle.fjall_replay.specs.Opening.{HaveEntriesBut}
use Rattle.fjall_replay.specs.Beside.{AreReplayedWith}
use Rattle.fjall_trees.specs.Forests.{Forest, Planted}
use Rattle.fjall_trees.specs.Tables.{AreReadOn}
use Rattle.fjall_opening.proofs.OpenedTrees.{ShowStore}
use Rattle.fjall_trees.specs.Views.{forest_of}
use Rattle.fjall_recovery.specs.Places.{texts_of, contents_with}
use Rattle.fjall_table.specs.declared.table_info.TableInfo.{TableInfo}
use Rattle.fjall_manifest.specs.Records.{Fields, IsRecord}
use Rattle.fjall_base.specs.Lists.{last_of}
use Rattle.fjall_manifest.specs.Records as records
use Rattle.fjall_meta.specs.declared.living.LivingKeyspace.{LivingKeyspace}
use Rattle.fjall_manifest.specs.Catalog.{fields, listed}
use Rattle.fjall_manifest.proofs.Resting.{last_has}
use Rattle.fjall_recovery.specs.Folders.{Contents, ImageStandsFor, IsFinished, IsOpenable, IsSound, IsUnfinished, ShowsContents, number_of_contents, past, past_record, past_records, store_of_contents}
use Rattle.fjall_recovery.specs.declared.folder.RecoveredFolder.{RecoveredFolder}
use Rattle.fjall_manifest.specs.declared.reading.LoadedHome.{LoadedHome}
use Rattle.fjall_recovery.specs.Homes.{AreHomesRead, lasts, stored_in}
use Rattle.fjall_replay.specs.Known.{AreAtHome, IsAtHome}
use Rattle.fjall_recovery.specs.Refusals.{FolderRefusesIn, HasRisen, IsDue, IsOpeningRefusal}
use Rattle.fjall_journal.proofs.Writing.{took_none}
use Rattle.fjall_files.specs.declared.marker.Marker.TheVariants.{Whole, Unfinished}
use Rattle.fjall_recovery.specs.Journals.{WholeJournal as FoundJournal, batches_in}
use Rattle.fjall_recovery.specs.Told.{TellOf}
use Rattle.fjall_repair.specs.Steps.{active_of}
use Rattle.fjall_opening.proofs.Counting.{active_lying, tell_lying}
use Rattle.fjall_repair.proofs.MendOpened.{ids_of}
use Rattle.fjall_recovery.specs.Held.{Holds, IsFolder, number_held, store_of_folder}
use Rattle.fjall_recovery.proofs.Holding.{folder_stands, tree_of}
use Rattle.fjall_repair.proofs.Begun as Beginning
use Rattle.fjall_opening.proofs.Agreeing.{homes_are}
use Rattle.fjall_opening.proofs.Fitting.{least_small, records_small, written_fit}
use Rattle.fjall_opening.specs.declared.replaying.Replay.{Replay}
use Rattle.fjall_opening.specs.Replaying.{MayTake}
use Rattle.fjall_meta.proofs.Following.{before_least}
use Rattle.fjall_opening.specs.Readings.{names_read}
use Rattle.fjall_opening.specs.declared.opened.Opened.{Opened}
use Rattle.fjall_repair.specs.Sweeps.{AreHomesOf, IsSwept, names_of, no_names}
use Rattle.fjall_files.specs.Places.{told as told_in}
use Rattle.fjall_opening.specs.Opened.{ComesBack, HasNumbers, HaveEntriesIn, IsHeldUp, IsOpenedFrom, IsRepaired, IsUnopened, IsSomeFolder, OpensFolder, ReadsFrom, TakesOver, TellsBelow, records_of}

-- ---- before the first change

module _ (old mid : Meaning) (same : Took old mid []) where
  pub holds_on : (folder : Option Contents) → Holds (state_in old) folder → Holds (state_in mid) folder
  holds_on folder holds = subst (λ (s : DiskState). Holds s folder) (sym same.state) holds

  -- a run that begins there begins before
  pub run_on : (new : Meaning) (P : Image → Type 0) → LeavesOnly mid new P → LeavesOnly old new P
  run_on new P run = record {
    added = run.added;
    took = took_both old mid new [] run.added same run.took;
    each = λ image left. run.each image (subst (λ (s : DiskState). LeavesBy Survives s run.added image) (sym same.state) left);
  }

-- what holds stands for its store
pub stands_now : (old : Meaning) (folder : Option Contents) → Holds (state_in old) folder → LeavesOnly old old (λ image. ImageStandsFor image (store_of_folder folder))
stands_now old folder holds = started old (λ image. ImageStandsFor image (store_of_folder folder)) (λ image is. folder_stands image folder (holds.crash image is))

-- ---- what was opened

module _ (disk : Meaning) (contents : Contents) (journals : List FoundJournal) (active : Name) (end : ℕ) (is : IsRepaired (state_in disk) contents journals active end) where
  same_store : store_of_contents (contents_with is.j (tree_of contents) []) ≡ store_of_contents contents
  same_store = ap (λ (b : List Written). store_beyond contents.keyspaces (stored_in contents.homes contents.versions) (map shown b)) is.batches

  same_number : number_of_contents (contents_with is.j (tree_of contents) []) ≡ number_of_contents contents
  same_number = ap (λ (b : List Written). max (least_after 0 (map shown b)) (past_records (fields contents.last ∷ lasts contents.keyspaces.living contents.homes))) is.batches

  at_end : (writer : Journal) → writer ≡ record { name = active; buffer = []; len = end } → writer ≡ record { name = journal_name is.j.active; buffer = []; len = length (texts_of is.j.whole) }
  at_end writer writing =
      writing ∙ ap (λ (n : Name). let w : Journal = record { name = n; buffer = []; len = end } in w) (sym is.active_is)
      ∙ ap (λ (n : ℕ). let w : Journal = record { name = journal_name is.j.active; buffer = []; len = n } in w) (sym is.end_is)

  pub opens_of : (folder : Option Contents) (loaded : Forest) (o : Opened)
      → TakesOver o active end contents.last contents.keyspaces loaded → TellOf journals o.sealed (told_in o.watermarks) → o.active ≡ active_of (ids_of journals)
      → ShowStore disk o contents → store_of_contents contents ≡ store_of_folder folder → o.number ≡ number_of_contents contents → number_of_contents contents ≡ number_held folder → OpensFolder disk folder o
  opens_of folder loaded o takes tell active_told shows store number held = record {
    j = is.j;
    records = is.records;
    t = tree_of contents;
    root = is.root;
    tree = is.tree;
    later = is.later;
    journal = at_end o.journal takes.journal;
    sealed = (tell_lying is.j journals is.journals_are o.sealed (told_in o.watermarks) tell).0;
    active = active_told ∙ active_lying is.j journals is.journals_are;
    marks = (tell_lying is.j journals is.journals_are o.sealed (told_in o.watermarks) tell).1;
    last = sym takes.last_is;
    keyspaces = sym takes.keyspaces;
    entries = shows.entries;
    on = shows.on;
    named = shows.named;
    right = shows.right;
    unused = shows.unused;
    made = shows.made ∙ sym same_store;
    shown = subst (λ (b : List Written). AreReplayedWith shows.entries contents.keyspaces (stored_in contents.homes contents.versions) (map shown b) (forest_of o.trees)) (sym is.batches) shows.shows;
    known = shows.known;
    store = same_store ∙ store;
    number = number ∙ sym same_number;
    same = number ∙ held;
  }

-- ---- the tables that its records name

module _ (image : Image) (found : RecoveredFolder) (read : IsFinished image found) (tree : List TableInfo) (homes : List LoadedHome) (living : List LivingKeyspace)
    (tree_is : tree ≡ listed found.catalog.catalog.table) (homes_same : homes ≡ found.homes.items) (living_is : living ≡ found.catalog.keyspaces.living) where
  pub homes_as : AreHomesOf living homes
  homes_as = subst (λ (l : List LivingKeyspace). AreHomesOf l homes) (sym living_is) (subst (AreHomesOf found.catalog.keyspaces.living) (sym homes_same) (homes_are image found read))

  pub named_as : names_of tree homes ≡ names_read found
  named_as = ap (λ (t : List TableInfo). names_of t homes) tree_is ∙ ap (λ (h : List LoadedHome). names_of (listed found.catalog.catalog.table) h) homes_same

-- ---- a folder without keyspaces

pub nothing_named : names_of [] [] ≡ no_names
nothing_named = λ i id. none (id == 0) i
  where
    none : (b : Bool) → map (λ (t : TableInfo). t.id) (if b then [] else []) ≡ []
    none true = refl
    none false = refl

-- ---- the numbers of a folder that was read

record_numbers : (records : List Fields) (r : Fields) → AllByRecursion IsRecord records → last_of records ≡ Some r → HasNumbers r
record_numbers records r each last = let is = last_has IsRecord records r each last in (is.consistent.persisted, is.consistent.highest)

home_numbers : (image : Image) (living : List LivingKeyspace) (homes : List LoadedHome) → AreHomesRead image living homes → AllByRecursion HasNumbers (map (λ h. records.view h.record) homes)
home_numbers image [] [] read = tt
home_numbers image [] (home ∷ homes) read = absurd read
home_numbers image (k ∷ living) [] read = absurd read
home_numbers image (k ∷ living) (home ∷ homes) read =
    let l = read.0.loaded in
    (record_numbers l.records (records.view home.record) l.openable.files.whole.each (l.openable.files.last_is ∙ ap Some (sym l.record_is)), home_numbers image living homes read.1)

-- what one of them tells is at most the greatest
among_homes : (homes : List LoadedHome) (i : ℕ) (d : LoadedHome) → i < length homes → past_record (records.view (get_or homes i d).record) ≤ past_records (map (λ h. records.view h.record) homes)
among_homes [] i d lt = absurd (omega (arith, lt))
among_homes (h ∷ homes) zero d lt = omega arith
among_homes (h ∷ homes) (suc i) d lt = let one = among_homes homes i d (omega (arith, lt)) in omega (arith, one)

persisted_below : (persisted : Option ℕ) (other number : ℕ) → max (past persisted) other ≤ number → IfSome persisted (λ n. n < number)
persisted_below None other number le = tt
persisted_below (Some n) other number le = omega (arith, le)

module _ (image : Image) (found : RecoveredFolder) (read : IsFinished image found) where
  pub numbers : All HasNumbers (records_of found)
  numbers = All-from_recursion HasNumbers (records_of found)
      (record_numbers read.records (fields found.catalog.catalog) read.catalog.files.whole.each read.catalog.files.last_is, home_numbers image found.catalog.keyspaces.living found.homes.items read.homes)

  -- the greatest is below 2^63
  pub number_small : (number : ℕ) → number ≡ max found.journals.least (past_records (records_of found)) → number ≤ 2 ^ 63
  number_small number is =
      let gathers = read.journals.gathers in
      let batches = map shown (batches_in read.journals.journals) in
      let last : least_after 0 batches ≤ 2 ^ 63 = least_small 0 batches gathers.sound (omega arith) in
      let next : found.journals.least ≡ least_after 0 batches = gathers.next in
      let records : past_records (records_of found) ≤ 2 ^ 63 = records_small (records_of found) numbers in
      omega (arith, is, last, next, records)

  -- each keyspace was made before
  pub made_before : (number : ℕ) (living : List LivingKeyspace) → number ≡ max found.journals.least (past_records (records_of found)) → living ≡ found.catalog.keyspaces.living → All (λ k. k.number < number) living
  made_before number living is same k d lt =
      let made = (subst (λ l. All (λ k. k.number < past_record (fields found.catalog.catalog)) l) (sym same) read.made) k d lt in
      let rest = past_records (map (λ h. records.view h.record) found.homes.items) in
      let first = past_record (fields found.catalog.catalog) in
      let all : number ≡ max found.journals.least (max first rest) = is in
      omega (arith, made, all)

  -- and so is what is persisted
  pub told_below : (number : ℕ) → number ≡ max found.journals.least (past_records (records_of found)) → TellsBelow number found
  told_below number is =
      let least = found.journals.least in
      let rest = past_records (map (λ h. records.view h.record) found.homes.items) in
      let first = past_record (fields found.catalog.catalog) in
      let all : number ≡ max least (max first rest) = is in
      λ i d lt.
      let one : past_record (records.view (get_or found.homes.items i d).record) ≤ rest = among_homes found.homes.items i d lt in
      persisted_below (get_or found.homes.items i d).record.persisted (past (get_or found.homes.items i d).record.highest) number (omega (arith, one, all))

  -- its batches may be replayed
  pub may_replay_all : (r : Replay) (number : ℕ) → r.bound ≡ number → number ≡ max found.journals.least (past_records (records_of found)) → MayTake r 0 (map shown (batches_in read.journals.journals))
  may_replay_all r number bound is =
      let gathers = read.journals.gathers in
      let batches = map shown (batches_in read.journals.journals) in
      let next : found.journals.least ≡ least_after 0 batches = gathers.next in
      record {
        fit = written_fit image read.journals.journals read.journals.read;
        sound = gathers.sound;
        below = λ i d lt. let low : (get_or batches i d).number < least_after 0 batches = (before_least 0 batches gathers.sound).1 i d lt in omega (arith, low, next, is, bound);
      }

  pub number_is : (contents : Contents) (number : ℕ) → ShowsContents found contents → number ≡ max found.journals.least (past_records (records_of found)) → number ≡ number_of_contents contents
  number_is contents number shows is =
      is ∙ ap (λ n. max n (past_records (records_of found))) shows.least
      ∙ ap (λ n. max (least_after 0 (map shown (batches_in contents.journals))) n) (ap (λ last. past_records (fields last ∷ map (λ h. records.view h.record) found.homes.items)) shows.last ∙ ap
      (λ homes. past_records (fields contents.last ∷ homes)) shows.homes)

-- a folder that contradicts its number is no fault of the disk's
pub number_risen : (old new : ℕ) (error : Error) → (error ≡ Unrecoverable) ⊎ (error ≡ Storage TableDamaged) → HasRisen old new error
number_risen old new error (inl is) = subst (HasRisen old new) (sym is) tt
number_risen old new error (inr is) = subst (HasRisen old new) (sym is) tt

pub number_listed : (error : Error) → (error ≡ Unrecoverable) ⊎ (error ≡ Storage TableDamaged) → IsOpeningRefusal error
number_listed error (inl is) = subst IsOpeningRefusal (sym is) tt
number_listed error (inr is) = subst IsOpeningRefusal (sym is) tt

-- ---- which folder it is

-- it is finished where it was read as such
pub finished_is : (image : Image) (contents : Contents) (folder : Option Contents) → IsOpenable image contents → IsFolder image folder
    → (other : Contents) × (folder ≡ Some other) × IsSound image other
finished_is image contents None here begun = let no : Ok Whole ≡ Ok Unfinished = sym here.marker ∙ begun.marker in absurd (let bad : ⊥ = cc in bad)
finished_is image contents (Some other) here is = (other, refl, is)

pub unfinished_is : (image : Image) (folder : Option Contents) → IsUnfinished image → IsFolder image folder → folder ≡ None
unfinished_is image None begun is = refl
unfinished_is image (Some contents) begun is = let no : Ok Whole ≡ Ok Unfinished = sym is.openable.marker ∙ begun.marker in absurd (let bad : ⊥ = cc in bad)

-- tables have the same entries on a disk that holds the same
have_on : (old mid : Meaning) (c : Contents) (entries : ℕ → List (List Entry)) → state_in mid ≡ state_in old → HaveEntriesIn old (Some c) entries → HaveEntriesIn mid (Some c) entries
have_on old mid c entries same have = (
  λ id h at.
      let here = have.0 id h at in
      (subst (λ (s : DiskState). HaveEntriesBut (standing s) id h.last.tables (entries id)) (sym same) here.0, here.1, here.2),
  have.1,
)

pub opened_from : (old mid new : Meaning) (c : Contents) (result : Result Opened Error) → state_in mid ≡ state_in old → IsOpenable (standing (state_in old)) c → IfOk result (ReadsFrom mid new c)
    → IfOk result (λ o. o.number ≡ number_of_contents c) → IfOk result (IsOpenedFrom old new)
opened_from old mid new c (Ok o) same is from number = record {
  folder = Some c;
  is = is;
  number = number;
  named = from.named;
  left = from.left;
  reads = λ entries have. from.reads entries (have_on old mid c entries same have);
}
opened_from old mid new c (Err e) same is from number = tt

pub begun_from : (old new : Meaning) (result : Result Opened Error) → IsUnfinished (standing (state_in old)) → IfOk result (λ o. o.keyspaces ≡ no_keyspaces) → IfOk result (λ o. forest_of o.trees ≡ [])
    → IfOk result (λ o. o.number ≡ 0) → IfOk result (IsOpenedFrom old new)
begun_from old new (Ok o) is keyspaces trees number = record {
  folder = None;
  is = is;
  number = number;
  named = subst (AreAtHome o.records) (sym trees) (All-nil (λ (k : Planted). IsAtHome o.records k.id k.shape.tables));
  left = trees;
  reads = λ entries none. record {
    on = subst (λ (f : Forest). AreReadOn new f entries) (sym trees) (All-nil (λ (k : Planted). ReadsAll new k.shape (entries k.id)));
    store = ap (λ (s : Keyspaces). store_with entries s (forest_of o.trees)) keyspaces;
    unused = λ id le. none id;
  };
}
begun_from old new (Err e) is keyspaces trees number = tt

-- what is swept after a step that changed nothing
pub swept_on : (old mid new : DiskState) (result : Result Opened Error) → mid ≡ old → IfOk result (λ o. IsSwept mid new o.catalog o.keyspaces.living) → IfOk result (λ o. IsSwept old new o.catalog o.keyspaces.living)
swept_on old mid new (Ok o) same swept = subst (λ (s : DiskState). IsSwept s new o.catalog o.keyspaces.living) same swept
swept_on old mid new (Err e) same swept = tt

-- ---- why it isn't opened

pub unopened : (mode : RecoveryMode) (old new : Meaning) (error : Error) → IsDue (FolderRefusesIn mode (standing (state_in old))) error → Took old new [] → IsUnopened mode old new error
unopened mode old new (Io kind) due took = inl took
unopened mode old new error due took = (due, took)

pub held_up : {X : Type 0} (mode : RecoveryMode) (old mid new : Meaning) (result : Result X Error) → IsSomeFolder (standing (state_in old)) → Took old mid [] → IfErr result (IsHeldUp mid new) → IfErr result (IsUnopened mode old new)
held_up mode old mid new (Ok x) stands took held = tt
held_up mode old mid new (Err (Io kind)) stands took held = inr stands
held_up mode old mid new (Err OutOfMemory) stands took held = (tt, took_none old mid new [] took held)
held_up mode old mid new (Err error) stands took held = absurd held

-- memory or the disk are always to blame
pub held_is_due : {X : Type 0} (Cause : Error → Type 0) (old new : Meaning) (result : Result X Error) → IfErr result (IsHeldUp old new) → IfErr result (IsDue Cause)
held_is_due Cause old new (Ok x) held = tt
held_is_due Cause old new (Err (Io kind)) held = tt
held_is_due Cause old new (Err OutOfMemory) held = tt
held_is_due Cause old new (Err error) held = absurd held

-- before anything was changed
pub held_early : (old new : Meaning) (error : Error) → IsDue (λ error. ⊥) error → Took old new [] → IsHeldUp old new error
held_early old new (Io kind) due took = tt
held_early old new OutOfMemory due took = took
held_early old new error due took = absurd due

-- what is no fault where the count stays is none
pub no_fault : (old new : ℕ) (error : Error) → HasRisen old old error → HasRisen old new error
no_fault old new (Io kind) (inl more) = let no : old < old = more in absurd (let bad : ⊥ = omega (arith, no) in bad)
no_fault old new (Io kind) (inr most) = inr most
no_fault old new error none = tt

-- ---- what may come back

pub settled_comes_back : (state : DiskState) (folder : Option Contents) → ((name : Name) → (state name).older ≡ []) → IsFolder (standing state) folder → ComesBack state folder
settled_comes_back state None settled is = Beginning.settled_comes_back state settled is
settled_comes_back state (Some contents) settled is = tt
