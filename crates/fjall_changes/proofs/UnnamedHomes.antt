-- The home of a keyspace that the catalog doesn't name, while it is made or removed.
use Rattle.std.proofs.Common.{◌≡◌, ◌≢◌, inl, ℕ, ◌<◌, ◌^◌, true, false, List, [], ◌∷◌, map, codes, All, IfSome, Option, Some, Result, Ok, Err, OnOk, OnErr, String, Global, string_bytes, refl, sym, ◌∙◌, ap, subst, arith}
use Rattle.std.specs.List.{flat_map}
use Rattle.std.proofs.lemmas.List.{append-nil}
use Rattle.std.proofs.lemmas.List.Concat.{flat_map-cons}
use Rattle.fjall_base.specs.declared.error.Error.{Error}
use Rattle.fjall_base.specs.Crash.{IsHoused}
use Rattle.fjall_base.specs.Disk.{Name, DiskEntry, Missing, File, Folder, Place, DiskState, Image, IsEmpty, IsNoFile, Meaning, LeavesOnly, Survives, SyncFolder, Took, folder_of, removing, settle, state_in}
use Rattle.fjall_base.proofs.Moments.{started, stays, steps_on, runs_on}
use Rattle.fjall_base.proofs.States.{settle-in}
use Rattle.fjall_files.specs.declared.own.OwnFiles.{OwnFiles}
use Rattle.fjall_files.specs.Own.{AreOwnFiles, HoldsOnlyOwn}
use Rattle.fjall_files.proofs.OwnEntries.{holds_own}
use Rattle.fjall_files.specs.Regions.{HoldsOnly, IsImageIn, IsMade, IsSafe, Within, is_under}
use Rattle.fjall_files.proofs.Under.{folder_is_shorter, shorter_out, under_self}
use Rattle.fjall_files.proofs.Changes.{SameOutside, settle-now, within_state}
use Rattle.fjall_files.proofs.Parts.{in_region, leaves_outside}
use Rattle.fjall_files.proofs.Made.{removing_within, safe_file, settled_within, within_both, within_none}
use Rattle.fjall_manifest.specs.Records.{Fields, record_text}
use Rattle.fjall_files.specs.Names.{keyspace_folder, current_name, table_name}
use Rattle.fjall_meta.specs.Keyspaces.{Keyspaces}
use Rattle.fjall_manifest.specs.declared.catalog.Catalog.{Catalog}
use Rattle.fjall_manifest.specs.declared.update.Update.{Update}
use Rattle.fjall_manifest.specs.Updates.{IsUpdate}
use Rattle.fjall_manifest.proofs.Shapes.{first_fits}
use Rattle.fjall_recovery.proofs.Listed.{in_keyspaces}
use Rattle.fjall_recovery.specs.Places.{HasSafeHome, LiesInTree}
use Rattle.fjall_changes.specs.Removals.{IsUnused, RemovesOwn}
use Rattle.fjall_files.proofs.Fitting.{folder_of-current}
use Rattle.fjall_manifest.specs.Homes as homes
use Rattle.fjall_manifest.specs.Homes.{is_counted, only}
use Rattle.fjall_manifest.proofs.Naming.{current_under, some_folder, table_counts}
use Rattle.fjall_manifest.proofs.Outside.{counted_outside, within_keyspaces}
use Rattle.fjall_manifest.proofs.Removals.{missing_now}
use Rattle.fjall_manifest.proofs.Resting.{region_home, rests_where}
use Rattle.fjall_manifest.proofs.Views.{usual_region}
use Rattle.fjall_manifest.specs.Catalog.{fields, first_of, home_of}
use Rattle.fjall_manifest.proofs.CatalogResting.{files_say, rests_with}
use Rattle.fjall_recovery.specs.Halves.{HasTree, Tree, outside}
use Rattle.fjall_recovery.proofs.Composing.{AreOthers, Beside, beside_along, beside_settled, not_under, outside_test, settled_at, settled_home, tree_left}
use Rattle.fjall_changes.specs.Changes.{first_home}
use Rattle.fjall_changes.proofs.NextKeyspaces.{first_clears}

-- ---- calls within the folder, and syncs

module _ (id : ℕ) (records : List Fields) (t : Tree) (unused : IsUnused id t.keyspaces) where
  abbrev P : Image → Type 0
  P image = HasTree image t

  not_zero : 0 ≢ id
  not_zero e = let some = unused.positive in omega (arith, e, some)

  -- all that tree 0 rests on is outside
  counted_out : (q : Name) → is_counted 0 q ≡ true → is_under (keyspace_folder id) q ≡ false
  counted_out q counts = counted_outside id 0 q unused.fits (omega arith) not_zero counts

  module _ (state : DiskState) (lies : LiesInTree state records t) where
    others : AreOthers id t.keyspaces.living
    others k d lt = let given = lies.rests.catalog.are.given k d lt in let fits = lies.rests.catalog.are.fits in (omega (arith, given, fits), unused.unused k d lt)

    besides : Beside state t.keyspaces.living t.homes
    besides = record { folder = lies.rests.catalog.home.keyspaces_folder; named = lies.rests.named; safe = lies.rests.homes }

    tree_at : (image : Image) → IsImageIn Survives (outside id) state image → P image
    tree_at image is =
        let rests = lies.rests.catalog in
        let region : (q : Name) → is_counted 0 q ≡ true → outside id q ≡ true = λ q counts. outside_test id q (counted_out q counts) in
        let home = region_home (outside id) state image 0 records (home_of t.last rests.texts) (omega arith) region rests.home (usual_region (outside id) state image is) in
        tree_left id unused.fits state image is records t others besides lies.rests.made lies.rests.versions home.folder (files_say state image records t.last t.keyspaces rests home.files)

  lies_along : (old new : DiskState) → SameOutside (is_under (keyspace_folder id)) old new → LiesInTree old records t → LiesInTree new records t
  lies_along old new agree lies =
      let besides = beside_along id unused.fits old new t.keyspaces.living t.homes agree (others old lies) (besides old lies) in
      let same : (q : Name) → is_counted 0 q ≡ true → new q ≡ old q = λ q counts. agree q (counted_out q counts) in
      let rests = lies.rests.catalog in
      record {
        rests = record {
          named = besides.named;
          catalog = rests_with old new records t.last t.keyspaces rests (rests_where old new 0 records (home_of t.last rests.texts) same rests.home);
          made = lies.rests.made;
          homes = besides.safe;
          versions = lies.rests.versions;
        };
        free = λ i above below. ap (λ (p : Place). p.now) (same (table_name 0 i) (table_counts 0 i)) ∙ lies.free i above below;
      }

  -- at each moment and at the end all is as it was
  pub record Still (old new : Meaning) : Type 0 where
    pub run : LeavesOnly old new P
    pub lies : LiesInTree (state_in new) records t

  start : (old : Meaning) → LiesInTree (state_in old) records t → Still old old
  start old lies = record { run = started old P (λ image is. tree_at (state_in old) lies image (in_region (outside id) (state_in old) image is)); lies = lies }

  within_on : (old mid new : Meaning) → Still old mid → Within (keyspace_folder id) mid new → Still old new
  within_on old mid new so_far run = record {
    run = runs_on old mid new P so_far.run (leaves_outside (outside id) (keyspace_folder id) (some_folder id) (not_under id) mid new P run (tree_at (state_in mid) so_far.lies));
    lies = lies_along (state_in mid) (state_in new) (within_state (keyspace_folder id) (some_folder id) mid new run) so_far.lies;
  }

  lies_settled : (mid new : Meaning) (folder : Name) → Took mid new (SyncFolder folder ∷ []) → LiesInTree (state_in mid) records t → LiesInTree (state_in new) records t
  lies_settled mid new folder took lies =
      let besides = subst (λ (s : DiskState). Beside s t.keyspaces.living t.homes) (sym took.state) (beside_settled (state_in mid) folder t.keyspaces.living t.homes (besides (state_in mid) lies)) in
      let rests = lies.rests.catalog in
      let h = home_of t.last rests.texts in
      record {
        rests = record {
          named = besides.named;
          catalog = rests_with (state_in mid) (state_in new) records t.last t.keyspaces rests (subst (λ (s : DiskState). homes.Rests s 0 records h) (sym took.state) (settled_home (state_in mid) folder 0 records h rests.home));
          made = lies.rests.made;
          homes = besides.safe;
          versions = lies.rests.versions;
        };
        free = λ i above below. ap (λ (s : DiskState). (s (table_name 0 i)).now) took.state ∙ settle-now (state_in mid) folder (table_name 0 i) ∙ lies.free i above below;
      }

  settled_on : (old mid new : Meaning) (folder : Name) → Still old mid → Took mid new (SyncFolder folder ∷ []) → Still old new
  settled_on old mid new folder so_far took =
      let lies = lies_settled mid new folder took so_far.lies in
      record {
        run = steps_on old mid new P (SyncFolder folder) so_far.run took (λ image is.
            tree_at (settle (state_in mid) folder) (subst (λ (s : DiskState). LiesInTree s records t) took.state lies) image (in_region (outside id) (settle (state_in mid) folder) image is));
        lies = lies;
      }

  stays_on : (old mid new : Meaning) → Still old mid → Took mid new [] → Still old new
  stays_on old mid new so_far took = record { run = stays old mid new P so_far.run took; lies = subst (λ (s : DiskState). LiesInTree s records t) (sym took.state) so_far.lies }

  settled_or_not : (old mid new : Meaning) (folder : Name) (r : Result Unit Error) → Still old mid → OnOk r (Took mid new (SyncFolder folder ∷ [])) → OnErr r (Took mid new []) → Still old new
  settled_or_not old mid new folder (Ok done) so_far ok err = settled_on old mid new folder so_far ok
  settled_or_not old mid new folder (Err e) so_far ok err = stays_on old mid new so_far err

  -- a first call in the folder
  pub first_on : (old mid : Meaning) → LiesInTree (state_in old) records t → Within (keyspace_folder id) old mid → Still old mid
  first_on old mid lies run = within_on old old mid (start old lies) run

  -- and a second one that did nothing
  pub stopped : (old mid new : Meaning) → LiesInTree (state_in old) records t → Within (keyspace_folder id) old mid → Took mid new [] → Still old new
  stopped old mid new lies run took = stays_on old mid new (first_on old mid lies run) took

  -- or a sync of `keyspaces`
  pub emptied : (old mid new : Meaning) (r : Result Unit Error) → LiesInTree (state_in old) records t → Within (keyspace_folder id) old mid → OnOk r (Took mid new (SyncFolder (codes "keyspaces") ∷ [])) → OnErr r (Took mid new []) → Still old new
  emptied old mid new r lies run ok err = settled_or_not old mid new (codes "keyspaces") r (first_on old mid lies run) ok err

  -- or two, and a sync of `keyspaces`
  pub ended : (old m1 m2 new : Meaning) (r : Result Unit Error) → LiesInTree (state_in old) records t → Within (keyspace_folder id) old m1 → Within (keyspace_folder id) m1 m2
      → OnOk r (Took m2 new (SyncFolder (codes "keyspaces") ∷ [])) → OnErr r (Took m2 new []) → Still old new
  ended old m1 m2 new r lies first second ok err = settled_or_not old m2 new (codes "keyspaces") r (within_on old m1 m2 (first_on old m1 lies first) second) ok err

pub settled_in_keyspaces : (id : ℕ) (old mid new : Meaning) (r : Result Unit Error) → Within (keyspace_folder id) old mid → OnOk r (Took mid new (SyncFolder (codes "keyspaces") ∷ [])) → OnErr r (Took mid new []) → Within (codes "keyspaces") old new
settled_in_keyspaces id old mid new r run ok err = within_both (codes "keyspaces") old mid new (within_keyspaces id old mid run) (settled_within (codes "keyspaces") mid new r ok err)

pub stopped_within : (id : ℕ) (old mid new : Meaning) → Within (keyspace_folder id) old mid → Took mid new [] → Within (codes "keyspaces") old new
stopped_within id old mid new run took = within_both (codes "keyspaces") old mid new (within_keyspaces id old mid run) (within_none (codes "keyspaces") mid new took)

pub ended_within : (id : ℕ) (old m1 m2 new : Meaning) (r : Result Unit Error) → Within (keyspace_folder id) old m1 → Within (keyspace_folder id) m1 m2
    → OnOk r (Took m2 new (SyncFolder (codes "keyspaces") ∷ [])) → OnErr r (Took m2 new []) → Within (codes "keyspaces") old new
ended_within id old m1 m2 new r first second ok err =
    settled_in_keyspaces id old m2 new r (within_both (keyspace_folder id) old m1 m2 first second) ok err

-- ---- the new home

pub made : (folder current : Name) (m1 m2 new : Meaning) (text : List ℕ) (r : Result Unit Error) → folder_of current ≡ folder → (folder ≡ [] → ⊥) → (state_in m1 folder).now ≡ Folder
    → Took m1 m2 (removing current (state_in m1 current).now) → ((state_in m2 current).now ≡ Missing → OnOk r ((state_in new current).now ≡ File text [])) → Within current m2 new → OnOk r (IsMade (state_in new) folder current text)
made folder current m1 m2 new text (Err e) inside some there taken filling run = tt
made folder current m1 m2 new text (Ok done) inside some there taken filling run =
    let out : is_under current folder ≡ false = shorter_out current folder (folder_is_shorter folder current some inside) in
    let named : current ≡ [] → ⊥ = λ e. some (sym inside ∙ ap (λ (n : Name). folder_of n) e) in
    let both = within_both current m1 m2 new (removing_within current current m1 m2 (under_self current) taken) run in
    record {
      folder_now = ap (λ (p : Place). p.now) (within_state current named m1 new both folder out) ∙ there;
      file_now = filling (missing_now current m1 m2 (state_in m1 current).now refl taken);
    }

-- the number of a change has its place
pub number_small : (old : Catalog) (s : Keyspaces) (number : ℕ) (u : Update) → IsUpdate old s number u → number < 2 ^ 63
number_small old s number u is = subst (λ (n : Option ℕ). IfSome n (λ m. m < 2 ^ 63)) is.persisted is.is_record.consistent.persisted

-- the records of a keyspace that was made: the first one alone
first_text : (number : ℕ) → flat_map record_text (fields (first_of number) ∷ []) ≡ record_text (fields (first_of number))
first_text number = flat_map-cons record_text (fields (first_of number)) [] ∙ append-nil (record_text (fields (first_of number)))

pub home_safe : (id number : ℕ) (m1 m2 new : Meaning) (text : List ℕ) (r : Result Unit Error) → id < 2 ^ 64 → number < 2 ^ 63 → text ≡ record_text (fields (first_of number)) → IsMade (state_in m1) (keyspace_folder id) (current_name id) text
    → Took m1 m2 (SyncFolder (keyspace_folder id) ∷ []) → OnOk r (Took m2 new (SyncFolder (codes "keyspaces") ∷ [])) → OnOk r (state_in new (codes "keyspaces") ≡ only Folder → HasSafeHome (state_in new) id (first_home number))
home_safe id number m1 m2 new text (Err e) small below is made first then = tt
home_safe id number m1 m2 new text (Ok done) small below is made first then = λ outer.
    let ok : Result Unit Error = Ok done in
    let one : List Fields = fields (first_of number) ∷ [] in
    let safe : IsSafe (state_in m2) (current_name id) text = safe_file (keyspace_folder id) (current_name id) (folder_of-current id) m1 m1 m2 text ok made.file_now first in
    let there : (state_in m2 (keyspace_folder id)).now ≡ Folder = ap (λ (s : DiskState). (s (keyspace_folder id)).now) first.state ∙ settle-now (state_in m1) (keyspace_folder id) (keyspace_folder id) ∙ made.folder_now in
    let settled : IsSafe (state_in new) (current_name id) text = ap (λ (s : DiskState). s (current_name id)) then.state ∙ settled_at (state_in m2) (codes "keyspaces") (current_name id) (File text []) safe ∙ safe in
    record {
      records = one;
      rests = record {
        keyspaces_folder = outer;
        folder = ap (λ (s : DiskState). s (keyspace_folder id)) then.state ∙ settle-in (state_in m2) (codes "keyspaces") (keyspace_folder id) (in_keyspaces id small) ∙ ap (λ (e : DiskEntry). only e) there;
        current = subst (IsSafe (state_in new) (current_name id)) (is ∙ sym (first_text number)) settled;
        each = (first_fits (Some number) 0 below (omega arith), tt);
        last_is = refl;
        tables = tt;
      };
      indexes = [];
      indexed = tt;
      clears = first_clears number;
    }

-- ---- names as the call has them

synced_within : (folder : Name) (old new : Meaning) → Took old new (SyncFolder folder ∷ []) → Within folder old new
synced_within folder old new took = let ok : Result Unit Error = Ok tt in settled_within folder old new ok took tt

module _ (id : ℕ) (folder current : Name) (at : folder ≡ keyspace_folder id) (beside : current ≡ current_name id) where
  inside : folder_of current ≡ folder
  inside = ap (λ (n : Name). folder_of n) beside ∙ folder_of-current id ∙ sym at

  under : is_under folder current ≡ true
  under = ap (λ (n : Name). is_under n current) at ∙ ap (λ (n : Name). is_under (keyspace_folder id) n) beside ∙ current_under id

  pub within_as : (old new : Meaning) → (is_under folder current ≡ true → Within folder old new) → Within (keyspace_folder id) old new
  within_as old new run = subst (λ (n : Name). Within n old new) at (run under)

  pub made_as : (state : DiskState) (text : List ℕ) → (folder_of current ≡ folder → IsMade state folder current text) → IsMade state (keyspace_folder id) (current_name id) text
  made_as state text is =
      let made = is inside in
      record {
        folder_now = ap (λ (n : Name). (state n).now) (sym at) ∙ made.folder_now;
        file_now = ap (λ (n : Name). (state n).now) (sym beside) ∙ made.file_now;
      }

pub synced_as : (id : ℕ) (folder : Name) → folder ≡ keyspace_folder id → (old new : Meaning) → Took old new (SyncFolder folder ∷ []) → Within (keyspace_folder id) old new
synced_as id folder at old new took = subst (λ (n : Name). Within n old new) at (synced_within folder old new took)

-- ---- what is removed

-- The files of a folder that were found, as a call has them that a list came before.
module _ (id : ℕ) (old mid : Meaning) (took : Took old mid []) (option : Option OwnFiles) (own : OwnFiles) (is : option ≡ Some own) (listed : IfSome option (AreOwnFiles (state_in old) id))
    (folder : Name) (files : List (String Global)) (folder_is : folder ≡ string_bytes own.folder) (files_are : files ≡ own.files.items) where
  found : AreOwnFiles (state_in old) id own
  found = subst (λ (o : Option OwnFiles). IfSome o (AreOwnFiles (state_in old) id)) is listed

  folder_at : folder ≡ keyspace_folder id
  folder_at = folder_is ∙ found.folder_is

  files_inside : All (λ file. folder_of (string_bytes file) ≡ folder) files
  files_inside = subst (λ (n : Name). All (λ file. folder_of (string_bytes file) ≡ n) files) (sym folder_at)
      (subst (All (λ file. folder_of (string_bytes file) ≡ keyspace_folder id)) (sym files_are) found.inside)

  pub own_within : (new : Meaning) → (All (λ file. folder_of (string_bytes file) ≡ folder) files → folder ≢ [] → Within folder mid new) → Within (keyspace_folder id) old new
  own_within new run = within_both (keyspace_folder id) old mid new (within_none (keyspace_folder id) old mid took)
      (subst (λ (n : Name). Within n mid new) folder_at (run files_inside (λ none. some_folder id (sym folder_at ∙ none))))

  pub own_held : HoldsOnlyOwn (state_in old) id → IsNoFile (state_in old (keyspace_folder id)).now → HoldsOnly (state_in mid) folder (map string_bytes files)
  own_held holds kind = subst (λ (s : DiskState). HoldsOnly s folder (map string_bytes files)) (sym took.state)
      (subst (λ (n : Name). HoldsOnly (state_in old) n (map string_bytes files)) (sym folder_at)
      (subst (λ (l : List (String Global)). HoldsOnly (state_in old) (keyspace_folder id) (map string_bytes l)) (sym files_are) (holds_own (state_in old) id own found holds kind)))

  pub own_gone : (new : Meaning) → (state_in new folder).now ≡ Missing → (state_in new (keyspace_folder id)).now ≡ Missing
  own_gone new gone = subst (λ (n : Name). (state_in new n).now ≡ Missing) folder_at gone

-- a sync of names changes nothing that stands
pub settled_now : (folder : Name) (old new : Meaning) (r : Result Unit Error) → OnOk r (Took old new (SyncFolder folder ∷ [])) → OnErr r (Took old new []) → (q : Name) → (state_in new q).now ≡ (state_in old q).now
settled_now folder old new (Ok done) ok err q = ap (λ (s : DiskState). (s q).now) ok.state ∙ settle-now (state_in old) folder q
settled_now folder old new (Err e) ok err q = ap (λ (s : DiskState). (s q).now) err.state

-- nor do calls in a keyspace's folder change what stands elsewhere
pub others_stay : (id : ℕ) (old new : Meaning) → Within (keyspace_folder id) old new → (q : Name) → is_under (keyspace_folder id) q ≡ false → (state_in new q).now ≡ (state_in old q).now
others_stay id old new run q out = ap (λ (p : Place). p.now) (within_state (keyspace_folder id) (some_folder id) old new run q out)

pub others_stay_settled : (id : ℕ) (old mid new : Meaning) (r : Result Unit Error) → Within (keyspace_folder id) old mid → OnOk r (Took mid new (SyncFolder (codes "keyspaces") ∷ [])) → OnErr r (Took mid new [])
    → (q : Name) → is_under (keyspace_folder id) q ≡ false → (state_in new q).now ≡ (state_in old q).now
others_stay_settled id old mid new r run ok err q out = settled_now (codes "keyspaces") mid new r ok err q ∙ others_stay id old mid run q out

-- a folder that is gone comes back no more once the names in `keyspaces` are synced
gone_for_good : (id : ℕ) → id < 2 ^ 64 → (old new : Meaning) → (state_in old (keyspace_folder id)).now ≡ Missing → Took old new (SyncFolder (codes "keyspaces") ∷ []) → state_in new (keyspace_folder id) ≡ only Missing
gone_for_good id small old new gone sync =
    ap (λ (s : DiskState). s (keyspace_folder id)) sync.state ∙ settle-in (state_in old) (codes "keyspaces") (keyspace_folder id) (in_keyspaces id small) ∙ ap (λ (e : DiskEntry). only e) gone

-- In a folder that isn't there nothing stands.
pub nothing_inside : (state : DiskState) (folder : Name) → (folder ≡ [] → ⊥) → IsHoused state → (state folder).now ≡ Missing → IsEmpty state folder
nothing_inside state folder some housed gone name inside = of (state name).now refl
  where
    there : (state name).now ≢ Missing → ⊥
    there some_entry =
        let at : (state folder).now ≡ Folder = subst (λ (f : Name). (state f).now ≡ Folder) inside (housed.each name some_entry (λ root. some (sym inside ∙ root))) in
        let no : Missing ≡ Folder = sym gone ∙ at in cc

    of : (entry : DiskEntry) → (state name).now ≡ entry → (state name).now ≡ Missing
    of Missing is = is
    of (File synced unsynced) is = absurd (there (λ e. let no : File synced unsynced ≡ Missing = sym is ∙ e in cc))
    of Folder is = absurd (there (λ e. let no : Folder ≡ Missing = sym is ∙ e in cc))

-- Where the folder is gone for good, nothing of the keyspace is left.
pub removes_own : (id : ℕ) → id < 2 ^ 64 → (old mid new : Meaning) (r : Result Unit Error) → IsHoused (state_in new) → HoldsOnlyOwn (state_in old) id → (state_in mid (keyspace_folder id)).now ≡ Missing
    → OnOk r (Took mid new (SyncFolder (codes "keyspaces") ∷ [])) → OnOk r (RemovesOwn id old new)
removes_own id small old mid new (Err e) housed holds gone sync = tt
removes_own id small old mid new (Ok done) housed holds gone sync =
    let folder = gone_for_good id small mid new gone sync in
    inl (holds, record { folder = folder; inside = nothing_inside (state_in new) (keyspace_folder id) (some_folder id) housed (ap (λ (p : Place). p.now) folder) })
