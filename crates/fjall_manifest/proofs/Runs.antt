-- Runs that leave a home as it is, beside what they make or remove in its folder.
use Rattle.std.proofs.Common.{◌≡◌, ◌≢◌, inl, inr, ℕ, ◌<◌, ◌^◌, Bool, true, false, not, List, [], ◌∷◌, length, codes, Result, Ok, Err, OnOk, OnErr, refl, sym, ◌∙◌, ap, subst, arith}
use Rattle.std.specs.Str.{bytes_eq}
use Rattle.std.specs.List.{AllByRecursion}
use Rattle.std.proofs.lemmas.Slice.Eq.{bytes_eq-Decides}
use Rattle.fjall_base.specs.declared.error.Error.{Error}
use Rattle.fjall_base.specs.Disk.{Name, DiskEntry, Folder, Place, DiskState, Image, SyncFolder, Meaning, Took, LeavesOnlyBy, settle, state_in, folder_of}
use Rattle.fjall_base.proofs.Moments.{runs_on, started, stays, steps_on}
use Rattle.fjall_base.proofs.Names.{bool_cases}
use Rattle.fjall_base.proofs.States.{settle-in, settle-out}
use Rattle.fjall_files.specs.Names.{keyspace_folder, current_name, table_name}
use Rattle.fjall_files.specs.Regions.{Within, is_under}
use Rattle.fjall_files.proofs.Changes.{within_state}
use Rattle.fjall_files.proofs.Fitting.{folder_of-current, folder_of-table}
use Rattle.fjall_files.proofs.Parts.{leaves_outside}
use Rattle.fjall_files.proofs.Under.{folder_is_shorter, shorter_out}
use Rattle.fjall_table.specs.declared.table_info.TableInfo.{TableInfo}
use Rattle.fjall_manifest.specs.Records.{Fields}
use Rattle.fjall_manifest.specs.Homes.{AreSafe, HasHome, Home, Rests, SyncedStays, only}
use Rattle.fjall_manifest.proofs.Naming.{beside, named, no_current, other_table, some_folder}
use Rattle.fjall_manifest.proofs.Resting.{At, at_more, crash_home, each_more, home_in, rests_along}

-- ---- names beside a table's file

-- a table of another id, which has its place
abbrev pub IsOther : ℕ → TableInfo → Type 0
IsOther n t = (t.id < 2 ^ 64) × (t.id ≢ n)

len_folder : (id : ℕ) → length (codes "keyspaces") < length (keyspace_folder id)
len_folder id = omega arith

pub apart_at : (id n : ℕ) (tables : List TableInfo) → n < 2 ^ 64 → AllByRecursion (IsOther n) tables → At id tables (λ q. is_under (table_name id n) q ≡ false)
apart_at id n tables small others =
    let file = table_name id n in
    let less = folder_is_shorter (keyspace_folder id) file (some_folder id) (folder_of-table id n small) in
    let len = len_folder id in
    record {
      keyspaces_folder = shorter_out file (codes "keyspaces") (omega (arith, less, len));
      folder = shorter_out file (keyspace_folder id) less;
      current = beside (keyspace_folder id) file (current_name id) (some_folder id) (folder_of-table id n small) (folder_of-current id) (λ e. no_current id n (sym e));
      each = each_more (IsOther n) (λ (t : TableInfo). is_under file (table_name id t.id) ≡ false) (λ t is. other_table id n t.id small is.0 is.1) tables others;
    }

-- ---- a run that leaves it

abbrev outside : Name → Name → Bool
outside file q = not (is_under file q)

-- at each moment, and at the end, it is there
pub record Still (old new : Meaning) (id : ℕ) (records : List Fields) (h : Home) : Type 0 where
  pub run : LeavesOnlyBy SyncedStays old new (λ image. HasHome image id records h)
  pub rests : Rests (state_in new) id records h

pub settled_at : (state : DiskState) (folder q : Name) (entry : DiskEntry) → state q ≡ only entry → settle state folder q ≡ state q
settled_at state folder q entry is = elim (bool_cases (bytes_eq (folder_of q) folder)) [
  | inl at ↦ settle-in state folder q ((bytes_eq-Decides (folder_of q) folder).0 at) ∙ ap (λ (p : Place). only p.now) is ∙ sym is
  | inr not_in ↦ settle-out state folder q not_in
]

settled_tables : (state : DiskState) (folder : Name) (id : ℕ) (tables : List TableInfo) (texts : List (List ℕ)) → AreSafe state id tables texts → AllByRecursion (λ t. settle state folder (table_name id t.id) ≡ state (table_name id t.id)) tables
settled_tables state folder id [] texts safe = tt
settled_tables state folder id (t ∷ tables) [] safe = absurd safe
settled_tables state folder id (t ∷ tables) (bytes ∷ texts) safe = (settled_at state folder (table_name id t.id) _ safe.0, settled_tables state folder id tables texts safe.1)

module _ (id : ℕ) (small : id < 2 ^ 64) (records : List Fields) (h : Home) where
  abbrev P : Image → Type 0
  P image = HasHome image id records h

  pub start : (old : Meaning) → Rests (state_in old) id records h → Still old old id records h
  start old rests = record { run = started old P (λ image is. crash_home (state_in old) image id records h small rests is); rests = rests }

  pub beside_it : (file : Name) (old new : Meaning) → (file ≡ [] → ⊥) → At id h.last.tables (λ q. is_under file q ≡ false) → Within file old new → Rests (state_in old) id records h → Still old new id records h
  beside_it file old new some apart run rests = record {
    run = leaves_outside (outside file) file some (λ q out. of q out) old new P run (λ image is.
        home_in id small (outside file) (state_in old) image is records h rests (at_more id h.last.tables (λ q. is_under file q ≡ false) (λ q. outside file q ≡ true) (λ q out. rw out refl) apart));
    rests = rests_along (state_in old) (state_in new) id records h (at_more id h.last.tables (λ q. is_under file q ≡ false) (λ q. state_in new q ≡ state_in old q) (λ q out. within_state file some old new run q out) apart) rests;
  }
    where
      of : (q : Name) → not (is_under file q) ≡ true → is_under file q ≡ false
      of q out = elim (bool_cases (is_under file q)) [ inl is ↦ let no : false ≡ true = rw is at out in cc | inr not_under ↦ not_under ]

  -- a table's file of another id than its own tables have is made or removed
  pub beside_table : (n : ℕ) (old new : Meaning) → n < 2 ^ 64 → AllByRecursion (IsOther n) h.last.tables → Within (table_name id n) old new → Rests (state_in old) id records h → Still old new id records h
  beside_table n old new fits others run rests = beside_it (table_name id n) old new (named id n fits) (apart_at id n h.last.tables fits others) run rests

  pub then_beside : (n : ℕ) (old mid new : Meaning) → n < 2 ^ 64 → AllByRecursion (IsOther n) h.last.tables → Still old mid id records h → Within (table_name id n) mid new → Still old new id records h
  then_beside n old mid new fits others so_far run =
      let more = beside_table n mid new fits others run so_far.rests in
      record { run = runs_on old mid new P so_far.run more.run; rests = more.rests }

  rests_settled : (state : DiskState) (folder : Name) → Rests state id records h → Rests (settle state folder) id records h
  rests_settled state folder rests = rests_along state (settle state folder) id records h (record {
    keyspaces_folder = settled_at state folder (codes "keyspaces") Folder rests.keyspaces_folder;
    folder = settled_at state folder (keyspace_folder id) Folder rests.folder;
    current = settled_at state folder (current_name id) _ rests.current;
    each = settled_tables state folder id h.last.tables h.texts rests.tables;
  }) rests

  pub synced : (old mid new : Meaning) (folder : Name) → Still old mid id records h → Took mid new (SyncFolder folder ∷ []) → Still old new id records h
  synced old mid new folder so_far took =
      let rests = rests_settled (state_in mid) folder so_far.rests in
      record {
        run = steps_on old mid new P (SyncFolder folder) so_far.run took (λ image is. crash_home (settle (state_in mid) folder) image id records h small rests is);
        rests = subst (λ (state : DiskState). Rests state id records h) (sym took.state) rests;
      }

  pub unchanged : (old mid new : Meaning) → Still old mid id records h → Took mid new [] → Still old new id records h
  unchanged old mid new so_far took = record {
    run = stays old mid new P so_far.run took;
    rests = subst (λ (state : DiskState). Rests state id records h) (sym took.state) so_far.rests;
  }

  pub synced_or_not : (old mid new : Meaning) (folder : Name) (r : Result Unit Error) → Still old mid id records h → OnOk r (Took mid new (SyncFolder folder ∷ [])) → OnErr r (Took mid new []) → Still old new id records h
  synced_or_not old mid new folder (Ok done) so_far ok err = synced old mid new folder so_far ok
  synced_or_not old mid new folder (Err e) so_far ok err = unchanged old mid new so_far err
