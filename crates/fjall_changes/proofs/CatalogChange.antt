-- A change of the catalog: what a crash leaves of all keyspaces at each moment of it.
use Rattle.std.proofs.Common.{◌≡◌, inl, inr, ⊎_elim, ℕ, List, [], ◌∷◌, ◌++◌, Result, Ok, Err, OnOk, refl, sym, ◌∙◌, subst, arith}
use Rattle.std.proofs.lemmas.List.{append_cancel_left}
use Rattle.fjall_base.specs.declared.error.Error.{Error}
use Rattle.fjall_base.specs.Disk.{Name, DiskEntry, Missing, File, Folder, DiskState, Image, IsFile, IsThere, DiskStep, Meaning, Leaves, LeavesOnly, Survives, change, folder_of, state_in}
use Rattle.fjall_base.proofs.Moments.{runs_on, weaken}
use Rattle.fjall_files.specs.Regions.{IsImageIn, Within}
use Rattle.fjall_files.proofs.Changes.{within_state}
use Rattle.fjall_files.proofs.Parts.{region_run}
use Rattle.fjall_manifest.specs.Records.{Fields, IsRecord}
use Rattle.fjall_files.specs.Names.{keyspace_folder, current_name}
use Rattle.fjall_meta.specs.Keyspaces.{AreKeyspaces, Keyspaces}
use Rattle.fjall_manifest.specs.declared.catalog.Catalog.{Catalog}
use Rattle.fjall_manifest.specs.Catalog.{Says, IsReady, fields}
use Rattle.fjall_manifest.specs.Updates.{SaysEither}
use Rattle.fjall_files.proofs.Fitting.{folder_of-current}
use Rattle.fjall_manifest.proofs.Naming.{some_folder}
use Rattle.fjall_manifest.proofs.CatalogResting.{last_record}
use Rattle.fjall_recovery.specs.Halves.{Tree, outside}
use Rattle.fjall_recovery.specs.Places.{LiesInTree}
use Rattle.fjall_recovery.proofs.Composing.{AreOthers, Beside, beside_along, not_under, tree_left}
use Rattle.fjall_changes.specs.Changes.{AreHoused, HasEither}

-- an image that a crash left has nothing in a folder that is gone
abbrev pub IsHoused : Image → Type 0
IsHoused image = (name : Name) → (IsThere image (folder_of name) → ⊥) → image name ≡ Missing

housed : (state : DiskState) (steps : List DiskStep) (image : Image) → Leaves state steps image → IsHoused image
housed state [] image is = is.lost
housed state (step ∷ steps) image (inl now) = now.lost
housed state (step ∷ steps) image (inr later) = housed (change step state) steps image later

-- where tree 0's records stand, its folder does
folder_there : (image : Image) → IsHoused image → IsFile (image (current_name 0)) → image (keyspace_folder 0) ≡ Folder
folder_there image lost file = of (image (keyspace_folder 0)) refl
  where
    gone : (IsThere image (keyspace_folder 0) → ⊥) → ⊥
    gone none = subst IsFile (lost (current_name 0) (λ there. none (subst (IsThere image) (folder_of-current 0) there))) file

    of : (entry : DiskEntry) → image (keyspace_folder 0) ≡ entry → image (keyspace_folder 0) ≡ Folder
    of Folder is = is
    of Missing is = absurd (gone (λ there. ⊎_elim (λ root. some_folder 0 root) (λ folder. let no : Missing ≡ Folder = sym is ∙ folder in cc) there))
    of (File synced unsynced) is = absurd (gone (λ there. ⊎_elim (λ root. some_folder 0 root) (λ folder. let no : File synced unsynced ≡ Folder = sym is ∙ folder in cc) there))

-- what an image has at each moment of a run in a keyspace's folder, it has beside all that a crash before the run left elsewhere
seen : (id : ℕ) (old new : Meaning) (P Q : Image → Type 0) → Within (keyspace_folder id) old new → LeavesOnly old new P
    → ((image : Image) → P image → IsImageIn Survives (outside id) (state_in old) image → IsHoused image → Q image) → LeavesOnly old new Q
seen id old new P Q run has to =
    let same : run.added ≡ has.added = append_cancel_left old.steps run.added has.added (sym run.took.steps ∙ has.took.steps) in
    record {
      added = run.added;
      took = run.took;
      each = λ image left. to image (has.each image (subst (λ (l : List DiskStep). Leaves (state_in old) l image) same left))
          (region_run (outside id) (keyspace_folder id) (some_folder id) (not_under id) (state_in old) (state_in old) run.added image run.under (λ q out. refl) left)
          (housed (state_in old) run.added image left);
    }

-- keyspaces that live have other ids than tree 0
pub others_of_zero : (s : Keyspaces) → AreKeyspaces s → AreOthers 0 s.living
others_of_zero s are k d lt = let given = are.given k d lt in let fits = are.fits in let some = are.ids k d lt in (omega (arith, given, fits), λ e. omega (arith, e, some))

module _ (records : List Fields) (t next : Tree) (last : Catalog) (at : next.last ≡ last) (m0 : Meaning) (lies : LiesInTree (state_in m0) records t) (new : AreHoused (state_in m0) next) where
  pub ready : IsReady (state_in m0) records t.last t.keyspaces
  ready = record { rests = lies.rests.catalog; free = lies.free }

  pub is_last : IsRecord (fields t.last)
  is_last = last_record (state_in m0) records t.last t.keyspaces lies.rests.catalog

  -- the homes of both trees
  pub record Both (mid : Meaning) : Type 0 where
    pub old_homes : Beside (state_in mid) t.keyspaces.living t.homes
    pub new_homes : Beside (state_in mid) next.keyspaces.living next.homes

  -- so far, at each moment, a crash leaves the one tree or the other
  pub record Phase (mid : Meaning) : Type 0 where
    pub run : LeavesOnly m0 mid (HasEither t next)
    pub both : Both mid

  begun : Both m0
  begun = record {
    old_homes = record { folder = lies.rests.catalog.home.keyspaces_folder; named = lies.rests.named; safe = lies.rests.homes };
    new_homes = record { folder = lies.rests.catalog.home.keyspaces_folder; named = lies.rests.named; safe = new.homes };
  }

  others : AreOthers 0 t.keyspaces.living
  others = others_of_zero t.keyspaces lies.rests.catalog.are

  new_others : AreOthers 0 next.keyspaces.living
  new_others = others_of_zero next.keyspaces new.are

  either : (mid : Meaning) (image : Image) → Both mid → SaysEither records t.last t.keyspaces last next.keyspaces image → IsImageIn Survives (outside 0) (state_in mid) image → IsHoused image → HasEither t next image
  either mid image homes (inl says) is lost =
      inl (tree_left 0 (omega arith) (state_in mid) image is records t others homes.old_homes lies.rests.made lies.rests.versions (folder_there image lost says.files.current) says)
  either mid image homes (inr says) is lost =
      inr (tree_left 0 (omega arith) (state_in mid) image is (records ++ fields last ∷ []) next new_others homes.new_homes new.made new.versions (folder_there image lost says.files.current)
      (subst (λ (c : Catalog). Says image (records ++ fields last ∷ []) c next.keyspaces) (sym at) says))

  both_on : (mid then : Meaning) → Within (keyspace_folder 0) mid then → Both mid → Both then
  both_on mid then run homes =
      let agree = within_state (keyspace_folder 0) (some_folder 0) mid then run in
      record {
        old_homes = beside_along 0 (omega arith) (state_in mid) (state_in then) t.keyspaces.living t.homes agree others homes.old_homes;
        new_homes = beside_along 0 (omega arith) (state_in mid) (state_in then) next.keyspaces.living next.homes agree new_others homes.new_homes;
      }

  leaves_either : (mid then : Meaning) → Both mid → Within (keyspace_folder 0) mid then → LeavesOnly mid then (SaysEither records t.last t.keyspaces last next.keyspaces) → LeavesOnly mid then (HasEither t next)
  leaves_either mid then homes run says = seen 0 mid then (SaysEither records t.last t.keyspaces last next.keyspaces) (HasEither t next) run says (λ image has is lost. either mid image homes has is lost)

  -- the new table is written
  pub wrote : (mid : Meaning) → Within (keyspace_folder 0) m0 mid → LeavesOnly m0 mid (λ image. Says image records t.last t.keyspaces) → Phase mid
  wrote mid run says = record {
    run = leaves_either m0 mid begun run (weaken m0 mid (λ image. Says image records t.last t.keyspaces) (SaysEither records t.last t.keyspaces last next.keyspaces) says (λ image is. inl is));
    both = both_on m0 mid run begun;
  }

  -- the record that names it is appended
  pub committed : (mid then : Meaning) → Phase mid → Within (keyspace_folder 0) mid then → LeavesOnly mid then (SaysEither records t.last t.keyspaces last next.keyspaces) → Phase then
  committed mid then so_far run says = record {
    run = runs_on m0 mid then (HasEither t next) so_far.run (leaves_either mid then so_far.both run says);
    both = both_on mid then run so_far.both;
  }

  -- the old table is removed
  pub removed : (mid then : Meaning) → Phase mid → Within (keyspace_folder 0) mid then → LeavesOnly mid then (λ image. Says image (records ++ fields last ∷ []) last next.keyspaces) → Phase then
  removed mid then so_far run says =
      committed mid then so_far run (weaken mid then (λ image. Says image (records ++ fields last ∷ []) last next.keyspaces) (SaysEither records t.last t.keyspaces last next.keyspaces) says (λ image is. inr is))

  pub ended : (mid : Meaning) → Phase mid → IsReady (state_in mid) (records ++ fields last ∷ []) last next.keyspaces → LiesInTree (state_in mid) (records ++ fields last ∷ []) next
  ended mid so_far done =
      let is = subst (λ (c : Catalog). IsReady (state_in mid) (records ++ fields last ∷ []) c next.keyspaces) (sym at) done in
      record {
        rests = record { named = so_far.both.new_homes.named; catalog = is.rests; made = new.made; homes = so_far.both.new_homes.safe; versions = new.versions };
        free = is.free;
      }

pub on_ok : {T : Type 0} (r : Result T Error) (P : Type 0) → P → OnOk r P
on_ok (Ok v) P p = p
on_ok (Err e) P p = tt
