-- The active journal is made where it is missing, and the names in the root are synced, where a crash may leave different stores.
use Rattle.std.proofs.Common.{◌≡◌, ◌⊎◌, inl, inr, ⊎_elim, ℕ, ◌<◌, ◌^◌, Bool, true, List, [], ◌∷◌, codes, Result, Ok, Err, refl, sym, ◌∙◌, ap, subst, arith}
use Rattle.std.specs.Prelude.{Contains, OnOk, OnErr}
use Rattle.std.proofs.lemmas.List.{take_all}
use Rattle.fjall_base.specs.declared.error.Error.{Error}
use Rattle.fjall_base.specs.Store.{Store, Command, fold, kept}
use Rattle.fjall_base.specs.Disk.{Name, DiskEntry, Missing, File, Folder, Place, DiskState, Image, IsImage, IsFile, Survives, SomeSurvives, LeavesOnly, Meaning, Took, Put, SyncFolder, making, put, folder_of, standing, state_in}
use Rattle.fjall_base.proofs.Frames.{replaced, replaced-same, replaced-other}
use Rattle.fjall_base.proofs.Moments.{at_end, started, stays, steps_on}
use Rattle.fjall_base.proofs.States.{differs, put-same, put-other}
use Rattle.fjall_files.specs.Texts.{text_in}
use Rattle.fjall_files.proofs.Changes.{may_be_missing, settle-now}
use Rattle.fjall_files.proofs.Parts.{in_region, region_put_back}
use Rattle.fjall_journal.specs.Batches.{NoneAt}
use Rattle.fjall_journal.proofs.Cuts.{none_at_nil}
use Rattle.fjall_files.specs.Marker.{marker_tells}
use Rattle.fjall_files.specs.Names.{journal_name, current_name}
use Rattle.fjall_recovery.specs.Folders.{Contents, ImageStandsFor, IsBegun, IsOpenable, IsUnfinished, file_bytes}
use Rattle.fjall_recovery.specs.Journals.{WholeJournal, AreJournalIds}
use Rattle.fjall_recovery.specs.Amid.{HoldsAmid, StandsAmid}
use Rattle.fjall_repair.specs.Steps.{IsOpened, active_of, with_active}
use Rattle.fjall_repair.proofs.Naming.{same_or_not, folder_of-journal, journal_current, marker_journal}
use Rattle.fjall_repair.proofs.MendOpened.{active_small, active_there, ids_of, older_image, opened_sound, same_store}
use Rattle.fjall_repair.proofs.Narrowing.{settled_image}

-- ---- an unfinished folder in which a journal was made

module _ (image made : Image) (active : Name) (is : IsOpened image made active) (id : ℕ) (small : id < 2 ^ 64) (named : active ≡ journal_name id) where
  opened_file : (q : Name) → IsFile (made q) → (q ≡ active) ⊎ IsFile (image q)
  opened_file q file = ⊎_elim (λ same. inl same) (λ not. inr (subst IsFile (is.elsewhere q not) file)) (same_or_not q active)

  opened_folder : (q : Name) → made q ≡ Folder → image q ≡ Folder
  opened_folder q folder = ⊎_elim
      (λ same. ⊎_elim (λ alike. ap image same ∙ sym alike.1 ∙ ap made (sym same) ∙ folder) (λ new. let no : File [] [] ≡ Folder = sym new.1 ∙ ap made (sym same) ∙ folder in let bad : ⊥ = cc in absurd bad) is.here)
      (λ not. sym (is.elsewhere q not) ∙ folder) (same_or_not q active)

  nothing_new : (q : Name) → NoneAt (text_in (image q)) → NoneAt (text_in (made q))
  nothing_new q none = ⊎_elim
      (λ same. ⊎_elim (λ alike. subst (λ (e : DiskEntry). NoneAt (text_in e)) (ap image same ∙ sym alike.1 ∙ ap made (sym same)) none) (λ new. subst (λ (e : DiskEntry). NoneAt (text_in e)) (sym (ap made same ∙ new.1)) none_at_nil) is.here)
      (λ not. subst (λ (e : DiskEntry). NoneAt (text_in e)) (sym (is.elsewhere q not)) none) (same_or_not q active)

  pub opened_unfinished : IsUnfinished image → IsUnfinished made
  opened_unfinished begun = record {
    marker = ap (λ (e : DiskEntry). marker_tells (file_bytes e)) (is.elsewhere (codes "version") (λ same. marker_journal id (same ∙ named))) ∙ begun.marker;
    journals_named = λ name in_root file misnamed. ⊎_elim (λ same. misnamed.1 id (small, same ∙ named)) (λ was. begun.journals_named name in_root was misnamed) (opened_file name file);
    journals = λ other fits. nothing_new (journal_name other) (begun.journals other fits);
    keyspaces_named = λ name inside folder none. begun.keyspaces_named name inside (opened_folder name folder) none;
    catalog = subst (λ (e : DiskEntry). IsBegun (text_in e)) (sym (is.elsewhere (current_name 0) (λ same. journal_current id 0 (sym named ∙ sym same)))) begun.catalog;
  }

-- ---- what a crash leaves of it

-- where the active journal is missing, there is none
no_journals : (image : Image) (c : Contents) → IsOpenable image c → (active : Name) → active ≡ journal_name (active_of (ids_of c.journals)) → image active ≡ Missing → c.journals ≡ []
no_journals image c sound active named gone = by c.journals refl
  where
    by : (js : List WholeJournal) → c.journals ≡ js → c.journals ≡ []
    by [] is = is
    by (j ∷ js) is =
        let there = active_there image j.id (ids_of js) (subst (λ (l : List WholeJournal). AreJournalIds image (ids_of l)) is sound.journals.ids) in
        absurd (subst IsFile (ap image (ap (λ (l : List WholeJournal). journal_name (active_of (ids_of l))) (sym is) ∙ sym named) ∙ gone) there)

-- a folder without files of journals has no journals
none_there : (image : Image) (c : Contents) → IsOpenable image c → ((id : ℕ) → id < 2 ^ 64 → IsFile (image (journal_name id)) → ⊥) → c.journals ≡ []
none_there image c sound none = by c.journals refl
  where
    by : (js : List WholeJournal) → c.journals ≡ js → c.journals ≡ []
    by [] is = is
    by (j ∷ js) is =
        let has : Contains (ids_of c.journals) j.id = subst (λ (l : List WholeJournal). Contains (ids_of l) j.id) (sym is) (0, omega arith, refl) in
        let at = (sound.journals.ids.each j.id).0 has in
        absurd (none j.id at.0 at.1)

module _ (old : DiskState) (active : Name) (c : Contents) (sound : IsOpenable (standing old) c) (base : Store) (pending : List Command) (holds : HoldsAmid old base pending) (named : active ≡ journal_name (active_of (ids_of c.journals))) where
  in_root : folder_of active ≡ []
  in_root = ap (λ (n : Name). folder_of n) named ∙ folder_of-journal (active_of (ids_of c.journals)) (active_small (standing old) (ids_of c.journals) sound.journals.ids)

  abbrev everywhere : Name → Bool
  everywhere q = true

  opened_stands : (whole image : Image) → IsOpened whole image active → (old active).now ≡ Missing → IsImage old whole → (store : Store) → ImageStandsFor whole store → ImageStandsFor image store
  opened_stands whole image is gone left store (inl (d, other, equal)) =
      let stood_none : c.journals ≡ [] = no_journals (standing old) c sound active named gone in
      let none : d.journals ≡ [] = none_there whole d other.openable (holds.journals c sound stood_none whole left) in
      let at : active ≡ journal_name (active_of (ids_of d.journals)) = named ∙ ap (λ (l : List WholeJournal). journal_name (active_of (ids_of l))) (stood_none ∙ sym none) in
      inl (with_active d, record { openable = opened_sound whole image active is d at other.openable; versions = other.versions }, equal ∙ same_store d)
  opened_stands whole image is gone left store (inr (begun, equal)) =
      inr (opened_unfinished whole image active is (active_of (ids_of c.journals)) (active_small (standing old) (ids_of c.journals) sound.journals.ids) named begun, equal)

  -- an image in which it is made
  made_image : (image : Image) → (old active).now ≡ Missing → IsImage (put old active (File [] [])) image → image active ≡ File [] [] → StandsAmid base [] pending image
  made_image image gone is new =
      let whole = replaced image active Missing in
      let wide = region_put_back {crash = Survives} everywhere old (put old active (File [] [])) image active Missing (λ q out. put-other old active (File [] []) q out)
      (λ folder. let no : File [] [] ≡ Folder = sym new ∙ folder in let bad : ⊥ = cc in bad) (λ folder. let bad : ⊥ = cc in bad) (λ there. may_be_missing old active gone) (λ lost. refl)
      (in_region everywhere (put old active (File [] [])) image is) in
      let is_image : IsImage old whole = record { kept = λ q there. wide.kept q refl there; lost = λ q lost. wide.lost q refl lost } in
      let before = holds.crash whole is_image in
      record {
        front = before.front;
        holds = before.holds;
        within = before.within;
        stands = opened_stands whole image
            (record { elsewhere = λ q not. sym (replaced-other image active Missing q (differs q active not)); here = inr (replaced-same image active Missing, new) }) gone is_image (kept (fold base before.front)) before.stands;
      }

  pub made_amid : (image : Image) → (old active).now ≡ Missing → IsImage (put old active (File [] [])) image → StandsAmid base [] pending image
  made_amid image gone is =
      let some = subst (λ (p : Place). SomeSurvives (p.now ∷ p.older) (image active)) (put-same old active (File [] [])) (is.kept active (inl in_root)) in
      ⊎_elim (λ new. made_image image gone is (new.1 ∙ ap (λ l. File l []) (take_all new.0 [] (omega arith)))) (λ was. holds.crash image (older_image old active image is was)) some

-- ---- the moments

module _ (old : Meaning) (active : Name) (c : Contents) (sound : IsOpenable (standing (state_in old)) c) (base : Store) (pending : List Command) (holds : HoldsAmid (state_in old) base pending) (named : active ≡ journal_name (active_of (ids_of c.journals))) where
  abbrev Stood : Image → Type 0
  Stood = StandsAmid base [] pending

  begun_amid : LeavesOnly old old Stood
  begun_amid = started old Stood (λ image is. holds.crash image is)

  -- nothing was done
  pub still_amid : (new : Meaning) → Took old new [] → LeavesOnly old new Stood
  still_amid new took = stays old old new Stood begun_amid took

  made_at : (mid : Meaning) (entry : DiskEntry) → (state_in old active).now ≡ entry → Took old mid (making active (File [] []) entry) → LeavesOnly old mid Stood
  made_at mid Missing gone took = steps_on old old mid Stood (Put active (File [] [])) begun_amid took (λ image is. made_amid (state_in old) active c sound base pending holds named image gone is)
  made_at mid (File synced unsynced) there took = stays old old mid Stood begun_amid took
  made_at mid Folder there took = stays old old mid Stood begun_amid took

  pub made_moment_amid : (mid : Meaning) → Took old mid (making active (File [] []) (state_in old active).now) → LeavesOnly old mid Stood
  made_moment_amid mid took = made_at mid (state_in old active).now refl took

  pub settle_amid : (mid new : Meaning) → Took old mid (making active (File [] []) (state_in old active).now) → (result : Result Unit Error) → OnOk result (Took mid new (SyncFolder [] ∷ [])) → OnErr result (Took mid new []) → LeavesOnly old new Stood
  settle_amid mid new made (Ok done) ok err =
      let so_far = made_moment_amid mid made in
      steps_on old mid new Stood (SyncFolder []) so_far ok (λ image is. at_end old mid Stood so_far image (settled_image (state_in mid) [] image is))
  settle_amid mid new made (Err e) ok err = stays old mid new Stood (made_moment_amid mid made) err

-- the journal is there afterwards
pub settle_there : (mid new : Meaning) (active : Name) → IsFile (state_in mid active).now → (result : Result Unit Error) → OnOk result (Took mid new (SyncFolder [] ∷ [])) → OnErr result (Took mid new []) → IsFile (state_in new active).now
settle_there mid new active file (Ok done) ok err = subst IsFile (sym (ap (λ (s : DiskState). (s active).now) ok.state ∙ settle-now (state_in mid) [] active)) file
settle_there mid new active file (Err e) ok err = subst IsFile (sym (ap (λ (s : DiskState). (s active).now) err.state)) file
