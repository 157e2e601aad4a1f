-- The steps of a plan, one after another, where a crash may leave different stores.
use Rattle.std.proofs.Common.{◌≡◌, inl, inr, ⊎_elim, List, [], map, All, codes, Result, Ok, Err, String, Global, string_bytes, refl, sym, ◌∙◌, ap, subst}
use Rattle.std.specs.Prelude.{OnOk}
use Rattle.std.specs.List.{AllByRecursion}
use Rattle.fjall_base.specs.declared.error.Error.{Error}
use Rattle.fjall_base.specs.Store.{Store, Command, fold, kept}
use Rattle.fjall_base.specs.Disk.{Name, DiskEntry, Place, DiskState, Image, IsImage, IsThere, LeavesOnly, Meaning, Survives, SomeSurvives, all_synced, folder_of, standing, state_in}
use Rattle.fjall_base.proofs.Moments.{at_end, runs_on, weaken}
use Rattle.fjall_base.proofs.States.{survives_whole}
use Rattle.fjall_files.specs.Texts.{text_in}
use Rattle.fjall_files.specs.declared.marker.Marker.{Marker}
use Rattle.fjall_files.specs.declared.marker.Marker.TheVariants.{Whole, Unfinished}
use Rattle.fjall_files.specs.Marker.{marker_tells}
use Rattle.fjall_recovery.specs.Folders.{Contents, ImageStandsFor, IsOpenable, IsSound, file_bytes, marker_bytes, store_of_contents}
use Rattle.fjall_recovery.specs.Amid.{StandsAmid}
use Rattle.fjall_recovery.proofs.Alike.{Alike, alike_sound, alike_synced}
use Rattle.fjall_recovery.proofs.Holding.{there_or_not}
use Rattle.fjall_repair.specs.declared.mending.plan.FileEnd.{FileEnd}
use Rattle.fjall_repair.specs.declared.mending.plan.MendPlan.{MendPlan}
use Rattle.fjall_repair.specs.Amids.{StaysAmid}
use Rattle.fjall_repair.specs.Steps.{IsEnded, IsOpened, IsRested, IsSame, IsSynced, Suits, end_of, folder_names, opened, whole_names, with_active}
use Rattle.fjall_repair.proofs.MendOpened.{active_small, ids_of, opened_sound}
use Rattle.fjall_repair.proofs.Mended.{last_named}
use Rattle.fjall_repair.proofs.Carrying.{IsPreparedBy, each_to, name_of_end, prepared, rested, survived_text}
use Rattle.fjall_repair.proofs.Items.{along_map}
use Rattle.fjall_repair.proofs.Turns.{AreRight, AreSettled}
use Rattle.fjall_repair.proofs.Sameness.{file_survives, same_sound}

-- ---- before the files are ended

abbrev pub IsPreparedAmid : Store → List Command → DiskState → Contents → MendPlan → Type 0
IsPreparedAmid base pending s c p = IsPreparedBy (StandsAmid base [] pending) s c p

pub marker_known : {told : Result Marker Error} → told ≡ Ok Whole → told ≡ Ok Unfinished → ⊥
marker_known whole unfinished = let no = sym whole ∙ unfinished in cc

module _ (s : DiskState) (c : Contents) (sound : IsOpenable (standing s) c) (base : Store) (pending : List Command) (p : MendPlan) (before : IsPreparedAmid base pending s c p) where
  left_of : (image : Image) → IsImage s image → (q : Name) → IsThere image (folder_of q) → (s q).older ≡ [] → Survives (s q).now (image q)
  left_of image is q there older = ⊎_elim (λ here. here) (λ was. absurd (subst (λ (es : List DiskEntry). SomeSurvives es (image q)) older was)) (is.kept q there)

  marker_is : (image : Image) → IsImage s image → marker_tells (marker_bytes image) ≡ Ok Whole
  marker_is image is =
      let at = before.whole.0 in
      let same : image (codes "version") ≡ (s (codes "version")).now = survives_whole at.0 (image (codes "version")) (subst (λ (e : DiskEntry). Survives e (image (codes "version"))) at.1 (left_of image is (codes "version") (inl refl) (before.root (codes "version") refl))) ∙ sym at.1 in
      ap (λ (e : DiskEntry). marker_tells (file_bytes e)) same ∙ sound.marker

  sound_there : (image : Image) (store : Store) → marker_tells (marker_bytes image) ≡ Ok Whole → ImageStandsFor image store → (d : Contents) × IsSound image d × (store ≡ store_of_contents d)
  sound_there image store marker (inl has) = has
  sound_there image store marker (inr begun) = absurd (marker_known marker begun.0.marker)

  -- each image is a sound folder now
  pub prepared_stays : (image : Image) → IsImage s image → StaysAmid s base pending image
  prepared_stays image is =
      let stood = before.images image is in
      let whole = sound_there image (kept (fold base stood.front)) (marker_is image is) stood.stands in
      record {
        front = stood.front;
        within = stood.within;
        c = whole.0;
        sound = whole.1;
        is = whole.2;
        parts = λ q older. ⊎_elim (λ there. survived_text (s q).now (image q) (left_of image is q there older)) (λ gone. (0, ap text_in (is.lost q gone))) (there_or_not image (folder_of q));
        files = λ q root older file. (file_survives (s q).now (image q) (left_of image is q (inl root) older)).1 file;
      }

-- what was synced reads alike
pub place_alike : (old new : Place) → IsSame old new → Alike old.now new.now
place_alike old new same = ⊎_elim
    (λ e. subst (Alike old.now) (sym e) (alike_itself old.now))
    (λ e. subst (Alike old.now) (sym e) (alike_back old.now)) same.now
  where
    alike_itself : (e : DiskEntry) → Alike e e
    alike_itself e = record { bytes = refl; text = refl; counted = refl; file = ((λ f. f), (λ f. f)); folder = ((λ f. f), (λ f. f)) }

    alike_back : (e : DiskEntry) → Alike e (all_synced e)
    alike_back e = let a = alike_synced e in record { bytes = sym a.bytes; text = sym a.text; counted = sym a.counted; file = (a.file.1, a.file.0); folder = (a.folder.1, a.folder.0) }

-- ---- the call

pub prepared_amid : (m0 m1 m2 m3 : Meaning) (c : Contents) (p : MendPlan) → IsOpenable (standing (state_in m0)) c → Suits (standing (state_in m0)) c p → (base : Store) (pending : List Command) → LeavesOnly m0 m1 (StandsAmid base [] pending)
    → (active : Name) → active ≡ string_bytes p.active → IsOpened (standing (state_in m0)) (standing (state_in m1)) active → ((q : Name) → folder_of q ≡ [] → (state_in m1 q).older ≡ [])
    → LeavesOnly m1 m2 (IsImage (state_in m1)) → ((q : Name) → (state_in m2 q).now ≡ (state_in m1 q).now) → ((q : Name) → (state_in m1 q).older ≡ [] → (state_in m2 q).older ≡ [])
    → (folders : List (String Global)) → folders ≡ p.folders.items → All (λ folder. (q : Name) → folder_of q ≡ string_bytes folder → (state_in m2 q).older ≡ []) folders
    → LeavesOnly m2 m3 (IsImage (state_in m2)) → ((q : Name) → IsSame (state_in m2 q) (state_in m3 q)) → (files : List (String Global)) → files ≡ p.whole.items → All (λ file. IsSynced (state_in m3 (string_bytes file)).now) files
    → IsPreparedAmid base pending (state_in m3) (with_active c) p
prepared_amid m0 m1 m2 m3 c p sound suits base pending moments active active_is made root names same still folders folders_is empty run synced files files_is whole =
    prepared (StandsAmid base [] pending) m0 m1 m2 m3 c p suits (active_small (standing (state_in m0)) (ids_of c.journals) sound.journals.ids) (λ image is. at_end m0 m1 (StandsAmid base [] pending) moments image is)
    (subst (IsOpened (standing (state_in m0)) (standing (state_in m1))) active_is made) root names same still
    (subst (All (λ folder. (q : Name) → folder_of q ≡ string_bytes folder → (state_in m2 q).older ≡ [])) folders_is empty) run synced (subst (All (λ file. IsSynced (state_in m3 (string_bytes file)).now)) files_is whole)

-- an opening finds nothing wrong in what stands before the files are ended
pub stands_then : (m0 m1 m2 m3 : Meaning) (c : Contents) (p : MendPlan) → IsOpenable (standing (state_in m0)) c → Suits (standing (state_in m0)) c p → (active : Name) → active ≡ string_bytes p.active → IsOpened (standing (state_in m0)) (standing (state_in m1)) active
    → ((q : Name) → (state_in m2 q).now ≡ (state_in m1 q).now) → ((q : Name) → IsSame (state_in m2 q) (state_in m3 q)) → IsOpenable (standing (state_in m3)) (with_active c)
stands_then m0 m1 m2 m3 c p sound suits active active_is made same synced =
    let one = opened_sound (standing (state_in m0)) (standing (state_in m1)) active made c (active_is ∙ suits.active) sound in
    alike_sound (standing (state_in m1)) (standing (state_in m3)) (λ q. subst (λ (e : DiskEntry). Alike e (state_in m3 q).now) (same q) (place_alike (state_in m2 q) (state_in m3 q) (synced q))) (with_active c) one

module _ (base : Store) (pending : List Command) where
  abbrev Stood : Image → Type 0
  Stood = StandsAmid base [] pending

  pub amid_images : (m0 m1 m2 : Meaning) → LeavesOnly m0 m1 Stood → LeavesOnly m1 m2 (IsImage (state_in m1)) → LeavesOnly m0 m2 Stood
  amid_images m0 m1 m2 so_far run = runs_on m0 m1 m2 Stood so_far (weaken m1 m2 (IsImage (state_in m1)) Stood run (λ image is. at_end m0 m1 Stood so_far image is))

  stays_stand : (start : DiskState) (image : Image) → StaysAmid start base pending image → Stood image
  stays_stand start image stays = record { front = stays.front; holds = (stays.front, refl); within = stays.within; stands = inl (stays.c, stays.sound, stays.is) }

  pub amid_stays : (m0 m3 m4 : Meaning) → LeavesOnly m0 m3 Stood → LeavesOnly m3 m4 (StaysAmid (state_in m3) base pending) → LeavesOnly m0 m4 Stood
  amid_stays m0 m3 m4 so_far run = runs_on m0 m3 m4 Stood so_far (weaken m3 m4 (StaysAmid (state_in m3) base pending) Stood run (λ image stays. stays_stand (state_in m3) image stays))

  pub rested_amid : (m3 m4 : Meaning) (c : Contents) (p : MendPlan) (result : Result Unit Error) → IsPreparedAmid base pending (state_in m3) (with_active c) p → LeavesOnly m3 m4 (StaysAmid (state_in m3) base pending)
      → OnOk result (IsOpenable (standing (state_in m4)) (with_active c))
      → OnOk result (All (λ e. IsEnded (state_in m3) (state_in m4) (end_of e)) p.ends.items) → OnOk result ((q : Name) → IsSynced (state_in m3 q).now → IsSynced (state_in m4 q).now)
      → OnOk result ((q : Name) → (state_in m4 q).older ≡ (state_in m3 q).older) → OnOk result (IsRested (state_in m4) (with_active c))
  rested_amid m3 m4 c p (Ok done) before moments stands ended synced older =
      rested Stood m3 m4 (with_active c) p before
      (λ image is.
      let stays = at_end m3 m4 (StaysAmid (state_in m3) base pending) moments image is in
      same_sound (state_in m4) (with_active c) stands (λ q at. older q ∙ before.root q at)
      (each_to (λ f. (q : Name) → folder_of q ≡ f → (state_in m3 q).older ≡ []) (λ f. (q : Name) → folder_of q ≡ f → (state_in m4 q).older ≡ []) (folder_names (map (λ k. k.id) c.keyspaces.living)) (λ f was q at. older q ∙ was q at) before.folders)
      (each_to (λ f. IsSynced (state_in m3 f).now) (λ f. IsSynced (state_in m4 f).now) (whole_names (ids_of (opened c.journals))) (λ f was. synced f was) before.whole)
      (subst (AllByRecursion (λ f. IsSynced (state_in m4 f).now)) before.ended (along_map (λ f. IsSynced (state_in m4 f).now) name_of_end p.ends.items (λ k d lt. (_, ended k d lt))))
      image is stays.c stays.sound.openable) ended synced older (last_named c.journals)
  rested_amid m3 m4 c p (Err e) before moments stands ended synced older = tt

-- ---- names under which the call has its facts

pub stands_by : (s : DiskState) (c : Contents) (p : MendPlan) (ends : List FileEnd) → ends ≡ p.ends.items → (P : Image → Type 0) → IsPreparedBy P s c p → AreRight s c ends × AreSettled s ends
stands_by s c p ends is P before = (subst (AreRight s c) (sym is) before.right, subst (AreSettled s) (sym is) before.settled)
