-- What a disk holds after a mending that may have failed.
use Rattle.std.proofs.Common.{◌≡◌, ◌⊎◌, inl, inr, ⊎_elim, ℕ, ◌<◌, ◌^◌, List, [], ◌∷◌, Result, Ok, Err, sym, ◌∙◌, ap, subst, arith}
use Rattle.std.specs.Prelude.{Contains, OnOk, OnErr}
use Rattle.fjall_base.specs.declared.error.Error.{Error}
use Rattle.fjall_base.specs.Store.{Store, Command}
use Rattle.fjall_base.specs.Crash.{IsHoused}
use Rattle.fjall_base.specs.Disk.{Name, File, DiskState, Image, IsImage, IsFile, LeavesOnly, Meaning, Took, SyncFolder, making, folder_of, standing, state_in}
use Rattle.fjall_base.proofs.Moments.{at_end}
use Rattle.fjall_base.proofs.Wholes.{all_kept, all_kept_is_left}
use Rattle.fjall_files.proofs.Changes.{settle-now}
use Rattle.fjall_files.specs.Names.{journal_name}
use Rattle.fjall_recovery.specs.Folders.{Contents, IsOpenable, IsUnfinished}
use Rattle.fjall_recovery.specs.Journals.{WholeJournal}
use Rattle.fjall_recovery.specs.Amid.{HoldsAmid, StandsAmid}
use Rattle.fjall_recovery.proofs.Alike.{alike_sound, kept_alike, standing_amid}
use Rattle.fjall_repair.specs.Amids.{StaysAmid}
use Rattle.fjall_repair.specs.Steps.{IsOpened, IsSame, active_of, with_active}
use Rattle.fjall_repair.proofs.Naming.{folder_of-journal}
use Rattle.fjall_repair.proofs.MendOpened.{ids_of, made_opened, opened_sound}
use Rattle.fjall_repair.proofs.CarryingAmid.{marker_known, place_alike}

-- some contents
abbrev pub IsFinishedFolder : Image → Type 0
IsFinishedFolder image = (d : Contents) × IsOpenable image d

pub not_unfinished : (image : Image) → IsFinishedFolder image → IsUnfinished image → ⊥
not_unfinished image (d, sound) begun = marker_known sound.marker begun.marker

-- a folder with this journal has journals
pub has_some : (image : Image) (c : Contents) (id : ℕ) → id < 2 ^ 64 → IsFile (image (journal_name id)) → IsOpenable image c → c.journals ≡ [] → ⊥
has_some image c id small file sound none =
    let has : Contains [] id = subst (λ (l : List WholeJournal). Contains (ids_of l) id) none ((sound.journals.ids.each id).1 (small, file)) in
    let lt = has.1 in
    omega (arith, lt)

-- a disk on which nothing was changed
pub held_still : (old new : Meaning) (base : Store) (pending : List Command) → Took old new [] → HoldsAmid (state_in old) base pending → HoldsAmid (state_in new) base pending
held_still old new base pending took holds = subst (λ (s : DiskState). HoldsAmid s base pending) (sym took.state) holds

-- a disk whose folder is finished, and has a journal
pub held_with : (new : DiskState) (base : Store) (pending : List Command) → IsHoused new → ((image : Image) → IsImage new image → StandsAmid base [] pending image) → IsFinishedFolder (standing new) → (id : ℕ) → id < 2 ^ 64 → IsFile (new (journal_name id)).now → HoldsAmid new base pending
held_with new base pending housed crash finished id small file = record {
  now = standing_amid new base [] pending housed crash;
  crash = crash;
  journals = λ c sound none. absurd (has_some (standing new) c id small file sound none);
  back = λ begun. absurd (not_unfinished (standing new) finished begun);
}

pub held_from : (old new : Meaning) (base : Store) (pending : List Command) → IsHoused (state_in new) → HoldsAmid (state_in old) base pending → LeavesOnly old new (StandsAmid base [] pending) → IsFinishedFolder (standing (state_in new)) → (active : Name) (id : ℕ) → id < 2 ^ 64 → active ≡ journal_name id
    → Took old new [] ⊎ IsFile (state_in new active).now → HoldsAmid (state_in new) base pending
held_from old new base pending housed holds run finished active id small named (inl none) = held_still old new base pending none holds
held_from old new base pending housed holds run finished active id small named (inr file) =
    held_with (state_in new) base pending housed (λ image is. at_end old new (StandsAmid base [] pending) run image is) finished id small (subst (λ (n : Name). IsFile (state_in new n).now) named file)

-- ---- the root is settled

pub settle_stands : (old mid new : Meaning) (active : Name) → Took old mid (making active (File [] []) (state_in old active).now) → IsFile (state_in mid active).now → (result : Result Unit Error) → OnOk result (Took mid new (SyncFolder [] ∷ [])) → OnErr result (Took mid new [])
    → (c : Contents) → IsOpenable (standing (state_in old)) c → active ≡ journal_name (active_of (ids_of c.journals)) → IsOpenable (standing (state_in new)) (with_active c)
settle_stands old mid new active made file result ok err c sound named =
    subst (λ (i : Image). IsOpenable i (with_active c)) (let same : (q : Name) → (state_in mid q).now ≡ (state_in new q).now = λ q. sym (by result ok err q) in λ j q. same q j)
    (opened_sound (standing (state_in old)) (standing (state_in mid)) active (made_opened old mid active made file) c named sound)
  where
    by : (r : Result Unit Error) → OnOk r (Took mid new (SyncFolder [] ∷ [])) → OnErr r (Took mid new []) → (q : Name) → (state_in new q).now ≡ (state_in mid q).now
    by (Ok done) took none q = ap (λ (s : DiskState). (s q).now) took.state ∙ settle-now (state_in mid) [] q
    by (Err e) took none q = ap (λ (s : DiskState). (s q).now) none.state

-- ---- along the other steps

pub sound_along : (old new : DiskState) → ((q : Name) → (new q).now ≡ (old q).now) → IsFinishedFolder (standing old) → IsFinishedFolder (standing new)
sound_along old new same (d, sound) = (d, subst (λ (i : Image). IsOpenable i d) (λ j q. sym (same q) j) sound)

pub sound_synced : (old new : DiskState) → ((q : Name) → IsSame (old q) (new q)) → IsFinishedFolder (standing old) → IsFinishedFolder (standing new)
sound_synced old new same (d, sound) = (d, alike_sound (standing old) (standing new) (λ q. place_alike (old q) (new q) (same q)) d sound)

pub file_along : (old new : DiskState) (active : Name) → ((q : Name) → (new q).now ≡ (old q).now) → IsFile (old active).now → IsFile (new active).now
file_along old new active same file = subst IsFile (sym (same active)) file

pub file_synced : (old new : DiskState) (active : Name) → ((q : Name) → IsSame (old q) (new q)) → IsFile (old active).now → IsFile (new active).now
file_synced old new active same file = (place_alike (old active) (new active) (same active)).file.0 file

-- what stands at the end, by the image that keeps all
pub held_at_end : (m0 m3 m4 : Meaning) (base : Store) (pending : List Command) → IsHoused (state_in m4) → LeavesOnly m0 m4 (StandsAmid base [] pending) → LeavesOnly m3 m4 (StaysAmid (state_in m3) base pending) → (active : Name) (id : ℕ) → id < 2 ^ 64 → active ≡ journal_name id
    → (state_in m3 active).older ≡ [] → IsFile (state_in m3 active).now → HoldsAmid (state_in m4) base pending
held_at_end m0 m3 m4 base pending housed run moments active id small named settled file =
    let s = state_in m4 in
    let whole = at_end m3 m4 (StaysAmid (state_in m3) base pending) moments (all_kept s) (all_kept_is_left s housed) in
    let in_root : folder_of active ≡ [] = ap (λ (n : Name). folder_of n) named ∙ folder_of-journal id small in
    let there : IsFile (s active).now = (kept_alike s active).file.0 (whole.files active in_root settled file) in
    held_with s base pending housed (λ image is. at_end m0 m4 (StandsAmid base [] pending) run image is) (whole.c, alike_sound (all_kept s) (standing s) (kept_alike s) whole.c whole.sound.openable) id small
    (subst (λ (n : Name). IsFile (s n).now) named there)

-- ---- names under which the call has its facts

pub either_finished : (image : Image) (c : Contents) → IsOpenable image c ⊎ IsOpenable image (with_active c) → IsFinishedFolder image
either_finished image c (inl sound) = (c, sound)
either_finished image c (inr sound) = (with_active c, sound)

pub made_there : (image made : Image) (active : Name) → IsOpened image made active → IsFile (made active)
made_there image made active is = ⊎_elim (λ was. subst IsFile (sym was.1) was.0) (λ new. subst IsFile (sym new.1) tt) is.here

pub settled_active : (s : DiskState) (active : Name) (id : ℕ) → id < 2 ^ 64 → active ≡ journal_name id → ((q : Name) → folder_of q ≡ [] → (s q).older ≡ []) → (s active).older ≡ []
settled_active s active id small named root = root active (ap (λ (n : Name). folder_of n) named ∙ folder_of-journal id small)
