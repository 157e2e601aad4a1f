-- Which calls of a creation a disk can serve.
use Rattle.std.proofs.Common.{◌≡◌, inr, ℕ, false, List, [], codes, refl, sym, ◌∙◌, ap, subst}
use Rattle.fjall_base.specs.Disk.{Name, DiskEntry, Missing, File, Folder, Place, DiskState, Meaning, Took, CanCreate, CanMakeFolder, IsNoFile, IsNoFolder, IsThere, folder_of, removing, standing, state_in}
use Rattle.fjall_base.proofs.States.{put-now}
use Rattle.fjall_files.specs.Regions.{Within, is_under}
use Rattle.fjall_files.proofs.Changes.{within_state}
use Rattle.fjall_files.proofs.Made.{removing_within}
use Rattle.fjall_files.proofs.Under.{folder_is_shorter, shorter_out, under_self}
use Rattle.fjall_manifest.specs.Records.{Fields}
use Rattle.fjall_files.specs.Names.{keyspace_folder}
use Rattle.fjall_recovery.specs.Halves.{Tree}
use Rattle.fjall_recovery.specs.Places.{LiesInTree}
use Rattle.fjall_changes.specs.Changes.{HasRoomForKeyspace}
use Rattle.fjall_manifest.proofs.Naming.{some_folder}

removed_kind : (file : Name) (m1 m2 : Meaning) (there : DiskEntry) → (state_in m1 file).now ≡ there → IsNoFolder there → Took m1 m2 (removing file there) → IsNoFolder (state_in m2 file).now
removed_kind file m1 m2 Missing is kind took = subst (λ (e : DiskEntry). IsNoFolder e) (sym (ap (λ (s : DiskState). (s file).now) took.state ∙ is)) tt
removed_kind file m1 m2 (File synced unsynced) is kind took = subst (λ (e : DiskEntry). IsNoFolder e) (sym (put-now (state_in m1) (state_in m2) file Missing took.state)) tt
removed_kind file m1 m2 Folder is kind took = absurd kind

-- once the file of before is removed, it can be made in the folder that stands there
pub still_can : (folder file : Name) → folder_of file ≡ folder → (folder ≡ [] → ⊥) → (m1 m2 : Meaning) → Took m1 m2 (removing file (state_in m1 file).now) → (state_in m1 folder).now ≡ Folder → CanCreate (state_in m1) file → CanCreate (state_in m2) file
still_can folder file inside some m1 m2 took there can =
    let out : is_under file folder ≡ false = shorter_out file folder (folder_is_shorter folder file some inside) in
    let still = ap (λ (p : Place). p.now) (within_state file can.named m1 m2 (removing_within file file m1 m2 (under_self file) took) folder out) ∙ there in
    record {
      named = can.named;
      housed = subst (λ (f : Name). IsThere (standing (state_in m2)) f) (sym inside) (inr still);
      kind = removed_kind file m1 m2 (state_in m1 file).now refl can.kind took;
    }

pub can_make_home : (id : ℕ) (folder : Name) → folder ≡ keyspace_folder id → folder_of (keyspace_folder id) ≡ codes "keyspaces" → (state : DiskState) (records : List Fields) (t : Tree) → LiesInTree state records t → HasRoomForKeyspace state id → CanMakeFolder state folder
can_make_home id folder at inside state records t lies room = record {
  named = λ e. some_folder id (sym at ∙ e);
  housed = subst (λ (f : Name). IsThere (standing state) f) (sym (ap (λ (n : Name). folder_of n) at ∙ inside)) (inr (ap (λ (p : Place). p.now) lies.rests.catalog.home.keyspaces_folder));
  kind = subst (λ (n : Name). IsNoFile (state n).now) (sym at) room.folder;
}

-- `keyspaces` stands as before whatever was done in a keyspace's folder
pub keyspaces_there : (id : ℕ) (old new : Meaning) (records : List Fields) (t : Tree) → LiesInTree (state_in old) records t → Within (keyspace_folder id) old new → IsThere (standing (state_in new)) (codes "keyspaces")
keyspaces_there id old new records t lies run =
    inr (ap (λ (p : Place). p.now) (within_state (keyspace_folder id) (some_folder id) old new run (codes "keyspaces") refl ∙ lies.rests.catalog.home.keyspaces_folder))
