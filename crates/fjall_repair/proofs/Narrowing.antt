-- A sync only narrows what a crash may leave, and what stands stays.
use Rattle.std.proofs.Common.{◌≡◌, ◌≢◌, inl, inr, ⊎_elim, Bool, true, [], ◌∷◌, ◌++◌, refl, sym, ◌∙◌, ap, subst}
use Rattle.std.proofs.lemmas.List.{append-nil}
use Rattle.fjall_base.specs.Disk.{Name, DiskEntry, Missing, File, Folder, Place, DiskState, Image, IsImage, IsFile, Survives, LeavesOnly, Meaning, Took, TookOrNot, Sync, SyncFolder, all_synced, alter, settle, folder_of, state_in}
use Rattle.fjall_base.proofs.Moments.{at_end, perhaps_on, steps_on}
use Rattle.fjall_base.proofs.States.{alter-same, alter-other, differs, settle-in, settle-out}
use Rattle.fjall_files.proofs.Changes.{settle-now}
use Rattle.fjall_files.proofs.Parts.{in_region, region_settle}
use Rattle.fjall_files.proofs.Trimmed.{synced_image}
use Rattle.fjall_repair.specs.Steps.{IsSame, IsSynced}
use Rattle.fjall_repair.proofs.Naming.{same_or_not}

abbrev everywhere : Name → Bool
everywhere q = true

pub settled_image : (state : DiskState) (folder : Name) (image : Image) → IsImage (settle state folder) image → IsImage state image
settled_image state folder image is =
    let wide = region_settle {crash = Survives} everywhere state folder image (in_region everywhere (settle state folder) image is) in
    record { kept = λ q there. wide.kept q refl there; lost = λ q gone. wide.lost q refl gone }

-- ---- a folder's names

pub settle-empty : (state : DiskState) (folder q : Name) → folder_of q ≡ folder → (settle state folder q).older ≡ []
settle-empty state folder q is = ap (λ (p : Place). p.older) (settle-in state folder q is)

pub settle-still : (state : DiskState) (folder q : Name) → (state q).older ≡ [] → (settle state folder q).older ≡ []
settle-still state folder q older = ⊎_elim
    (λ is. settle-empty state folder q is)
    (λ not. ap (λ (p : Place). p.older) (settle-out state folder q (differs (folder_of q) folder not)) ∙ older) (same_or_not (folder_of q) folder)

module _ (old mid new : Meaning) (folder : Name) where
  pub folder_moment : LeavesOnly old mid (IsImage (state_in old)) → Took mid new (SyncFolder folder ∷ []) → LeavesOnly old new (IsImage (state_in old))
  folder_moment so_far took = steps_on old mid new (IsImage (state_in old)) (SyncFolder folder) so_far took (λ image is. at_end old mid (IsImage (state_in old)) so_far image (settled_image (state_in mid) folder image is))

  pub folder_same : Took mid new (SyncFolder folder ∷ []) → (q : Name) → (state_in new q).now ≡ (state_in mid q).now
  folder_same took q = ap (λ (s : DiskState). (s q).now) took.state ∙ settle-now (state_in mid) folder q

  pub folder_still : Took mid new (SyncFolder folder ∷ []) → (q : Name) → (state_in mid q).older ≡ [] → (state_in new q).older ≡ []
  folder_still took q older = ap (λ (s : DiskState). (s q).older) took.state ∙ settle-still (state_in mid) folder q older

  pub folder_empty : Took mid new (SyncFolder folder ∷ []) → (q : Name) → folder_of q ≡ folder → (state_in new q).older ≡ []
  folder_empty took q is = ap (λ (s : DiskState). (s q).older) took.state ∙ settle-empty (state_in mid) folder q is

-- ---- a file

synced_twice : (entry : DiskEntry) → all_synced (all_synced entry) ≡ all_synced entry
synced_twice Missing = refl
synced_twice Folder = refl
synced_twice (File synced unsynced) = ap (λ l. File l []) (append-nil (synced ++ unsynced))

pub file_synced : (entry : DiskEntry) → IsFile entry → IsSynced (all_synced entry)
file_synced Missing file = absurd file
file_synced Folder file = absurd file
file_synced (File synced unsynced) file = (synced ++ unsynced, refl)

pub synced_still : (old new : Place) → IsSame old new → IsSynced old.now → IsSynced new.now
synced_still old new same (bytes, is) = ⊎_elim
    (λ e. (bytes, e ∙ is))
    (λ e. (bytes, e ∙ ap all_synced is ∙ ap (λ l. File l []) (append-nil bytes))) same.now

pub same_place : (p : Place) → IsSame p p
same_place p = record { older = refl; now = inl refl }

pub same_then : (one two three : Place) → IsSame one two → IsSame two three → IsSame one three
same_then one two three a b = record {
  older = b.older ∙ a.older;
  now = ⊎_elim
      (λ f. ⊎_elim (λ e. inl (f ∙ e)) (λ e. inr (f ∙ e)) a.now)
      (λ f. ⊎_elim (λ e. inr (f ∙ ap all_synced e)) (λ e. inr (f ∙ ap all_synced e ∙ synced_twice one.now)) a.now) b.now;
}

synced_place : (state : DiskState) (file q : Name) → IsSame (state q) (alter state file all_synced q)
synced_place state file q = ⊎_elim
    (λ same. subst (λ (n : Name). IsSame (state n) (alter state file all_synced n)) (sym same) (subst (IsSame (state file)) (sym (alter-same state file all_synced)) (record { older = refl; now = inr refl })))
    (λ not. subst (IsSame (state q)) (sym (alter-other state file all_synced q (differs q file not))) (same_place (state q))) (same_or_not q file)

module _ (old mid new : Meaning) (file : Name) where
  pub file_moment : LeavesOnly old mid (IsImage (state_in old)) → TookOrNot mid new (Sync file ∷ []) → LeavesOnly old new (IsImage (state_in old))
  file_moment so_far took = perhaps_on old mid new (IsImage (state_in old)) (Sync file) so_far took (λ image is. at_end old mid (IsImage (state_in old)) so_far image (synced_image (state_in mid) file image is))

  pub file_same : TookOrNot mid new (Sync file ∷ []) → (q : Name) → IsSame (state_in mid q) (state_in new q)
  file_same (inl none) q = subst (λ (s : DiskState). IsSame (state_in mid q) (s q)) (sym none.state) (same_place (state_in mid q))
  file_same (inr took) q = subst (λ (s : DiskState). IsSame (state_in mid q) (s q)) (sym took.state) (synced_place (state_in mid) file q)

  pub file_elsewhere : TookOrNot mid new (Sync file ∷ []) → (q : Name) → q ≢ file → state_in new q ≡ state_in mid q
  file_elsewhere (inl none) q not = ap (λ (s : DiskState). s q) none.state
  file_elsewhere (inr took) q not = ap (λ (s : DiskState). s q) took.state ∙ alter-other (state_in mid) file all_synced q (differs q file not)

  pub file_is_synced : Took mid new (Sync file ∷ []) → IsFile (state_in mid file).now → IsSynced (state_in new file).now
  file_is_synced took there =
      subst (λ (p : Place). IsSynced p.now) (sym (ap (λ (s : DiskState). s file) took.state ∙ alter-same (state_in mid) file all_synced)) (file_synced (state_in mid file).now there)
