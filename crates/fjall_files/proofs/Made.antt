-- A folder and a file while they are made.
use Rattle.std.proofs.Common.{◌≡◌, inl, inr, ⊎_elim, ℕ, true, false, List, [], ◌∷◌, ◌++◌, Result, Ok, Err, refl, sym, ◌∙◌, ap, subst, append_assoc}
use Rattle.std.specs.Prelude.{OnOk, OnErr}
use Rattle.std.specs.Str.{bytes_eq}
use Rattle.fjall_base.specs.declared.error.Error.{Error}
use Rattle.fjall_base.specs.Disk.{Name, DiskEntry, Missing, File, Folder, Place, DiskState, DiskStep, Meaning, Took, TookOrNot, TookPart, Put, Append, Sync, SyncFolder, making, removing, CanCreate, IsNoFile, IsNoFolder, IsThere, standing, appended, all_synced, after, folder_of, state_in}
use Rattle.fjall_base.proofs.Moments.{after-append}
use Rattle.fjall_base.proofs.States.{differs, put-now, put-other, settle-in}
use Rattle.fjall_files.specs.Regions.{is_under, Within, IsMade, IsSafe}
use Rattle.fjall_files.proofs.Under.{folder_is_shorter, in_folder, not_its_folder, shorter_out, under_self}
use Rattle.fjall_files.proofs.Changes.{within_start, within_on, within_part, within_perhaps, making_under, removing_under, alter-now, within_state}

-- ---- steps

pub took_both : (old mid new : Meaning) (first more : List DiskStep) → Took old mid first → Took mid new more → Took old new (first ++ more)
took_both old mid new first more one two = record {
  state = two.state ∙ ap (λ (s : DiskState). after s more) one.state ∙ sym (after-append (state_in old) first more);
  steps = two.steps ∙ ap (λ (l : List DiskStep). l ++ more) one.steps ∙ append_assoc old.steps first more;
}

pub within_both : (folder : Name) (old mid new : Meaning) → Within folder old mid → Within folder mid new → Within folder old new
within_both folder old mid new one two = within_on folder old mid new two.added one two.took two.under

pub within_none : (folder : Name) (old new : Meaning) → Took old new [] → Within folder old new
within_none folder old new took = within_on folder old old new [] (within_start folder old) took tt

-- ---- bytes and a sync

pub appended_within : (folder file : Name) (old new : Meaning) (bytes : List ℕ) → is_under folder file ≡ true → Took old new (Append file bytes ∷ []) → Within folder old new
appended_within folder file old new bytes under took = within_on folder old old new _ (within_start folder old) took (under, tt)

pub part_within : (folder file : Name) (old new : Meaning) (bytes : List ℕ) → is_under folder file ≡ true → TookPart old new file bytes → Within folder old new
part_within folder file old new bytes under took = within_part folder old old new file bytes (within_start folder old) took under

pub synced_within : (folder file : Name) (old new : Meaning) (r : Result Unit Error) → is_under folder file ≡ true → OnOk r (Took old new (Sync file ∷ [])) → OnErr r (TookOrNot old new (Sync file ∷ [])) → Within folder old new
synced_within folder file old new (Ok done) under ok err = within_on folder old old new _ (within_start folder old) ok (under, tt)
synced_within folder file old new (Err e) under ok err = within_perhaps folder old old new (Sync file) (within_start folder old) err under

pub both_took : (file : Name) (old mid new : Meaning) (bytes : List ℕ) (r : Result Unit Error) → Took old mid (Append file bytes ∷ []) → OnOk r (Took mid new (Sync file ∷ [])) → OnOk r (Took old new (Append file bytes ∷ Sync file ∷ []))
both_took file old mid new bytes (Ok done) one two = took_both old mid new (Append file bytes ∷ []) (Sync file ∷ []) one two
both_took file old mid new bytes (Err e) one two = tt

-- ---- a file that is made

pub making_within : (folder file : Name) (entry : DiskEntry) (old new : Meaning) → is_under folder file ≡ true → Took old new (making file entry (state_in old file).now) → Within folder old new
making_within folder file entry old new under took = within_on folder old old new _ (within_start folder old) took (making_under folder file entry (state_in old file).now under)

pub removing_within : (folder file : Name) (old new : Meaning) → is_under folder file ≡ true → Took old new (removing file (state_in old file).now) → Within folder old new
removing_within folder file old new under took = within_on folder old old new _ (within_start folder old) took (removing_under folder file (state_in old file).now under)

-- an empty file that gets bytes and is synced
pub filled : (file : Name) (old new : Meaning) (bytes : List ℕ) → (state_in old file).now ≡ File [] [] → Took old new (Append file bytes ∷ Sync file ∷ []) → (state_in new file).now ≡ File bytes []
filled file old new bytes empty took =
    let appended_now = alter-now (state_in old) file (appended bytes) ∙ ap (λ (e : DiskEntry). appended bytes e) empty in
    ap (λ (s : DiskState). (s file).now) took.state ∙ alter-now _ file all_synced ∙ ap (λ (e : DiskEntry). all_synced e) appended_now

pub made_file : (file : Name) (old mid new : Meaning) (bytes : List ℕ) (r : Result Unit Error) → (state_in old file).now ≡ Missing → Took old mid (making file (File [] []) (state_in old file).now)
    → OnOk r (Took mid new (Append file bytes ∷ Sync file ∷ [])) → OnOk r ((state_in new file).now ≡ File bytes [])
made_file file old mid new bytes (Ok done) none made filling =
    let put : Took old mid (Put file (File [] []) ∷ []) = subst (λ (e : DiskEntry). Took old mid (making file (File [] []) e)) none made in
    filled file mid new bytes (put-now (state_in old) (state_in mid) file (File [] []) put.state) filling
made_file file old mid new bytes (Err e) none made filling = tt

-- making an entry leaves what stands at another name
pub making_other : (old new : Meaning) (name q : Name) (entry there : DiskEntry) → bytes_eq q name ≡ false → Took old new (making name entry there) → state_in new q ≡ state_in old q
making_other old new name q entry Missing not took = ap (λ (s : DiskState). s q) took.state ∙ put-other (state_in old) name entry q not
making_other old new name q entry (File synced unsynced) not took = ap (λ (s : DiskState). s q) took.state
making_other old new name q entry Folder not took = ap (λ (s : DiskState). s q) took.state

-- ---- a folder and its file

module _ (folder file : Name) (inside : folder_of file ≡ folder) where
  pub made_home : (old m1 new : Meaning) (bytes : List ℕ) (r : Result Unit Error) → (folder ≡ [] → ⊥) → (state_in old file).now ≡ Missing
      → Took old m1 (making folder Folder (state_in old folder).now) → (state_in m1 folder).now ≡ Folder
      → ((state_in m1 file).now ≡ Missing → OnOk r ((state_in new file).now ≡ File bytes []))
      → Within file m1 new
      → OnOk r (IsMade (state_in new) folder file bytes)
  made_home old m1 new bytes (Ok done) some none took there filling stays =
      let other : bytes_eq file folder ≡ false = differs file folder (not_its_folder folder file some inside) in
      let still : (state_in m1 file).now ≡ Missing = ap (λ (p : Place). p.now) (making_other old m1 folder file Folder (state_in old folder).now other took) ∙ none in
      let out : is_under file folder ≡ false = shorter_out file folder (folder_is_shorter folder file some inside) in
      let named : file ≡ [] → ⊥ = λ e. some (sym inside ∙ ap (λ (n : Name). folder_of n) e) in
      record { folder_now = ap (λ (p : Place). p.now) (within_state file named m1 new stays folder out) ∙ there; file_now = filling still }
  made_home old m1 new bytes (Err e) some none took there filling stays = tt

  pub safe_file : (old mid new : Meaning) (bytes : List ℕ) (r : Result Unit Error) → (state_in mid file).now ≡ File bytes [] → OnOk r (Took mid new (SyncFolder folder ∷ [])) → OnOk r (IsSafe (state_in new) file bytes)
  safe_file old mid new bytes (Ok done) full took =
      ap (λ (s : DiskState). s file) took.state ∙ settle-in (state_in mid) folder file inside ∙ ap (λ (e : DiskEntry). record { now = e; older = [] }) full
  safe_file old mid new bytes (Err e) full took = tt

  -- the file may be made in the folder that was just made
  pub can_fill : (old m1 : Meaning) → (folder ≡ [] → ⊥) → Took old m1 (making folder Folder (state_in old folder).now) → (state_in m1 folder).now ≡ Folder → IsNoFolder (state_in old file).now → CanCreate (state_in m1) file
  can_fill old m1 some took there kind =
      let other : bytes_eq file folder ≡ false = differs file folder (not_its_folder folder file some inside) in
      record {
        named = λ e. some (sym inside ∙ ap (λ (n : Name). folder_of n) e);
        housed = subst (λ (f : Name). IsThere (standing (state_in m1)) f) (sym inside) (inr there);
        kind = subst (λ (p : Place). IsNoFolder p.now) (sym (making_other old m1 folder file Folder (state_in old folder).now other took)) kind;
      }

-- the folder stands as before while its file is made
pub still_there : (folder file : Name) → folder_of file ≡ folder → (old mid : Meaning) → (file ≡ [] → ⊥) → IsThere (standing (state_in old)) folder → Within file old mid → IsThere (standing (state_in mid)) folder
still_there [] file inside old mid named there stays = inl refl
still_there (c ∷ cs) file inside old mid named there stays =
    let some : c ∷ cs ≡ [] → ⊥ = λ e. cc in
    let out : is_under file (c ∷ cs) ≡ false = shorter_out file (c ∷ cs) (folder_is_shorter (c ∷ cs) file some inside) in
    ⊎_elim (λ e. inl e) (λ now. inr (ap (λ (p : Place). p.now) (within_state file named old mid stays (c ∷ cs) out) ∙ now)) there

pub settled_within : (folder : Name) (old new : Meaning) (r : Result Unit Error) → OnOk r (Took old new (SyncFolder folder ∷ [])) → OnErr r (Took old new []) → Within folder old new
settled_within folder old new (Ok done) ok err = within_on folder old old new _ (within_start folder old) ok (under_self folder, tt)
settled_within folder old new (Err e) ok err = within_none folder old new err

pub removed_within : (folder : Name) (old new : Meaning) (r : Result Unit Error) → OnOk r (Took old new (removing folder (state_in old folder).now)) → OnErr r (Took old new []) → Within folder old new
removed_within folder old new (Ok done) ok err = removing_within folder folder old new (under_self folder) ok
removed_within folder old new (Err e) ok err = within_none folder old new err

gone_by : (folder : Name) (old new : Meaning) (there : DiskEntry) → (state_in old folder).now ≡ there → IsNoFile there → Took old new (removing folder there) → (state_in new folder).now ≡ Missing
gone_by folder old new Missing is kind took = ap (λ (s : DiskState). (s folder).now) took.state ∙ is
gone_by folder old new (File synced unsynced) is kind took = absurd kind
gone_by folder old new Folder is kind took = put-now (state_in old) (state_in new) folder Missing took.state

pub gone : (folder : Name) (old new : Meaning) (r : Result Unit Error) → OnOk r (IsNoFile (state_in old folder).now) → OnOk r (Took old new (removing folder (state_in old folder).now)) → OnOk r ((state_in new folder).now ≡ Missing)
gone folder old new (Ok done) kind took = gone_by folder old new (state_in old folder).now refl kind took
gone folder old new (Err e) kind took = tt

-- one file more is removed
pub one_removed : (folder file : Name) (old mid new : Meaning) → (folder ≡ [] → ⊥) → folder_of file ≡ folder → Within folder old mid → Took mid new (removing file (state_in mid file).now) → Within folder old new
one_removed folder file old mid new some inside so_far took = within_both folder old mid new so_far (removing_within folder file mid new (in_folder folder file some inside) took)
