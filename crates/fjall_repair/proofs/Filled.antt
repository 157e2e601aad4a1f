-- What a file has once it is filled, synced or emptied.
use Rattle.std.proofs.Common.{◌≡◌, ℕ, List, [], ◌∷◌, ◌++◌, Result, Ok, Err, refl, sym, ◌∙◌, ap, append_assoc}
use Rattle.std.specs.Prelude.{OnOk}
use Rattle.fjall_base.specs.declared.error.Error.{Error}
use Rattle.fjall_base.specs.Disk.{Name, DiskEntry, Missing, File, Folder, Place, DiskState, Append, Sync, Loosen, Cut, Meaning, Took, IsFile, IsLong, making, all_synced, appended, cut_to, state_in}
use Rattle.fjall_base.proofs.States.{put-now}
use Rattle.fjall_files.specs.Texts.{text_in}
use Rattle.fjall_files.proofs.Changes.{alter-now}
use Rattle.fjall_files.proofs.Trimmed.{cut_place}

filled_entry : (bytes : List ℕ) (entry : DiskEntry) → IsFile entry → text_in entry ≡ [] → all_synced (appended bytes entry) ≡ File bytes []
filled_entry bytes Missing file none = absurd file
filled_entry bytes Folder file none = absurd file
filled_entry bytes (File synced unsynced) file none = ap (λ (l : List ℕ). File l []) (sym (append_assoc synced unsynced bytes) ∙ ap (λ (l : List ℕ). l ++ bytes) none)

pub filled : (name : Name) (old mid new : Meaning) (bytes : List ℕ) (result : Result Unit Error) → IsFile (state_in old name).now → text_in (state_in old name).now ≡ []
    → Took old mid (Append name bytes ∷ []) → OnOk result (Took mid new (Sync name ∷ [])) → OnOk result ((state_in new name).now ≡ File bytes [])
filled name old mid new bytes (Err e) file none took synced = tt
filled name old mid new bytes (Ok done) file none took synced =
    ap (λ (s : DiskState). (s name).now) synced.state ∙ alter-now (state_in mid) name all_synced
    ∙ ap (λ (s : DiskState). all_synced (s name).now) took.state ∙ ap (λ (e : DiskEntry). all_synced e) (alter-now (state_in old) name (appended bytes))
    ∙ filled_entry bytes (state_in old name).now file none

synced_entry : (bytes : List ℕ) (entry : DiskEntry) → IsFile entry → text_in entry ≡ bytes → all_synced entry ≡ File bytes []
synced_entry bytes Missing file is = absurd file
synced_entry bytes Folder file is = absurd file
synced_entry bytes (File synced unsynced) file is = ap (λ (l : List ℕ). File l []) is

pub synced_whole : (name : Name) (old new : Meaning) (bytes : List ℕ) (result : Result Unit Error) → text_in (state_in old name).now ≡ bytes
    → OnOk result (IsFile (state_in old name).now) → OnOk result (Took old new (Sync name ∷ [])) → OnOk result ((state_in new name).now ≡ File bytes [])
synced_whole name old new bytes (Err e) is file took = tt
synced_whole name old new bytes (Ok done) is file took =
    ap (λ (s : DiskState). (s name).now) took.state ∙ alter-now (state_in old) name all_synced ∙ synced_entry bytes (state_in old name).now file is

cut_entry : (entry : DiskEntry) → IsLong 0 entry → cut_to 0 entry ≡ File [] []
cut_entry Missing long = absurd long
cut_entry Folder long = absurd long
cut_entry (File synced unsynced) long = refl

pub emptied : (name : Name) (old new : Meaning) (result : Result Unit Error) → OnOk result (IsLong 0 (state_in old name).now) → OnOk result (Took old new (Loosen name 0 ∷ Cut name 0 ∷ [])) → OnOk result ((state_in new name).now ≡ File [] [])
emptied name old new (Err e) long took = tt
emptied name old new (Ok done) long took =
    let place = cut_place old new name 0 (Ok done) took in
    ap (λ (p : Place). p.now) place ∙ cut_entry (state_in old name).now long

-- a file that was made where there was none, or that is there and has no byte, has none
pub made_text : (name : Name) (old new : Meaning) (there : DiskEntry) → (state_in old name).now ≡ there → text_in (state_in old name).now ≡ [] → Took old new (making name (File [] []) there) → text_in (state_in new name).now ≡ []
made_text name old new Missing is none took = ap (λ (e : DiskEntry). text_in e) (put-now (state_in old) (state_in new) name (File [] []) took.state)
made_text name old new (File synced unsynced) is none took = ap (λ (s : DiskState). text_in (s name).now) took.state ∙ none
made_text name old new Folder is none took = ap (λ (s : DiskState). text_in (s name).now) took.state ∙ none
