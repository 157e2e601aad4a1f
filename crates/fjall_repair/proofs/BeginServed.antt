-- No step of a folder's making is a call that no disk can serve, and none leaves anything in the way.
use Rattle.std.proofs.Common.{◌≡◌, ◌≢◌, inl, inr, ℕ, ◌<◌, ◌^◌, List, [], ◌∷◌, length, get_or, map, codes, All, Result, Ok, Err, refl, sym, ◌∙◌, ap, subst, arith}
use Rattle.std.specs.Prelude.{OnOk, OnErr}
use Rattle.fjall_base.specs.declared.error.Error.{Error}
use Rattle.fjall_base.specs.declared.error.FormatVersion.TheVariants.{V3}
use Rattle.fjall_base.specs.Disk.{Name, DiskEntry, Missing, File, Folder, Place, DiskState, Meaning, SyncFolder, Took, IsFile, IsLong, IsNoFile, IsNoFolder, CanCreate, CanMakeFolder, making, state_in}
use Rattle.fjall_base.proofs.States.{differs}
use Rattle.fjall_files.specs.Texts.{text_in}
use Rattle.fjall_files.proofs.Changes.{settle-now}
use Rattle.fjall_files.proofs.Fitting.{fits_current, fits_folder, fits_journal}
use Rattle.fjall_files.proofs.Serving.{can_make_journal}
use Rattle.fjall_manifest.proofs.Currents.{records_apart}
use Rattle.fjall_files.specs.Marker.{header}
use Rattle.fjall_files.specs.Names.{AllKeyspaces, Current, Journal, Keyspace, Version, journal_name, keyspace_folder, current_name}
use Rattle.fjall_files.specs.Tidy.{FitsAt, IsTidy, StaysTidy}
use Rattle.fjall_files.proofs.Distinct.{kept}
use Rattle.fjall_files.proofs.OfKinds.{kind_now}
use Rattle.fjall_files.proofs.Tidying.{stays_making, stays_none as tidy_none}
use Rattle.fjall_manifest.specs.Catalog.{fields, first_catalog}
use Rattle.fjall_manifest.proofs.CatalogNaming.{current_zero, folder_zero}
use Rattle.fjall_repair.specs.Making.{KeepsHomeRecords, StaysAt}
use Rattle.fjall_repair.specs.Plans.{first_text}
use Rattle.fjall_repair.proofs.Emptying.{journal_at}
use Rattle.fjall_repair.proofs.Moments.{elsewhere, stays_made, stays_none}

-- ---- what is there

file_of_text : (e : DiskEntry) → text_in e ≢ [] → IsFile e
file_of_text Missing some = absurd (some refl)
file_of_text Folder some = absurd (some refl)
file_of_text (File synced unsynced) some = tt

-- a file that has bytes is one
pub whole_file : (e : DiskEntry) (bytes : List ℕ) → bytes ≢ [] → text_in e ≡ bytes → IsFile e
whole_file e bytes some is = file_of_text e (λ none. some (sym is ∙ none))

-- any file can be emptied
pub file_long : (e : DiskEntry) → IsFile e → IsLong 0 e
file_long Missing file = absurd file
file_long Folder file = absurd file
file_long (File synced unsynced) file = omega arith

-- other bytes stand in a file
pub other_long : (e : DiskEntry) → text_in e ≢ [] → IsLong 0 e
other_long e some = file_long e (file_of_text e some)

-- an empty file is one
pub empty_file_is : (e : DiskEntry) (bytes : List ℕ) → e ≡ File bytes [] → IsFile e
empty_file_is e bytes is = subst IsFile (sym is) tt

-- a folder stands while another one's names are synced
pub outer_settled : (old new : Meaning) (folder : Name) → Took old new (SyncFolder folder ∷ []) → (state_in old (codes "keyspaces")).now ≡ Folder → (state_in new (codes "keyspaces")).now ≡ Folder
outer_settled old new folder took is = ap (λ (s : DiskState). (s (codes "keyspaces")).now) took.state ∙ settle-now (state_in old) folder (codes "keyspaces") ∙ is

-- ---- what can be made, and fits

pub can_make_keyspaces : (state : DiskState) → IsTidy state → CanMakeFolder state (codes "keyspaces")
can_make_keyspaces state tidy = record { named = λ is. (let no : ⊥ = cc in no); housed = inl refl; kind = kind_now state tidy AllKeyspaces tt }

pub can_make_tree : (state : DiskState) → IsTidy state → (state (codes "keyspaces")).now ≡ Folder → CanMakeFolder state (codes "keyspaces/0")
can_make_tree state tidy folder = record {
  named = λ is. (let no : ⊥ = cc in no);
  housed = inr folder;
  kind = subst (λ (n : Name). IsNoFile (state n).now) folder_zero (kind_now state tidy (Keyspace 0) (omega arith));
}

pub can_make_records : (state : DiskState) → IsTidy state → (state (keyspace_folder 0)).now ≡ Folder → CanCreate state (codes "keyspaces/0/current")
can_make_records state tidy folder = record {
  named = λ is. (let no : ⊥ = cc in no);
  housed = inr (subst (λ (n : Name). (state n).now ≡ Folder) folder_zero folder);
  kind = subst (λ (n : Name). IsNoFolder (state n).now) current_zero (kind_now state tidy (Current 0) (omega arith));
}

pub tree_fits : FitsAt (codes "keyspaces/0") Folder
tree_fits = subst (λ (n : Name). FitsAt n Folder) folder_zero (fits_folder 0 (omega arith))

pub records_fit : FitsAt (codes "keyspaces/0/current") (File [] [])
records_fit = subst (λ (n : Name). FitsAt n (File [] [])) current_zero (fits_current 0 (omega arith) [] [])

-- a folder that fits is made, or the call fails
pub making_folder : (name : Name) (there : DiskEntry) (old new : Meaning) (result : Result Unit Error) → FitsAt name Folder → OnOk result (Took old new (making name Folder there)) → OnErr result (Took old new []) → StaysTidy old new
making_folder name there old new (Ok done) fits ok err = stays_making old new name Folder there fits ok
making_folder name there old new (Err e) fits ok err = tidy_none old new err

-- of the names of journals each can be made and fits
module _ {X : Type 0} (text : X → Name) (xs : List X) (ids : List ℕ) (k : ℕ) (d : X) (name : Name) (at : name ≡ text (get_or xs k d)) (is : map text xs ≡ map journal_name ids) (fit : All (λ id. id < 2 ^ 64) ids) (lt : k < length xs) where
  pub journal_fits : FitsAt name (File [] [])
  journal_fits = let (id, small, named) = journal_at text xs ids k d is fit lt in subst (λ (n : Name). FitsAt n (File [] [])) (sym (at ∙ named)) (fits_journal id small [] [])

  pub journal_made : (state : DiskState) → IsTidy state → CanCreate state name
  journal_made state tidy = let (id, small, named) = journal_at text xs ids k d is fit lt in subst (CanCreate state) (sym (at ∙ named)) (can_make_journal state id tidy small)

-- ---- the bytes

header_some : header V3 ≢ []
header_some is = let no : ⊥ = cc in no

first_some : first_text ≢ []
first_some is = let none = ap length is in let some = records_apart.some (fields first_catalog) in omega (arith, none, some)

pub records_some : (text : List ℕ) → text ≡ first_text → text ≢ []
records_some text is none = first_some (sym is ∙ none)

pub marker_some : (bytes : List ℕ) → bytes ≡ header V3 → bytes ≢ []
marker_some bytes is none = header_some (sym is ∙ none)

-- ---- other homes

-- the name is that of no keyspace's records, but perhaps of tree 0's
abbrev pub IsNoHome : Name → Type 0
IsNoHome name = (id : ℕ) → 0 < id → id < 2 ^ 64 → name ≢ current_name id

pub marker_no_home : IsNoHome (codes "version")
marker_no_home id some small is = let both : Version ≡ Current id = kept Version (Current id) tt small is in let no : ⊥ = cc in no

pub keyspaces_no_home : IsNoHome (codes "keyspaces")
keyspaces_no_home id some small is = let both : AllKeyspaces ≡ Current id = kept AllKeyspaces (Current id) tt small is in let no : ⊥ = cc in no

pub tree_no_home : IsNoHome (codes "keyspaces/0")
tree_no_home id some small is = let both : Keyspace 0 ≡ Current id = kept (Keyspace 0) (Current id) (omega arith) small (folder_zero ∙ is) in let no : ⊥ = cc in no

pub records_no_home : IsNoHome (codes "keyspaces/0/current")
records_no_home id some small is =
    let both : Current 0 ≡ Current id = kept (Current 0) (Current id) (omega arith) small (current_zero ∙ is) in
    let same : 0 ≡ id = cc in omega (arith, some, same)

journal_no_home : (id : ℕ) → id < 2 ^ 64 → IsNoHome (journal_name id)
journal_no_home id fits other some small is = let both : Journal id ≡ Current other = kept (Journal id) (Current other) fits small is in let no : ⊥ = cc in no

-- none of the names of journals is
pub journals_no_home : {X : Type 0} (text : X → Name) (xs : List X) (ids : List ℕ) → map text xs ≡ map journal_name ids → All (λ id. id < 2 ^ 64) ids → (id : ℕ) → 0 < id → id < 2 ^ 64 → All (λ x. current_name id ≢ text x) xs
journals_no_home text xs ids is fit id some small k d lt same = let (j, fits, named) = journal_at text xs ids k d is fit lt in journal_no_home j fits id some small (sym named ∙ sym same)

pub homes_at : (name : Name) (old new : Meaning) → IsNoHome name → StaysAt name old new → KeepsHomeRecords (state_in old) (state_in new)
homes_at name old new apart stays id some small =
    ap (λ (p : Place). p.now) (elsewhere name old new (current_name id) (differs (current_name id) name (λ is. apart id some small (sym is))) stays)

pub homes_made : (name : Name) (entry there : DiskEntry) (old new : Meaning) (result : Result Unit Error) → IsNoHome name → OnOk result (Took old new (making name entry there)) → OnErr result (Took old new []) → KeepsHomeRecords (state_in old) (state_in new)
homes_made name entry there old new (Ok done) apart ok err = homes_at name old new apart (stays_made name old new entry there ok)
homes_made name entry there old new (Err e) apart ok err = homes_at name old new apart (stays_none name old new err)

pub homes_settled : (folder : Name) (old new : Meaning) (result : Result Unit Error) → OnOk result (Took old new (SyncFolder folder ∷ [])) → OnErr result (Took old new []) → KeepsHomeRecords (state_in old) (state_in new)
homes_settled folder old new (Ok done) ok err id some small = ap (λ (s : DiskState). (s (current_name id)).now) ok.state ∙ settle-now (state_in old) folder (current_name id)
homes_settled folder old new (Err e) ok err id some small = ap (λ (s : DiskState). (s (current_name id)).now) err.state

pub homes_both : (old mid new : DiskState) → KeepsHomeRecords old mid → KeepsHomeRecords mid new → KeepsHomeRecords old new
homes_both old mid new one two id some small = two id some small ∙ one id some small
