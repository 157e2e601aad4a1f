-- Tree 0 while it is made.
use Rattle.std.proofs.Common.{◌≡◌, ℕ, true, false, List, [], ◌∷◌, codes, Result, Ok, Err, refl, sym, ◌∙◌, ap, subst, arith, None}
use Rattle.std.specs.Prelude.{OnOk, OnErr}
use Rattle.std.specs.Str.{bytes_eq}
use Rattle.fjall_base.specs.declared.error.Error.{Error}
use Rattle.fjall_base.specs.Disk.{Name, DiskEntry, File, Folder, Place, DiskState, SyncFolder, Meaning, Took, folder_of, making, standing, state_in}
use Rattle.fjall_base.proofs.States.{settle-in, settle-out}
use Rattle.fjall_files.specs.Texts.{text_in}
use Rattle.fjall_files.specs.Regions.{Within, is_under}
use Rattle.fjall_files.proofs.Changes.{settle-now, within_on, within_start}
use Rattle.fjall_files.proofs.Made.{making_other, making_within, within_none}
use Rattle.fjall_manifest.specs.Records.{IsRecord}
use Rattle.fjall_files.specs.Names.{keyspace_folder, current_name}
use Rattle.fjall_files.proofs.Fitting.{folder_of-current, folder_of-folder}
use Rattle.fjall_manifest.specs.Homes.{only}
use Rattle.fjall_manifest.specs.Catalog.{fields, first_catalog, records_in}
use Rattle.fjall_manifest.proofs.CatalogNaming.{current_zero, folder_zero}
use Rattle.fjall_manifest.proofs.Shapes.{first_fits}
use Rattle.fjall_repair.specs.declared.beginning.plan.FileState.{FileState}
use Rattle.fjall_repair.specs.Making.{CanHold, MakingGoesOn, MayStand, StaysAt}
use Rattle.fjall_repair.specs.Plans.{HasFirstTree, IsFound, first_text}
use Rattle.fjall_repair.proofs.Holding.{current_holds}
use Rattle.fjall_repair.proofs.Moments.{IsNoTable, elsewhere, goes_made, goes_none}
use Rattle.fjall_repair.proofs.Named.{folder_no_table, named_zero}
use Rattle.fjall_repair.proofs.Standing.{folder_stands}

-- ---- folders

module _ (name : Name) (old new : Meaning) (result : Result Unit Error) (ok : OnOk result (Took old new (making name Folder (state_in old name).now))) (err : OnErr result (Took old new [])) where
  pub goes_folder : (marking : _) → IsNoTable name → MayStand marking name Folder → MakingGoesOn marking old new
  goes_folder marking no_table stands = by result ok err
    where
      by : (r : Result Unit Error) → OnOk r (Took old new (making name Folder (state_in old name).now)) → OnErr r (Took old new []) → MakingGoesOn marking old new
      by (Ok done) took none = goes_made marking old new name no_table Folder (state_in old name).now stands took
      by (Err e) took none = goes_none marking old new none

  pub within_folder : (folder : Name) → is_under folder name ≡ true → Within folder old new
  within_folder folder under = by result ok err
    where
      by : (r : Result Unit Error) → OnOk r (Took old new (making name Folder (state_in old name).now)) → OnErr r (Took old new []) → Within folder old new
      by (Ok done) took none = making_within folder name Folder old new under took
      by (Err e) took none = within_none folder old new none

  pub folder_other : (q : Name) → bytes_eq q name ≡ false → state_in new q ≡ state_in old q
  folder_other q not = by result ok err
    where
      by : (r : Result Unit Error) → OnOk r (Took old new (making name Folder (state_in old name).now)) → OnErr r (Took old new []) → state_in new q ≡ state_in old q
      by (Ok done) took none = making_other old new name q Folder (state_in old name).now not took
      by (Err e) took none = ap (λ (s : DiskState). s q) none.state

pub keyspaces_stands : MayStand false (codes "keyspaces") Folder
keyspaces_stands = folder_stands false (codes "keyspaces") (λ inside. (let no : [] ≡ codes "keyspaces" = inside in cc))

pub inner_no_table : IsNoTable (codes "keyspaces/0")
inner_no_table id n small small' is = folder_no_table id n small small' (folder_zero ∙ is)

pub inner_stands : MayStand false (codes "keyspaces/0") Folder
inner_stands = subst (λ (n : Name). MayStand false n Folder) folder_zero (folder_stands false (keyspace_folder 0) (λ inside. named_zero))

not_current : (name : Name) → bytes_eq (codes "keyspaces/0/current") name ≡ false → bytes_eq (current_name 0) name ≡ false
not_current name not = ap (λ (n : Name). bytes_eq n name) current_zero ∙ not

pub records_along : (old new : Meaning) → state_in new (current_name 0) ≡ state_in old (current_name 0) → records_in (standing (state_in new)) ≡ records_in (standing (state_in old))
records_along old new same = ap (λ (p : Place). text_in p.now) same

pub outer_records : (old new : Meaning) (result : Result Unit Error) → OnOk result (Took old new (making (codes "keyspaces") Folder (state_in old (codes "keyspaces")).now)) → OnErr result (Took old new []) → state_in new (current_name 0) ≡ state_in old (current_name 0)
outer_records old new result ok err = folder_other (codes "keyspaces") old new result ok err (current_name 0) (not_current (codes "keyspaces") refl)

pub inner_records : (old new : Meaning) (result : Result Unit Error) → OnOk result (Took old new (making (codes "keyspaces/0") Folder (state_in old (codes "keyspaces/0")).now)) → OnErr result (Took old new []) → state_in new (current_name 0) ≡ state_in old (current_name 0)
inner_records old new result ok err = folder_other (codes "keyspaces/0") old new result ok err (current_name 0) (not_current (codes "keyspaces/0") refl)

pub on_ok_of : (result : Result Unit Error) (P : Type 0) → P → OnOk result P
on_ok_of (Ok done) P is = is
on_ok_of (Err e) P is = tt

pub on_ok_as : (result : Result Unit Error) (P Q : Type 0) → (P → Q) → OnOk result P → OnOk result Q
on_ok_as (Ok done) P Q to is = to is
on_ok_as (Err e) P Q to is = tt

-- ---- syncs

pub settled_under : (folder inner : Name) (old new : Meaning) (result : Result Unit Error) → is_under folder inner ≡ true → OnOk result (Took old new (SyncFolder inner ∷ [])) → OnErr result (Took old new []) → Within folder old new
settled_under folder inner old new (Ok done) under ok err = within_on folder old old new (SyncFolder inner ∷ []) (within_start folder old) ok (under, tt)
settled_under folder inner old new (Err e) under ok err = within_none folder old new err

module _ (old mid new : Meaning) (one : Took old mid (SyncFolder (codes "keyspaces/0") ∷ [])) (two : Took mid new (SyncFolder (codes "keyspaces") ∷ [])) where
  still : (q : Name) → (state_in new q).now ≡ (state_in old q).now
  still q =
      ap (λ (s : DiskState). (s q).now) two.state ∙ settle-now (state_in mid) (codes "keyspaces") q
      ∙ ap (λ (s : DiskState). (s q).now) one.state ∙ settle-now (state_in old) (codes "keyspaces/0") q

  inside : (q : Name) → folder_of q ≡ codes "keyspaces" → state_in new q ≡ only (state_in old q).now
  inside q at =
      let place : state_in new q ≡ only (state_in mid q).now = ap (λ (s : DiskState). s q) two.state ∙ settle-in (state_in mid) (codes "keyspaces") q at in
      place ∙ ap (λ (e : DiskEntry). only e) (ap (λ (s : DiskState). (s q).now) one.state ∙ settle-now (state_in old) (codes "keyspaces/0") q)

  records : state_in new (current_name 0) ≡ only (state_in old (current_name 0)).now
  records =
      let apart : bytes_eq (folder_of (current_name 0)) (codes "keyspaces") ≡ false = ap (λ (n : Name). bytes_eq (folder_of n) (codes "keyspaces")) current_zero in
      let here : folder_of (current_name 0) ≡ codes "keyspaces/0" = folder_of-current 0 ∙ folder_zero in
      ap (λ (s : DiskState). s (current_name 0)) two.state ∙ settle-out (state_in mid) (codes "keyspaces") (current_name 0) apart
      ∙ ap (λ (s : DiskState). s (current_name 0)) one.state ∙ settle-in (state_in old) (codes "keyspaces/0") (current_name 0) here

  first_tree_settled : (state_in old (codes "keyspaces")).now ≡ Folder → (state_in old (keyspace_folder 0)).now ≡ Folder → (state_in old (current_name 0)).now ≡ File first_text [] → HasFirstTree (state_in new)
  first_tree_settled outer inner current = record {
    keyspaces = still (codes "keyspaces") ∙ outer;
    settled = λ name at. ap (λ (p : Place). p.older) (inside name at);
    folder = inside (keyspace_folder 0) (folder_of-folder 0 (omega arith)) ∙ ap (λ (e : DiskEntry). only e) inner;
    current = records ∙ ap (λ (e : DiskEntry). only e) current;
  }

pub first_tree : (old mid new : Meaning) (result : Result Unit Error) → Took old mid (SyncFolder (codes "keyspaces/0") ∷ []) → OnOk result (Took mid new (SyncFolder (codes "keyspaces") ∷ []))
    → (state_in old (codes "keyspaces")).now ≡ Folder → (state_in old (keyspace_folder 0)).now ≡ Folder → (state_in old (current_name 0)).now ≡ File first_text [] → OnOk result (HasFirstTree (state_in new))
first_tree old mid new (Ok done) one two outer inner current = first_tree_settled old mid new one two outer inner current
first_tree old mid new (Err e) one two outer inner current = tt

-- ---- records

pub first_record_is : IsRecord (fields first_catalog)
first_record_is = first_fits None 1 tt (omega arith)

pub records_hold : (text : List ℕ) → text ≡ first_text → CanHold false (codes "keyspaces/0/current") text
records_hold text is = subst (λ (l : List ℕ). CanHold false (codes "keyspaces/0/current") l) (sym is) (subst (λ (n : Name). CanHold false n first_text) current_zero (current_holds first_record_is))

-- what was found of them is there yet
pub records_found : (found : FileState) (text : List ℕ) (old new : DiskState) → text ≡ first_text → records_in (standing new) ≡ records_in (standing old) → IsFound found first_text (records_in (standing old)) → IsFound found text (text_in (standing new (codes "keyspaces/0/current")))
records_found found text old new is same found_is =
    subst (λ (l : List ℕ). IsFound found l (text_in (standing new (codes "keyspaces/0/current")))) (sym is)
    (subst (λ (n : Name). IsFound found first_text (text_in (standing new n))) current_zero (subst (λ (l : List ℕ). IsFound found first_text l) (sym same) found_is))

pub outer_still : (old new : Meaning) → StaysAt (codes "keyspaces/0/current") old new → (state_in old (codes "keyspaces")).now ≡ Folder → (state_in new (codes "keyspaces")).now ≡ Folder
outer_still old new stays is = ap (λ (p : Place). p.now) (elsewhere (codes "keyspaces/0/current") old new (codes "keyspaces") refl stays) ∙ is

pub inner_still : (old new : Meaning) → StaysAt (codes "keyspaces/0/current") old new → (state_in old (keyspace_folder 0)).now ≡ Folder → (state_in new (keyspace_folder 0)).now ≡ Folder
inner_still old new stays is =
    let apart : bytes_eq (keyspace_folder 0) (codes "keyspaces/0/current") ≡ false = ap (λ (n : Name). bytes_eq n (codes "keyspaces/0/current")) folder_zero in
    ap (λ (p : Place). p.now) (elsewhere (codes "keyspaces/0/current") old new (keyspace_folder 0) apart stays) ∙ is

pub current_filled : (new : DiskState) (text : List ℕ) → text ≡ first_text → (new (codes "keyspaces/0/current")).now ≡ File text [] → (new (current_name 0)).now ≡ File first_text []
current_filled new text is at = ap (λ (n : Name). (new n).now) current_zero ∙ at ∙ ap (λ (l : List ℕ). File l []) is
