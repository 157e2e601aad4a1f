-- What may stand at the names of what is kept.
use Rattle.std.proofs.Common.{◌≡◌, ◌≢◌, inl, inr, ℕ, ◌<◌, ◌^◌, Bool, false, ◌||◌, List, [], ◌∷◌, ◌++◌, get_or, codes, decimal, refl, sym, ◌∙◌, ap, subst, arith, append_assoc}
use Rattle.std.specs.List.{list_any}
use Rattle.std.proofs.lemmas.List.{get_or_default}
use Rattle.std.proofs.lemmas.List.Folds.{list_any-append, list_any_none}
use Rattle.std.proofs.lemmas.Bool.Decides.{nat_tests}
use Rattle.std.proofs.lemmas.Fmt.{digits_decimal}
use Rattle.std.specs.Str.Parse.{AllDigits, digits_value}
use Rattle.std.proofs.lemmas.Str.Parse.{IsNumeralModel, numerals_by_value, tells_digits, not_in_digits}
use Rattle.fjall_base.specs.Disk.{Name, DiskEntry, File, Folder, IsNoFile, IsNoFolder, DiskState, folder_of}
use Rattle.fjall_files.specs.Names.{HasIds, KeptName, AllKeyspaces, Current, Journal, Keyspace, Table, Version, current_name, journal_name, keyspace_folder, name_of, table_name}
use Rattle.fjall_files.specs.Tidy.{FitsAt, IsOfKind, IsTidy}
use Rattle.fjall_files.proofs.Distinct.{kept}
use Rattle.fjall_files.specs.Regions.{join}
use Rattle.fjall_files.proofs.Under.{IsPlain, folder_of-join, folder_of-plain, slash}

-- ---- folders

own : IsNumeralModel (AllDigits 10) (digits_value 10)
own = numerals_by_value (AllDigits 10) tells_digits

plain_decimal : (n : ℕ) → n < 2 ^ 64 → list_any slash (decimal n) ≡ false
plain_decimal n small = list_any_none slash (decimal n) (λ k d lt.
    let other : get_or (decimal n) k 0 ≢ 47 = not_in_digits own (decimal n) 47 (digits_decimal own n small) (λ range. omega (arith, range)) k lt in
    let same : get_or (decimal n) k d ≡ get_or (decimal n) k 0 = get_or_default (decimal n) k d 0 lt in
    rw same (grind (arith, nat_tests)))

plain_with : (n : ℕ) (rest : List ℕ) → n < 2 ^ 64 → IsPlain rest → IsPlain (decimal n ++ rest)
plain_with n rest small plain = list_any-append slash (decimal n) rest ∙ ap (λ (b : Bool). b || list_any slash rest) (plain_decimal n small) ∙ plain

-- journals stand in the root
pub folder_of-journal : (id : ℕ) → id < 2 ^ 64 → folder_of (journal_name id) ≡ []
folder_of-journal id small = folder_of-plain (journal_name id) (plain_with id (codes ".jnl") small refl)

-- a keyspace's folder stands in that of all keyspaces
pub folder_of-folder : (id : ℕ) → id < 2 ^ 64 → folder_of (keyspace_folder id) ≡ codes "keyspaces"
folder_of-folder id small = folder_of-join (codes "keyspaces") (decimal id) (plain_decimal id small)

-- a keyspace's records and tables stand in its folder
pub folder_of-current : (id : ℕ) → folder_of (current_name id) ≡ keyspace_folder id
folder_of-current id = folder_of-join (keyspace_folder id) (codes "current") refl

-- a table's name is its file's in the folder of its keyspace
pub table_parts : (id n : ℕ) → table_name id n ≡ join (keyspace_folder id) (decimal n ++ codes ".table")
table_parts id n = append_assoc (keyspace_folder id ++ codes "/") (decimal n) (codes ".table") ∙ append_assoc (keyspace_folder id) (codes "/") (decimal n ++ codes ".table")

pub folder_of-table : (id n : ℕ) → n < 2 ^ 64 → folder_of (table_name id n) ≡ keyspace_folder id
folder_of-table id n small = ap (λ (m : Name). folder_of m) (table_parts id n) ∙ folder_of-join (keyspace_folder id) (decimal n ++ codes ".table") (plain_with n (codes ".table") small refl)

-- ---- what fits

-- of one kind alone
of_kept : (one : KeptName) (entry : DiskEntry) → HasIds one → IsOfKind one entry → (other : KeptName) → HasIds other → name_of one ≡ name_of other → IsOfKind other entry
of_kept one entry ids is other ids' same = subst (λ (k : KeptName). IsOfKind k entry) (kept one other ids ids' same) is

no_home : (id : ℕ) → [] ≡ keyspace_folder id → ⊥
no_home id is = let no : [] ≡ 107 ∷ (codes "eyspaces/" ++ decimal id) = is in cc

-- no keyspace's folder is that of all keyspaces
pub not_all : (id : ℕ) → codes "keyspaces" ≡ keyspace_folder id → ⊥
not_all id is = longer (decimal id) is
  where
    longer : (rest : List ℕ) → codes "keyspaces" ≡ codes "keyspaces/" ++ rest → ⊥
    longer rest same = let no : [] ≡ 47 ∷ rest = cc in cc

-- the marker is a file
pub fits_version : (s u : List ℕ) → FitsAt (codes "version") (File s u)
fits_version s u = record { kind = of_kept Version (File s u) tt tt; home = λ id some small inside there. absurd (no_home id inside) }

-- a journal is a file
pub fits_journal : (id : ℕ) → id < 2 ^ 64 → (s u : List ℕ) → FitsAt (journal_name id) (File s u)
fits_journal id small s u = record { kind = of_kept (Journal id) (File s u) small tt; home = λ other some small' inside there. absurd (no_home other (sym (folder_of-journal id small) ∙ inside)) }

-- that of all keyspaces is a folder
pub fits_keyspaces : FitsAt (codes "keyspaces") Folder
fits_keyspaces = record { kind = of_kept AllKeyspaces Folder tt tt; home = λ id some small inside there. absurd (no_home id inside) }

-- that of a keyspace is a folder
pub fits_folder : (id : ℕ) → id < 2 ^ 64 → FitsAt (keyspace_folder id) Folder
fits_folder id small = record { kind = of_kept (Keyspace id) Folder small tt; home = λ other some small' inside there. absurd (not_all other (sym (folder_of-folder id small) ∙ inside)) }

-- a keyspace's records are a file
pub fits_current : (id : ℕ) → id < 2 ^ 64 → (s u : List ℕ) → FitsAt (current_name id) (File s u)
fits_current id small s u = record {
  kind = of_kept (Current id) (File s u) small tt;
  home = λ other some small' inside there.
      let both : Keyspace id ≡ Keyspace other = kept (Keyspace id) (Keyspace other) small small' (sym (folder_of-current id) ∙ inside) in
      let is : id ≡ other = cc in inl (ap current_name is);
}

-- a table is a file
pub fits_table : (id n : ℕ) → id < 2 ^ 64 → n < 2 ^ 64 → (s u : List ℕ) → FitsAt (table_name id n) (File s u)
fits_table id n fits small s u = record {
  kind = of_kept (Table id n) (File s u) (fits, small) tt;
  home = λ other some small' inside there.
      let both : Keyspace id ≡ Keyspace other = kept (Keyspace id) (Keyspace other) fits small' (sym (folder_of-table id n small) ∙ inside) in
      let is : id ≡ other = cc in inr (n, (small, ap (λ (i : ℕ). table_name i n) is));
}

-- ---- what stands where only what fits does

-- a keyspace's folder is none of a file's, and the file of its records none of a folder's
pub folder_kind : (state : DiskState) (id : ℕ) → id < 2 ^ 64 → IsTidy state → IsNoFile (state (keyspace_folder id)).now
folder_kind state id small tidy = (tidy (keyspace_folder id)).0.kind (Keyspace id) small refl

pub current_kind : (state : DiskState) (id : ℕ) → id < 2 ^ 64 → IsTidy state → IsNoFolder (state (current_name id)).now
current_kind state id small tidy = (tidy (current_name id)).0.kind (Current id) small refl
