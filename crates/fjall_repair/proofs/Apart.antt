-- Names in `keyspaces` that are not one.
use Rattle.std.proofs.Common.{◌≡◌, ℕ, ◌<◌, ◌^◌, true, ◌++◌, codes, decimal, refl, sym, ◌∙◌, ap}
use Rattle.std.proofs.lemmas.List.{append_cancel_left}
use Rattle.std.proofs.lemmas.Fmt.{decimal_injective}
use Rattle.fjall_base.specs.Disk.{Name, folder_of}
use Rattle.fjall_files.specs.Regions.{is_under}
use Rattle.fjall_files.specs.Names.{keyspace_folder, current_name, table_name}
use Rattle.fjall_manifest.proofs.Naming.{no_current, tables_apart}
pub use Rattle.fjall_files.proofs.Fitting.{folder_of-current as of_current, folder_of-folder as in_keyspaces, folder_of-table as in_folder}

pub folders_apart : (id other : ℕ) → id < 2 ^ 64 → other < 2 ^ 64 → keyspace_folder id ≡ keyspace_folder other → id ≡ other
folders_apart id other small small' e = decimal_injective id other small small' (append_cancel_left (codes "keyspaces/") (decimal id) (decimal other) e)

pub not_all : (id : ℕ) → codes "keyspaces" ≡ keyspace_folder id → ⊥
not_all id e = cc

-- ---- a table

pub not_current : (id other n : ℕ) → n < 2 ^ 64 → current_name other ≡ table_name id n → ⊥
not_current id other n small e =
    let folders : keyspace_folder other ≡ keyspace_folder id = sym (of_current other) ∙ ap (λ (m : Name). folder_of m) e ∙ in_folder id n small in
    no_current id n (sym e ∙ ap (λ (f : Name). f ++ codes "/current") folders)

pub same_table : (id n other m : ℕ) → id < 2 ^ 64 → n < 2 ^ 64 → other < 2 ^ 64 → m < 2 ^ 64 → table_name id n ≡ table_name other m → (id ≡ other) × (n ≡ m)
same_table id n other m small_id small_n small_other small_m e =
    let folders : keyspace_folder id ≡ keyspace_folder other = sym (in_folder id n small_n) ∙ ap (λ (q : Name). folder_of q) e ∙ in_folder other m small_m in
    let same : id ≡ other = folders_apart id other small_id small_other folders in
    (same, tables_apart id n m small_n small_m (e ∙ ap (λ (i : ℕ). table_name i m) (sym same)))

-- ---- under `keyspaces`

pub table_within : (id n : ℕ) → is_under (codes "keyspaces") (table_name id n) ≡ true
table_within id n = refl

pub home_within : (id : ℕ) → is_under (codes "keyspaces") (keyspace_folder id) ≡ true
home_within id = refl
