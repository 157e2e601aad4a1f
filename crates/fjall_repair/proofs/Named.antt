-- The names of what is made differ, and none is a table's.
use Rattle.std.proofs.Common.{◌≡◌, ◌≢◌, ℕ, ◌<◌, ◌^◌, Bool, true, false, ◌||◌, ◌==◌, [], ◌∷◌, ◌++◌, codes, decimal, refl, sym, ◌∙◌, ap, arith, lit<}
use Rattle.std.specs.List.{list_any}
use Rattle.std.proofs.lemmas.List.Folds.{list_any-append}
use Rattle.fjall_base.specs.Disk.{Name, folder_of}
use Rattle.fjall_files.specs.Names.{IsMisnamed, IsNameOf, journal_name, keyspace_folder, current_name, table_name}
use Rattle.fjall_files.proofs.Fitting.{folder_of-current, folder_of-journal as in_root}
use Rattle.fjall_manifest.proofs.Naming.{some_folder}
use Rattle.fjall_manifest.proofs.CatalogNaming.{current_zero, folder_zero}
use Rattle.fjall_repair.proofs.Moments.{IsNoTable}

abbrev dot : ℕ → Bool
dot b = b == 46

or_true : (b : Bool) → (b || true) ≡ true
or_true true = refl
or_true false = refl

-- ---- names with a dot, and without

journal_dot : (id : ℕ) → list_any dot (journal_name id) ≡ true
journal_dot id = list_any-append dot (decimal id) (codes ".jnl") ∙ or_true (list_any dot (decimal id))

table_dot : (id n : ℕ) → list_any dot (table_name id n) ≡ true
table_dot id n = let front = keyspace_folder id ++ codes "/" ++ decimal n in list_any-append dot front (codes ".table") ∙ or_true (list_any dot front)

by_dot : (a b : Name) → list_any dot a ≡ false → list_any dot b ≡ true → a ≡ b → ⊥
by_dot a b none some is = let no : false ≡ true = sym none ∙ ap (list_any dot) is ∙ some in cc

folder_dot : list_any dot (keyspace_folder 0) ≡ false
folder_dot = ap (list_any dot) folder_zero

current_dot : list_any dot (current_name 0) ≡ false
current_dot = ap (list_any dot) current_zero

pub marker_no_table : IsNoTable (codes "version")
marker_no_table id n small small' = by_dot (codes "version") (table_name id n) refl (table_dot id n)

pub keyspaces_no_table : IsNoTable (codes "keyspaces")
keyspaces_no_table id n small small' = by_dot (codes "keyspaces") (table_name id n) refl (table_dot id n)

pub folder_no_table : IsNoTable (keyspace_folder 0)
folder_no_table id n small small' = by_dot (keyspace_folder 0) (table_name id n) folder_dot (table_dot id n)

pub current_no_table : IsNoTable (current_name 0)
current_no_table id n small small' = by_dot (current_name 0) (table_name id n) current_dot (table_dot id n)

pub marker_no_journal : (id : ℕ) → codes "version" ≢ journal_name id
marker_no_journal id = by_dot (codes "version") (journal_name id) refl (journal_dot id)

pub keyspaces_no_journal : (id : ℕ) → codes "keyspaces" ≢ journal_name id
keyspaces_no_journal id = by_dot (codes "keyspaces") (journal_name id) refl (journal_dot id)

pub folder_no_journal : (id : ℕ) → keyspace_folder 0 ≢ journal_name id
folder_no_journal id = by_dot (keyspace_folder 0) (journal_name id) folder_dot (journal_dot id)

pub current_no_journal : (id : ℕ) → current_name 0 ≢ journal_name id
current_no_journal id = by_dot (current_name 0) (journal_name id) current_dot (journal_dot id)

dotted : (stem rest : Name) → list_any dot (stem ++ 46 ∷ rest) ≡ true
dotted stem rest = list_any-append dot stem (46 ∷ rest) ∙ or_true (list_any dot stem)

-- the marker isn't named like a journal
pub marker_no_misnomer : IsMisnamed (codes "version") → ⊥
marker_no_misnomer misnamed =
    let has = misnamed.0.1 in
    by_dot (codes "version") (has.stem ++ 46 ∷ misnamed.0.0) refl (dotted has.stem misnamed.0.0) has.parts

-- ---- journals

abbrev first_byte : Name → ℕ
first_byte [] = 0
first_byte (c ∷ cs) = c

table_inside : (id n : ℕ) → folder_of (table_name id n) ≡ [] → ⊥
table_inside id n is = let no : first_byte (folder_of (table_name id n)) ≡ 0 = ap (λ (l : Name). first_byte l) is in omega (arith, no)

pub journal_no_table : (id : ℕ) → id < 2 ^ 64 → IsNoTable (journal_name id)
journal_no_table id small other n small' small2 is = table_inside other n (sym (ap (λ (m : Name). folder_of m) is) ∙ in_root id small)

-- ---- the marker and the others

pub current_inside : folder_of (current_name 0) ≡ [] → ⊥
current_inside is = some_folder 0 (sym (folder_of-current 0) ∙ is)

pub current_no_marker : current_name 0 ≢ codes "version"
current_no_marker is = current_inside (ap (λ (n : Name). folder_of n) is)

pub named_zero : (id : ℕ) × IsNameOf keyspace_folder (keyspace_folder 0) id
named_zero = (0, (lit< tt, refl))
