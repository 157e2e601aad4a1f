-- The names that a home rests on.
use Rattle.std.proofs.Common.{◌≡◌, ◌≢◌, inl, inr, ℕ, ◌<◌, ◌^◌, Bool, true, false, ◌||◌, ◌==◌, List, [], ◌++◌, length, codes, decimal, get_or, refl, sym, ◌∙◌, ap, arith}
use Rattle.std.specs.Str.{bytes_eq}
use Rattle.std.specs.Str.Parse.{AllDigits, digits_value}
use Rattle.std.specs.List.{list_any}
use Rattle.std.proofs.lemmas.Bool.Decides.{nat_tests}
use Rattle.std.proofs.lemmas.Fmt.{decimal_injective, digits_decimal}
use Rattle.std.proofs.lemmas.List.{append_cancel_left, append_cancel_right, get_or_default}
use Rattle.std.proofs.lemmas.List.Folds.{list_any-append, list_any_none}
use Rattle.std.proofs.lemmas.Str.Parse.{IsNumeralModel, numerals_by_value, tells_digits, not_in_digits}
use Rattle.fjall_base.specs.Disk.{Name, folder_of}
use Rattle.fjall_base.proofs.Names.{bool_cases}
use Rattle.fjall_base.proofs.States.{differs}
use Rattle.fjall_files.specs.Names.{keyspace_folder, current_name, table_name}
use Rattle.fjall_files.specs.Regions.{is_under}
use Rattle.fjall_files.proofs.Fitting.{table_parts, folder_of-table}
use Rattle.fjall_files.proofs.Under.{IsPlain, folder_is_shorter, join_name, shorter_out, under_front, under_inner, under_join, under_same, under_self}
use Rattle.fjall_manifest.specs.Homes.{is_counted}

pub some_folder : (id : ℕ) → keyspace_folder id ≡ [] → ⊥
some_folder id is = cc

-- ---- tables

abbrev file_of : ℕ → Name
file_of n = decimal n ++ codes ".table"

pub tables_apart : (id n m : ℕ) → n < 2 ^ 64 → m < 2 ^ 64 → table_name id n ≡ table_name id m → n ≡ m
tables_apart id n m small small' e =
    let files = join_name (keyspace_folder id) (file_of n) (file_of m) (sym (table_parts id n) ∙ e ∙ table_parts id m) in
    decimal_injective n m small small' (append_cancel_right (decimal n) (decimal m) (codes ".table") files)

abbrev dot : ℕ → Bool
dot b = b == 46

or_true : (b : Bool) → (b || true) ≡ true
or_true true = refl
or_true false = refl

-- no table is the file of the records
pub no_current : (id n : ℕ) → table_name id n ≡ current_name id → ⊥
no_current id n e =
    let files : file_of n ≡ codes "current" = join_name (keyspace_folder id) (file_of n) (codes "current") (sym (table_parts id n) ∙ e) in
    let some : list_any dot (file_of n) ≡ true = list_any-append dot (decimal n) (codes ".table") ∙ or_true (list_any dot (decimal n)) in
    let no : true ≡ false = sym some ∙ ap (λ (l : List ℕ). list_any dot l) files in
    cc

pub named : (id n : ℕ) → n < 2 ^ 64 → table_name id n ≡ [] → ⊥
named id n small is = let less = folder_is_shorter (keyspace_folder id) (table_name id n) (some_folder id) (folder_of-table id n small) in let none = ap length is in omega (arith, less, none)

-- ---- what lies under a file or a folder

-- a name beside a file doesn't lie under it
pub beside : (folder file q : Name) → (folder ≡ [] → ⊥) → folder_of file ≡ folder → folder_of q ≡ folder → q ≢ file → is_under file q ≡ false
beside folder file q some at at_q other = elim (bool_cases (is_under file q)) [
  | inl is ↦
      let inner : is_under file folder ≡ true = ap (λ (n : Name). is_under file n) (sym at_q) ∙ under_inner file q is other in
      let out : is_under file folder ≡ false = shorter_out file folder (folder_is_shorter folder file some at) in
      let no : true ≡ false = sym inner ∙ out in
      cc
  | inr out ↦ out
]

-- a table of another id
pub other_table : (id n m : ℕ) → n < 2 ^ 64 → m < 2 ^ 64 → m ≢ n → is_under (table_name id n) (table_name id m) ≡ false
other_table id n m small small' other =
    beside (keyspace_folder id) (table_name id n) (table_name id m) (some_folder id) (folder_of-table id n small) (folder_of-table id m small') (λ e. other (tables_apart id m n small' small e))

pub current_under : (id : ℕ) → is_under (keyspace_folder id) (current_name id) ≡ true
current_under id = under_join (keyspace_folder id) (codes "current")

pub table_under : (id n : ℕ) → is_under (keyspace_folder id) (table_name id n) ≡ true
table_under id n = ap (λ (q : Name). is_under (keyspace_folder id) q) (table_parts id n) ∙ under_join (keyspace_folder id) (file_of n)

-- ---- which names count

or_right : (a b : Bool) → b ≡ true → (a || b) ≡ true
or_right true b is = refl
or_right false b is = is

pub under_counts : (id : ℕ) (q : Name) → is_under (keyspace_folder id) q ≡ true → is_counted id q ≡ true
under_counts id q is = or_right (bytes_eq q (codes "keyspaces")) (is_under (keyspace_folder id) q) is

pub folder_counts : (id : ℕ) → is_counted id (keyspace_folder id) ≡ true
folder_counts id = under_counts id (keyspace_folder id) (under_self (keyspace_folder id))

pub current_counts : (id : ℕ) → is_counted id (current_name id) ≡ true
current_counts id = under_counts id (current_name id) (current_under id)

pub table_counts : (id n : ℕ) → is_counted id (table_name id n) ≡ true
table_counts id n = under_counts id (table_name id n) (table_under id n)

-- ---- two keyspaces

own : IsNumeralModel (AllDigits 10) (digits_value 10)
own = numerals_by_value (AllDigits 10) tells_digits

plain_decimal : (n : ℕ) → n < 2 ^ 64 → IsPlain (decimal n)
plain_decimal n small = list_any_none (λ b. b == 47) (decimal n) (λ k d lt.
    let other : get_or (decimal n) k 0 ≢ 47 = not_in_digits own (decimal n) 47 (digits_decimal own n small) (λ range. omega (arith, range)) k lt in
    let same : get_or (decimal n) k d ≡ get_or (decimal n) k 0 = get_or_default (decimal n) k d 0 lt in
    rw same (grind (arith, nat_tests)))

-- what lies under two keyspaces' folders
pub one_folder : (id other : ℕ) (q : Name) → id < 2 ^ 64 → other < 2 ^ 64 → is_under (keyspace_folder id) q ≡ true → is_under (keyspace_folder other) q ≡ true → id ≡ other
one_folder id other q small small' in_id in_other =
    let at_id = under_front (codes "keyspaces/") (decimal id) q in_id in
    let at_other = under_front (codes "keyspaces/") (decimal other) q in_other in
    let rest : at_other.0 ≡ at_id.0 = append_cancel_left (codes "keyspaces/") at_other.0 at_id.0 (sym at_other.1 ∙ at_id.1) in
    let in_other_too : is_under (decimal other) at_id.0 ≡ true = ap (λ (n : Name). is_under (decimal other) n) (sym rest) ∙ at_other.2 in
    decimal_injective id other small small' (under_same (decimal id) (decimal other) at_id.0 (plain_decimal id small) (plain_decimal other small') at_id.2 in_other_too)

-- what lies under one keyspace's folder is outside another's
pub other_folder : (id other : ℕ) (q : Name) → id < 2 ^ 64 → other < 2 ^ 64 → other ≢ id → is_under (keyspace_folder other) q ≡ true → is_under (keyspace_folder id) q ≡ false
other_folder id other q small small' differ in_other = elim (bool_cases (is_under (keyspace_folder id) q)) [
  | inl in_id ↦ absurd (differ (sym (one_folder id other q small small' in_id in_other)))
  | inr out ↦ out
]

or_both : (a b : Bool) → a ≡ false → b ≡ false → (a || b) ≡ false
or_both true b is is' = is
or_both false b is is' = is'

-- and that home doesn't rest on it
pub apart : (id other : ℕ) (q : Name) → id < 2 ^ 64 → other < 2 ^ 64 → id ≢ other → is_under (keyspace_folder id) q ≡ true → is_counted other q ≡ false
apart id other q small small' differ in_id = or_both (bytes_eq q (codes "keyspaces")) (is_under (keyspace_folder other) q) not_it (other_folder other id q small' small differ in_id)
  where
    not_it : bytes_eq q (codes "keyspaces") ≡ false
    not_it = differs q (codes "keyspaces") (λ e. let no : false ≡ true = sym (ap (λ (n : Name). is_under (keyspace_folder id) n) e) ∙ in_id in cc)
