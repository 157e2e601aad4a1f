-- Which names differ, and which folders they are in.
use Rattle.std.proofs.Common.{◌≡◌, ◌≢◌, ◌⊎◌, inl, inr, ℕ, ◌<◌, ◌^◌, true, false, List, [], ◌∷◌, ◌++◌, Some, codes, decimal, sym, ◌∙◌, ap, arith, append_assoc}
use Rattle.std.proofs.lemmas.List.{append_cancel_right}
use Rattle.std.proofs.lemmas.Fmt.{decimal_injective}
use Rattle.std.specs.Str.{bytes_eq}
use Rattle.std.proofs.lemmas.Slice.Eq.{bytes_eq-Decides}
use Rattle.fjall_base.specs.Disk.{Name}
use Rattle.fjall_base.proofs.Lists.{last_behind}
use Rattle.fjall_base.specs.Lists.{last_of}
use Rattle.fjall_base.proofs.Names.{bool_cases}
use Rattle.fjall_files.specs.Names.{journal_name, keyspace_folder, current_name, table_name}
pub use Rattle.fjall_files.proofs.Fitting.{folder_of-journal, folder_of-folder, folder_of-current, folder_of-table}

-- ---- names by their last byte

ends_alike : (xs ys : List ℕ) (a b : ℕ) → xs ++ a ∷ [] ≡ ys ++ b ∷ [] → a ≡ b
ends_alike xs ys a b is = let both : Some a ≡ Some b = sym (last_behind xs a) ∙ ap last_of is ∙ last_behind ys b in cc

-- what stands before the last byte of each
abbrev journal_front : ℕ → Name
journal_front id = decimal id ++ codes ".jn"

abbrev current_front : ℕ → Name
current_front id = keyspace_folder id ++ codes "/curren"

abbrev table_front : ℕ → ℕ → Name
table_front id n = ((keyspace_folder id ++ codes "/") ++ decimal n) ++ codes ".tabl"

journal_end : (id : ℕ) → journal_name id ≡ journal_front id ++ codes "l"
journal_end id = sym (append_assoc (decimal id) (codes ".jn") (codes "l"))

current_end : (id : ℕ) → current_name id ≡ current_front id ++ codes "t"
current_end id = sym (append_assoc (keyspace_folder id) (codes "/curren") (codes "t"))

table_end : (id n : ℕ) → table_name id n ≡ table_front id n ++ codes "e"
table_end id n = sym (append_assoc ((keyspace_folder id ++ codes "/") ++ decimal n) (codes ".tabl") (codes "e"))

pub journal_current : (id other : ℕ) → journal_name id ≢ current_name other
journal_current id other is = let no = ends_alike (journal_front id) (current_front other) 108 116 (sym (journal_end id) ∙ is ∙ current_end other) in omega (arith, no)

pub journal_table : (id other n : ℕ) → journal_name id ≢ table_name other n
journal_table id other n is = let no = ends_alike (journal_front id) (table_front other n) 108 101 (sym (journal_end id) ∙ is ∙ table_end other n) in omega (arith, no)

pub current_table : (id other n : ℕ) → current_name id ≢ table_name other n
current_table id other n is = let no = ends_alike (current_front id) (table_front other n) 116 101 (sym (current_end id) ∙ is ∙ table_end other n) in omega (arith, no)

pub marker_journal : (id : ℕ) → codes "version" ≢ journal_name id
marker_journal id is = let no = ends_alike (codes "versio") (journal_front id) 110 108 (is ∙ journal_end id) in omega (arith, no)

pub marker_current : (id : ℕ) → codes "version" ≢ current_name id
marker_current id is = let no = ends_alike (codes "versio") (current_front id) 110 116 (is ∙ current_end id) in omega (arith, no)

pub marker_table : (id n : ℕ) → codes "version" ≢ table_name id n
marker_table id n is = let no = ends_alike (codes "versio") (table_front id n) 110 101 (is ∙ table_end id n) in omega (arith, no)

pub journals_apart : (id other : ℕ) → id < 2 ^ 64 → other < 2 ^ 64 → journal_name id ≡ journal_name other → id ≡ other
journals_apart id other small small' is = decimal_injective id other small small' (append_cancel_right (decimal id) (decimal other) (codes ".jnl") is)

-- ---- one name or another

pub same_or_not : (q r : Name) → (q ≡ r) ⊎ (q ≢ r)
same_or_not q r = elim (bool_cases (bytes_eq q r)) [
  | inl is ↦ inl ((bytes_eq-Decides q r).0 is)
  | inr not ↦ inr (λ same. let yes = (bytes_eq-Decides q r).1 same in let no : true ≡ false = sym yes ∙ not in cc)
]
