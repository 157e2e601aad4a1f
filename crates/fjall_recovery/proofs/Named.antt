-- Which names are in `keyspaces`, and which are not.
use Rattle.std.proofs.Common.{◌≡◌, ◌⊎◌, inl, inr, ℕ, ◌<◌, ◌^◌, Bool, true, false, ◌||◌, ◌==◌, List, [], ◌∷◌, ◌++◌, codes, decimal, refl, sym, ◌∙◌, ap}
use Rattle.std.specs.Prelude.{not}
use Rattle.std.specs.Str.{bytes_eq}
use Rattle.std.specs.List.{list_any}
use Rattle.std.proofs.lemmas.Bool.{true≢false}
use Rattle.std.proofs.lemmas.List.Folds.{list_any-append}
use Rattle.std.proofs.lemmas.Slice.Eq.{bytes_eq-Decides}
use Rattle.fjall_base.specs.Disk.{Name, folder_of}
use Rattle.fjall_base.proofs.Names.{bool_cases}
use Rattle.fjall_files.specs.Regions.{is_under}
use Rattle.fjall_files.proofs.Under.{in_folder, under_front, under_inner}
use Rattle.fjall_files.specs.Names.{IsMisnamed, journal_name, keyspace_folder, current_name}
use Rattle.fjall_manifest.specs.Homes.{is_counted}
use Rattle.fjall_recovery.proofs.Listed.{in_root}
use Rattle.fjall_recovery.specs.Halves.{is_of_keyspaces, is_of_root}

-- ---- in `keyspaces`

pub folder_within : (id : ℕ) → is_of_keyspaces (keyspace_folder id) ≡ true
folder_within id = refl

pub current_within : (id : ℕ) → is_of_keyspaces (current_name id) ≡ true
current_within id = refl

-- what is in a keyspace's folder
pub under_within : (id : ℕ) (q : Name) → is_under (keyspace_folder id) q ≡ true → is_of_keyspaces q ≡ true
under_within id q is =
    let parts = under_front (codes "keyspaces/") (decimal id) q is in
    ap (λ (n : Name). is_of_keyspaces n) parts.1

-- what stands in `keyspaces` itself
pub inside_within : (q : Name) → folder_of q ≡ codes "keyspaces" → is_of_keyspaces q ≡ true
inside_within q inside = in_folder (codes "keyspaces") q (λ none. cc) inside

-- what a home rests on
pub counted_within : (id : ℕ) (q : Name) → is_counted id q ≡ true → is_of_keyspaces q ≡ true
counted_within id q is = elim (bool_cases (bytes_eq q (codes "keyspaces"))) [
  | inl at ↦ ap (λ (n : Name). is_of_keyspaces n) ((bytes_eq-Decides q (codes "keyspaces")).0 at)
  | inr other ↦ under_within id q (rw other at is)
]

-- ---- in the root

pub root_region : (q : Name) → is_of_keyspaces q ≡ false → is_of_root q ≡ true
root_region q out = ap not out

-- the folder `keyspaces` is the one name of the root's that is not of it
pub root_cases : (q : Name) → folder_of q ≡ [] → (is_of_root q ≡ true) ⊎ (q ≡ codes "keyspaces")
root_cases q root = elim (bool_cases (is_of_keyspaces q)) [
  | inr out ↦ inl (root_region q out)
  | inl is ↦ elim (bool_cases (bytes_eq q (codes "keyspaces"))) [
    | inl at ↦ inr ((bytes_eq-Decides q (codes "keyspaces")).0 at)
    | inr other ↦
        let inner : is_under (codes "keyspaces") (folder_of q) ≡ true = under_inner (codes "keyspaces") q is (λ same. true≢false (sym ((bytes_eq-Decides q (codes "keyspaces")).1 same) ∙ other)) in
        absurd (true≢false (sym inner ∙ ap (λ (n : Name). is_under (codes "keyspaces") n) root))
  ]
]

abbrev dot : ℕ → Bool
dot b = b == 46

or_true : (b c : Bool) → c ≡ true → (b || c) ≡ true
or_true true c is = refl
or_true false c is = is

has_dot : (front behind : List ℕ) → list_any dot (front ++ 46 ∷ behind) ≡ true
has_dot front behind = list_any-append dot front (46 ∷ behind) ∙ or_true (list_any dot front) (list_any dot (46 ∷ behind)) refl

-- it has no dot
dotless : (front behind : List ℕ) → codes "keyspaces" ≡ front ++ 46 ∷ behind → ⊥
dotless front behind is = true≢false (sym (ap (λ (n : Name). list_any dot n) is ∙ has_dot front behind))

-- so it is named as no journal, nor nearly so
pub keyspaces_not_misnamed : IsMisnamed (codes "keyspaces") → ⊥
keyspaces_not_misnamed misnamed = let looks = misnamed.0 in dotless looks.1.stem looks.0 looks.1.parts

pub journal_within : (id : ℕ) → id < 2 ^ 64 → is_of_root (journal_name id) ≡ true
journal_within id small = elim (root_cases (journal_name id) (in_root id small)) [
  | inl is ↦ is
  | inr at ↦ absurd (dotless (decimal id) (codes "jnl") (sym at))
]
