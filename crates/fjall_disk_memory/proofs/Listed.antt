-- What a list of a folder's names has already.
use Rattle.std.proofs.Common.{◌≡◌, ◌≢◌, Bool, true, false, List, [], ◌∷◌, ◌++◌, AllPairs, Any, string_bytes, get_or}
use Rattle.std.specs.List.{list_any}
use Rattle.std.specs.Str.{bytes_eq}
use Rattle.std.proofs.lemmas.List.Folds.{Any-from_list_any, list_any_at}
use Rattle.std.proofs.lemmas.List.Quantifiers.{all_pairs_push}
use Rattle.fjall_base.specs.Disk.{Name}
use Rattle.fjall_base.specs.declared.disk.DirEntry.{DirEntry}
use Rattle.fjall_base.proofs.Names.{same, same_test}

abbrev pub has_name : Name → DirEntry → Bool
has_name q entry = bytes_eq (string_bytes entry.name) q

-- none has the name of an earlier one
abbrev pub Apart : List DirEntry → Type 0
Apart = AllPairs (λ first later. string_bytes first.name ≢ string_bytes later.name)

pub is_among : (q : Name) (listed : List DirEntry) → list_any (has_name q) listed ≡ true → Any (λ entry. string_bytes entry.name ≡ q) listed
is_among q listed found =
    let some = Any-from_list_any (has_name q) listed found in
    (some.0, some.1, some.2, some.3, same {q = string_bytes some.1.name} {r = q} some.4)

pub apart-push : (listed : List DirEntry) (q : Name) (new : DirEntry) → string_bytes new.name ≡ q → list_any (has_name q) listed ≡ false → Apart listed → Apart (listed ++ new ∷ [])
apart-push listed q new named none apart =
    all_pairs_push (λ (first later : DirEntry). string_bytes first.name ≢ string_bytes later.name) listed new apart (λ k d below equal.
    let is : has_name q (get_or listed k d) ≡ true = rw equal (rw named (same_test q)) in
    let found : list_any (has_name q) listed ≡ true = list_any_at (has_name q) listed k d below is in
    let bad : ⊥ = cc in bad)
