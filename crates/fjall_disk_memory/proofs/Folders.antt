-- The folder of a name, and a sync of the names in one.
use Rattle.std.proofs.Common.{◌≡◌, inl, inr, ℕ, suc, ◌<◌, Bool, true, false, ◌||◌, List, [], ◌∷◌, ◌++◌, get_or, length, refl, sym, ◌∙◌, ap, arith, if◌then◌else◌, string_bytes, ◌==◌}
use Rattle.std.specs.Str.{bytes_eq}
use Rattle.std.specs.List.{list_any}
use Rattle.std.proofs.lemmas.List.Folds.{list_any-append}
use Rattle.fjall_base.specs.Disk.{Name, folder_of, settle, settled}
use Rattle.fjall_disk_memory.specs.declared.node.Named.{Named}
use Rattle.fjall_disk_memory.specs.Memory.{place_of, state_of}
use Rattle.fjall_base.proofs.Names.{bool_cases, same}

abbrev pub slash : ℕ → Bool
slash b = b == 47

-- one byte more
pub folder_of-push : (name : Name) (c : ℕ) → folder_of (name ++ c ∷ []) ≡ (if slash c then name else folder_of name)
folder_of-push [] c = elim (bool_cases (slash c)) [ inl is ↦ rw is refl | inr not ↦ rw not refl ]
folder_of-push (x ∷ xs) c =
    let rest = folder_of-push xs c in
    let parts : list_any slash (xs ++ c ∷ []) ≡ (list_any slash xs || list_any slash (c ∷ [])) = list_any-append slash xs (c ∷ []) in
    elim (bool_cases (slash c)) [
      | inl is_slash ↦
          let some : list_any slash (xs ++ c ∷ []) ≡ true = rw is_slash at parts ∙ any_true (list_any slash xs) in
          let front : folder_of (xs ++ c ∷ []) ≡ xs = rw is_slash at rest in
          rw (some, is_slash, front) refl
      | inr not_slash ↦
          let equal : list_any slash (xs ++ c ∷ []) ≡ list_any slash xs = rw not_slash at parts ∙ any_false (list_any slash xs) in
          let front : folder_of (xs ++ c ∷ []) ≡ folder_of xs = rw not_slash at rest in
          rw (equal, not_slash, front) refl
    ]
  where
    any_true : (b : Bool) → (b || true) ≡ true
    any_true true = refl
    any_true false = refl

    any_false : (b : Bool) → (b || false) ≡ b
    any_false true = refl
    any_false false = refl

-- each entry is synced
pub state_settled : (old new : List Named) (folder : Name) → length old ≡ length new
    → ((k : ℕ) (d : Named) → k < length old → string_bytes (get_or new k d).name ≡ string_bytes (get_or old k d).name)
    → ((k : ℕ) (d : Named) → k < length old → place_of (get_or new k d) ≡ settled folder (string_bytes (get_or old k d).name) (place_of (get_or old k d)))
    → (q : Name) → state_of new q ≡ settled folder q (state_of old q)
state_settled [] [] folder long names places q = elim (bool_cases (bytes_eq (folder_of q) folder)) [ inl is ↦ rw is refl | inr not ↦ rw not refl ]
state_settled [] (y ∷ ys) folder long names places q = absurd (omega arith)
state_settled (x ∷ xs) [] folder long names places q = absurd (omega arith)
state_settled (x ∷ xs) (y ∷ ys) folder long names places q =
    let rest = state_settled xs ys folder (omega arith) (λ k d below. names (suc k) d (omega arith)) (λ k d below. places (suc k) d (omega arith)) q in
    let name_same : string_bytes y.name ≡ string_bytes x.name = names 0 x (omega arith) in
    let place_is : place_of y ≡ settled folder (string_bytes x.name) (place_of x) = places 0 x (omega arith) in
    elim (bool_cases (bytes_eq q (string_bytes x.name))) [
      | inl at_x ↦
          let at_y : bytes_eq q (string_bytes y.name) ≡ true = rw name_same at_x in
          rw (at_y, at_x) (place_is ∙ ap (λ (n : Name). settled folder n (place_of x)) {x = string_bytes x.name} {y = q} (sym (same {q = q} {r = string_bytes x.name} at_x)))
      | inr not_x ↦
          let not_y : bytes_eq q (string_bytes y.name) ≡ false = rw name_same not_x in
          rw (not_y, not_x) rest
    ]

pub settle_names : (old new : List Named) (folder : Name) → length old ≡ length new
    → ((k : ℕ) (d : Named) → k < length old → string_bytes (get_or new k d).name ≡ string_bytes (get_or old k d).name)
    → ((k : ℕ) (d : Named) → k < length old → place_of (get_or new k d) ≡ settled folder (string_bytes (get_or old k d).name) (place_of (get_or old k d)))
    → state_of new ≡ settle (state_of old) folder
unfolding settle
settle_names old new folder long names places = let each = state_settled old new folder long names places in λ j q. each q j
