-- Names that are joined, and which of them lie under a folder.
use Rattle.std.proofs.Common.{◌≡◌, ◌≢◌, ◌<◌, inl, inr, ℕ, Bool, length, true, false, [], ◌∷◌, ◌++◌, refl, sym, ◌∙◌, ap, arith, ◌==◌}
use Rattle.std.specs.List.{list_any}
use Rattle.std.proofs.lemmas.List.{append_cancel_left}
use Rattle.std.proofs.lemmas.Bool.Decides.{nat_tests}
use Rattle.fjall_base.specs.Disk.{Name, folder_of}
use Rattle.fjall_files.specs.Regions.{join, is_under}
use Rattle.fjall_base.proofs.Names.{bool_cases}

abbrev pub slash : ℕ → Bool
slash b = b == 47

-- a name without a slash
abbrev pub IsPlain : Name → Type 0
IsPlain name = list_any slash name ≡ false

slash_inside : (xs ys : Name) → list_any slash (xs ++ 47 ∷ ys) ≡ true
slash_inside [] ys = refl
slash_inside (x ∷ xs) ys = elim (bool_cases (slash x)) [ inl is ↦ rw is refl | inr not ↦ rw not (slash_inside xs ys) ]

pub folder_of-plain : (name : Name) → IsPlain name → folder_of name ≡ []
folder_of-plain [] plain = refl
folder_of-plain (c ∷ cs) plain = elim (bool_cases (list_any slash cs)) [
  | inl some ↦ elim (bool_cases (slash c)) [
    | inl is ↦ let no : true ≡ false = rw is at plain in cc
    | inr not ↦ let no : list_any slash cs ≡ false = rw not at plain in cc
  ]
  | inr none ↦ rw none refl
]

pub folder_of-join : (folder name : Name) → IsPlain name → folder_of (join folder name) ≡ folder
folder_of-join [] name plain = rw plain refl
folder_of-join (f ∷ fs) name plain = rw (slash_inside fs name) (ap (λ (l : Name). f ∷ l) (folder_of-join fs name plain))

tail_of : Name → Name
tail_of [] = []
tail_of (c ∷ cs) = cs

pub join_name : (a x y : Name) → join a x ≡ join a y → x ≡ y
unfolding tail_of
join_name a x y is = ap (λ (n : Name). tail_of n) (append_cancel_left a (47 ∷ x) (47 ∷ y) is)

-- a folder lies under itself, and what is in a folder that lies there does
pub under_self : (folder : Name) → is_under folder folder ≡ true
under_self [] = refl
under_self (f ∷ fs) = let at : (f == f) ≡ true = grind (arith, nat_tests) in rw at (under_self fs)

pub under_join : (folder name : Name) → is_under folder (join folder name) ≡ true
under_join [] name = refl
under_join (f ∷ fs) name = let at : (f == f) ≡ true = grind (arith, nat_tests) in rw at (under_join fs name)

-- what is in a folder that lies there lies there
deep : (folder q : Name) → list_any slash q ≡ true → is_under folder (folder_of q) ≡ true → is_under folder q ≡ true
deep folder [] some is = let no : false ≡ true = some in cc
deep [] (c ∷ cs) some is = elim (bool_cases (list_any slash cs)) [
  | inl more ↦ rw more at is
  | inr none ↦ elim (bool_cases (slash c)) [ inl at ↦ at | inr not ↦ let no : list_any slash cs ≡ true = rw not at some in cc ]
]
deep (f ∷ fs) (c ∷ cs) some is = elim (bool_cases (list_any slash cs)) [
  | inl more ↦
      let inner : is_under (f ∷ fs) (c ∷ folder_of cs) ≡ true = rw more at is in
      elim (bool_cases (f == c)) [
        | inl at ↦ let rest : is_under fs (folder_of cs) ≡ true = rw at at inner in rw at (deep fs cs more rest)
        | inr not ↦ let no : false ≡ true = rw not at inner in cc
      ]
  | inr none ↦ let no : false ≡ true = rw none at is in cc
]

pub under_parent : (folder q : Name) → (folder ≡ [] → ⊥) → is_under folder (folder_of q) ≡ true → is_under folder q ≡ true
under_parent [] q some is = absurd (some refl)
under_parent (f ∷ fs) q some is = elim (bool_cases (list_any slash q)) [
  | inl has ↦ deep (f ∷ fs) q has is
  | inr none ↦ let no : false ≡ true = ap (λ (n : Name). is_under (f ∷ fs) n) (sym (folder_of-plain q none)) ∙ is in cc
]

-- and each name there but the folder itself is in such a folder
has_slash : (folder q : Name) → is_under folder q ≡ true → q ≢ folder → list_any slash q ≡ true
has_slash [] [] is not = absurd (not refl)
has_slash [] (c ∷ cs) is not = rw is refl
has_slash (f ∷ fs) [] is not = let no : false ≡ true = is in cc
has_slash (f ∷ fs) (c ∷ cs) is not = elim (bool_cases (f == c)) [
  | inl at ↦
      let rest : is_under fs cs ≡ true = rw at at is in
      let equal : f ≡ c = grind (arith, nat_tests) in
      let more : list_any slash cs ≡ true = has_slash fs cs rest (λ e. not (ap (λ (l : Name). c ∷ l) e ∙ ap (λ (x : ℕ). x ∷ fs) (sym equal))) in
      elim (bool_cases (slash c)) [ inl is_slash ↦ rw is_slash refl | inr no_slash ↦ rw no_slash more ]
  | inr other ↦ let no : false ≡ true = rw other at is in cc
]

pub under_inner : (folder q : Name) → is_under folder q ≡ true → q ≢ folder → is_under folder (folder_of q) ≡ true
under_inner [] [] is not = absurd (not refl)
under_inner [] (c ∷ cs) is not = elim (bool_cases (list_any slash cs)) [ inl some ↦ rw some is | inr none ↦ rw none refl ]
under_inner (f ∷ fs) [] is not = let no : false ≡ true = is in cc
under_inner (f ∷ fs) (c ∷ cs) is not = elim (bool_cases (f == c)) [
  | inl at ↦
      let rest : is_under fs cs ≡ true = rw at at is in
      let equal : f ≡ c = grind (arith, nat_tests) in
      let other : cs ≢ fs = λ e. not (ap (λ (l : Name). c ∷ l) e ∙ ap (λ (x : ℕ). x ∷ fs) (sym equal)) in
      rw (has_slash fs cs rest other, at) (under_inner fs cs rest other)
  | inr differ ↦ let no : false ≡ true = rw differ at is in cc
]

under_cons : (f : ℕ) (fs : Name) (c : ℕ) (cs : Name) → is_under (f ∷ fs) (c ∷ cs) ≡ true → (f ≡ c) × (is_under fs cs ≡ true)
under_cons f fs c cs is = elim (bool_cases (f == c)) [
  | inl at ↦ (grind (arith, nat_tests), rw at at is)
  | inr not ↦ let no : false ≡ true = rw not at is in cc
]

plain_rest : (x : ℕ) (xs : Name) → IsPlain (x ∷ xs) → IsPlain xs
plain_rest x xs plain = elim (bool_cases (slash x)) [ inl is ↦ let no : true ≡ false = rw is at plain in cc | inr not ↦ rw not at plain ]

no_slash : (y : ℕ) (ys : Name) (c : ℕ) (cs : Name) → IsPlain (y ∷ ys) → is_under (y ∷ ys) (c ∷ cs) ≡ true → slash c ≡ true → ⊥
no_slash y ys c cs plain is at =
    let head : y ≡ c = (under_cons y ys c cs is).0 in
    let at_y : slash y ≡ true = ap (λ (n : ℕ). slash n) head ∙ at in
    let no : true ≡ false = rw at_y at plain in cc

-- what lies under two plain names has one of them
pub under_same : (xs ys q : Name) → IsPlain xs → IsPlain ys → is_under xs q ≡ true → is_under ys q ≡ true → xs ≡ ys
under_same [] [] q plain_x plain_y is_x is_y = refl
under_same [] (y ∷ ys) [] plain_x plain_y is_x is_y = let no : false ≡ true = is_y in cc
under_same [] (y ∷ ys) (c ∷ cs) plain_x plain_y is_x is_y = absurd (no_slash y ys c cs plain_y is_y is_x)
under_same (x ∷ xs) [] [] plain_x plain_y is_x is_y = let no : false ≡ true = is_x in cc
under_same (x ∷ xs) [] (c ∷ cs) plain_x plain_y is_x is_y = absurd (no_slash x xs c cs plain_x is_x is_y)
under_same (x ∷ xs) (y ∷ ys) [] plain_x plain_y is_x is_y = let no : false ≡ true = is_x in cc
under_same (x ∷ xs) (y ∷ ys) (c ∷ cs) plain_x plain_y is_x is_y =
    let at_x = under_cons x xs c cs is_x in
    let at_y = under_cons y ys c cs is_y in
    ap (λ (n : ℕ). n ∷ xs) (at_x.0 ∙ sym at_y.0) ∙ ap (λ (l : Name). y ∷ l) (under_same xs ys cs (plain_rest x xs plain_x) (plain_rest y ys plain_y) at_x.1 at_y.1)

-- under a name with a front lies only what has that front
pub under_front : (front xs q : Name) → is_under (front ++ xs) q ≡ true → (r : Name) × (q ≡ front ++ r) × (is_under xs r ≡ true)
under_front [] xs q is = (q, refl, is)
under_front (f ∷ fs) xs [] is = let no : false ≡ true = is in cc
under_front (f ∷ fs) xs (c ∷ cs) is =
    let at = under_cons f (fs ++ xs) c cs is in
    let rest = under_front fs xs cs at.1 in
    (rest.0, ap (λ (n : ℕ). n ∷ cs) (sym at.0) ∙ ap (λ (l : Name). f ∷ l) rest.1, rest.2)

-- a name that is in a folder other than the root lies under it
pub in_folder : (folder q : Name) → (folder ≡ [] → ⊥) → folder_of q ≡ folder → is_under folder q ≡ true
in_folder folder q some is = under_parent folder q some (ap (λ (n : Name). is_under folder n) is ∙ under_self folder)

shorter : (c : ℕ) (cs : Name) → length (folder_of (c ∷ cs)) < length (c ∷ cs)
shorter c [] = omega arith
shorter c (d ∷ ds) = elim (bool_cases (list_any slash (d ∷ ds))) [ inl some ↦ let less = shorter d ds in rw some (omega arith) | inr none ↦ rw none (omega arith) ]

-- the folder that a name is in has a shorter one
pub folder_is_shorter : (folder q : Name) → (folder ≡ [] → ⊥) → folder_of q ≡ folder → length folder < length q
folder_is_shorter folder [] some is = absurd (some (sym is))
folder_is_shorter folder (c ∷ cs) some is = let count = ap length is in let less = shorter c cs in omega (arith, count, less)

pub not_its_folder : (folder q : Name) → (folder ≡ [] → ⊥) → folder_of q ≡ folder → q ≢ folder
not_its_folder folder q some is same = let less = folder_is_shorter folder q some is in let count = ap length same in omega (arith, less, count)

-- under a name lies no shorter one
pub shorter_out : (name q : Name) → length q < length name → is_under name q ≡ false
shorter_out [] q less = absurd (omega (arith, less))
shorter_out (f ∷ fs) [] less = refl
shorter_out (f ∷ fs) (c ∷ cs) less = elim (bool_cases (f == c)) [ inl at ↦ rw at (shorter_out fs cs (omega (arith, less))) | inr not ↦ rw not refl ]
