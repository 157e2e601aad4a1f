-- Texts one behind the other, none of which begins another.
use Rattle.std.proofs.Common.{◌≡◌, ℕ, ◌<◌, List, [], ◌∷◌, ◌++◌, length, refl, sym, ap, ◌∙◌, arith}
use Rattle.std.specs.List.{flat_map, AllByRecursion}
use Rattle.std.proofs.lemmas.List.{length-append}
use Rattle.std.proofs.lemmas.List.Concat.{flat_map-cons}
use Rattle.fjall_base.proofs.Codecs.{first_of}

-- no text begins another, and each has a byte
pub record Apart {A : Type 0} (text : A → List ℕ) (Is : A → Type 0) : Type 0 where
  pub one : (a b : A) (x y : List ℕ) → Is a → Is b → text a ++ x ≡ text b ++ y → (a ≡ b) × (x ≡ y)
  pub some : (a : A) → 0 < length (text a)

-- no item stands at the front
abbrev pub NoItem : {A : Type 0} → (A → List ℕ) → (A → Type 0) → List ℕ → Type 0
NoItem {A} text Is bytes = (a : A) (more : List ℕ) → Is a → bytes ≡ text a ++ more → ⊥

pub same_lists : {A : Type 0} (text : A → List ℕ) (Is : A → Type 0) → Apart text Is → (xs ys : List A) (x y : List ℕ) → AllByRecursion Is xs → AllByRecursion Is ys → NoItem text Is x → NoItem text Is y
    → flat_map text xs ++ x ≡ flat_map text ys ++ y → (xs ≡ ys) × (x ≡ y)
same_lists text Is apart [] [] x y ea eb nx ny e = (refl, e)
same_lists text Is apart (a ∷ xs) [] x y ea eb nx ny e = absurd (ny a (flat_map text xs ++ x) ea.0 (sym e ∙ first_of text a xs x))
same_lists text Is apart [] (b ∷ ys) x y ea eb nx ny e = absurd (nx b (flat_map text ys ++ y) eb.0 (e ∙ first_of text b ys y))
same_lists text Is apart (a ∷ xs) (b ∷ ys) x y ea eb nx ny e =
    let first = apart.one a b (flat_map text xs ++ x) (flat_map text ys ++ y) ea.0 eb.0 (sym (first_of text a xs x) ∙ e ∙ first_of text b ys y) in
    let others = same_lists text Is apart xs ys x y ea.1 eb.1 nx ny first.1 in
    (rw (first.0, others.0) refl, others.1)

-- what a list that was read in part goes on with
pub record GoesOn {A : Type 0} (text : A → List ℕ) (Is : A → Type 0) (front all : List A) (rest : List ℕ) : Type 0 where
  pub more : List A
  pub parts : all ≡ front ++ more
  pub each : AllByRecursion Is more
  pub text_is : rest ≡ flat_map text more

nothing_left : {A : Type 0} (text : A → List ℕ) (Is : A → Type 0) → Apart text Is → (a : A) (others : List A) (rest : List ℕ) → flat_map text (a ∷ others) ++ rest ≡ [] → ⊥
nothing_left text Is apart a others rest e =
    let l = ap length (sym (first_of text a others rest) ∙ e) in
    let m = length-append (text a) (flat_map text others ++ rest) in
    let s = apart.some a in
    omega arith

pub goes_on : {A : Type 0} (text : A → List ℕ) (Is : A → Type 0) → Apart text Is → (front all : List A) (rest : List ℕ) → AllByRecursion Is front → AllByRecursion Is all → flat_map text front ++ rest ≡ flat_map text all → GoesOn text Is front all rest
goes_on {A} text Is apart [] all rest ef ea e = record { more = all; parts = refl; each = ea; text_is = e }
goes_on {A} text Is apart (a ∷ front) [] rest ef ea e = absurd (nothing_left text Is apart a front rest e)
goes_on {A} text Is apart (a ∷ front) (b ∷ all) rest ef ea e =
    let first = apart.one a b (flat_map text front ++ rest) (flat_map text all) ef.0 ea.0 (sym (first_of text a front rest) ∙ e ∙ flat_map-cons text b all) in
    let g = goes_on text Is apart front all rest ef.1 ea.1 first.1 in
    record { more = g.more; parts = ap (λ (v : A). v ∷ all) (sym first.0) ∙ ap (λ (v : List A). a ∷ v) g.parts; each = g.each; text_is = g.text_is }
