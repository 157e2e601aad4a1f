-- The longest common beginning of two texts.
use Rattle.std.proofs.Common.{◌≡◌, ◌⊎◌, inl, inr, ℕ, List, [], ◌∷◌, ◌++◌, refl, sym, ◌∙◌, ap, arith}
use Rattle.std.proofs.lemmas.Bool.{cases_lt}
use Rattle.fjall_recovery.specs.Wild.{IsAtFront}

same_or_not : (x n : ℕ) → (x ≡ n) ⊎ (x ≡ n → ⊥)
same_or_not x n = elim (cases_lt x n) [
  | inl below ↦ inr (λ e. omega (arith, below, e))
  | inr most ↦ elim (cases_lt n x) [ inl above ↦ inr (λ e. omega (arith, above, e)) | inr least ↦ inl (omega (arith, most, least)) ]
]

-- whatever both texts begin with, the front begins with it
abbrev IsMost : (xs ys front : List ℕ) → Type 0
IsMost xs ys front = (a m n : List ℕ) → xs ≡ a ++ m → ys ≡ a ++ n → IsAtFront a front

-- Both texts begin with the front, and with nothing longer.
pub record Common (xs ys : List ℕ) : Type 0 where
  pub front : List ℕ
  pub left : List ℕ
  pub right : List ℕ
  pub first : xs ≡ front ++ left
  pub second : ys ≡ front ++ right
  pub most : IsMost xs ys front

same_more : (x y : ℕ) (xs ys front : List ℕ) → IsMost xs ys front → IsMost (x ∷ xs) (y ∷ ys) (x ∷ front)
same_more x y xs ys front most [] m n p q = (x ∷ front, refl)
same_more x y xs ys front most (b ∷ bs) m n p q =
    let head : x ≡ b = cc in
    let one : xs ≡ bs ++ m = cc in
    let two : ys ≡ bs ++ n = cc in
    let k = most bs m n one two in
    (k.0, ap (λ (z : ℕ). z ∷ front) head ∙ ap (λ (l : List ℕ). b ∷ l) k.1)

no_more : (x y : ℕ) (xs ys : List ℕ) → (x ≡ y → ⊥) → IsMost (x ∷ xs) (y ∷ ys) []
no_more x y xs ys differ [] m n p q = ([], refl)
no_more x y xs ys differ (b ∷ bs) m n p q = let same : x ≡ y = cc in absurd (differ same)

pub common : (xs ys : List ℕ) → Common xs ys
common [] ys = record { front = []; left = []; right = ys; first = refl; second = refl; most = λ a m n p q. (m, p) }
common (x ∷ xs) [] = record { front = []; left = x ∷ xs; right = []; first = refl; second = refl; most = λ a m n p q. (n, q) }
common (x ∷ xs) (y ∷ ys) = elim (same_or_not x y) [
  | inl same ↦
      let c = common xs ys in
      record {
        front = x ∷ c.front;
        left = c.left;
        right = c.right;
        first = ap (λ (l : List ℕ). x ∷ l) c.first;
        second = ap (λ (z : ℕ). z ∷ ys) (sym same) ∙ ap (λ (l : List ℕ). x ∷ l) c.second;
        most = same_more x y xs ys c.front c.most;
      }
  | inr differ ↦ record { front = []; left = x ∷ xs; right = y ∷ ys; first = refl; second = refl; most = no_more x y xs ys differ }
]
