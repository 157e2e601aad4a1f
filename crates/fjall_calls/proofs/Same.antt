-- What is said of three things is said of the same three.
use Rattle.std.proofs.Common.{◌≡◌, subst}

pub all_so : {A B C : Type 0} (P : A → B → C → Type 0) (a a' : A) (b b' : B) (c c' : C) → a' ≡ a → b' ≡ b → c' ≡ c → P a' b' c' → P a b c
all_so P a a' b b' c c' one two three so = subst (λ x. P a b x) three (subst (λ x. P a x c') two (subst (λ x. P x b' c') one so))
