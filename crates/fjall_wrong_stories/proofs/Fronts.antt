-- Beginnings of lists of commands.
use Rattle.std.proofs.Common.{◌≡◌, ◌⊎◌, List, [], ◌∷◌, ◌++◌, refl, sym, ap, ◌∙◌, inl, inr}
use Rattle.fjall_base.specs.Store.{Command}
use Rattle.fjall_consistency.specs.Consistency.{IsBeginning}

tail_is : {c d : Command} {a b : List Command} → c ∷ a ≡ d ∷ b → a ≡ b
tail_is e = cc

-- of no command there is one beginning
pub of_none : (front : List Command) → IsBeginning front [] → front ≡ []
of_none [] h = refl
of_none (command ∷ front) h = cc (h.1)

-- a beginning is none, or begins with the first
pub of_more : (front : List Command) (command : Command) (commands : List Command) → IsBeginning front (command ∷ commands)
    → (front ≡ []) ⊎ ((rest : List Command) × (front ≡ command ∷ rest) × IsBeginning rest commands)
of_more [] command commands h = inl refl
of_more (first ∷ rest) command commands h = inr (rest, cc (h.1), (h.0, cc (h.1)))

-- what has a first command begins with it
pub has_first : (command : Command) (commands front : List Command) → IsBeginning (command ∷ commands) front
    → (rest : List Command) × (front ≡ command ∷ rest) × IsBeginning commands rest
has_first command commands front h = (commands ++ h.0, sym h.1, (h.0, refl))

-- what both begin with can be left out
pub behind : (command : Command) (front rest commands : List Command) → front ≡ command ∷ rest → IsBeginning front (command ∷ commands) → IsBeginning rest commands
behind command front rest commands e h = (h.0, tail_is (ap (λ (l : List Command). l ++ h.0) (sym e) ∙ h.1))

pub ahead_of : (command : Command) (front rest commands : List Command) → front ≡ command ∷ rest → IsBeginning (command ∷ commands) front → IsBeginning commands rest
ahead_of command front rest commands e h = (h.0, tail_is (h.1 ∙ e))

pub same_rest : (command : Command) (front rest commands : List Command) → front ≡ command ∷ rest → front ≡ command ∷ commands → rest ≡ commands
same_rest command front rest commands e g = cc

-- each a beginning of the other are one
pub both_ways : (a b : List Command) → IsBeginning a b → IsBeginning b a → a ≡ b
both_ways [] b h g = sym (of_none b g)
both_ways (x ∷ a) [] h g = of_none (x ∷ a) h
both_ways (x ∷ a) (y ∷ b) h g = cc (both_ways a b (h.0, cc (h.1)) (g.0, cc (g.1)))
