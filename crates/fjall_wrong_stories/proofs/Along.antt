-- Lives of which something is so, and what is known along their steps.
use Rattle.std.proofs.Common.{suc, Bool, List, [], ◌∷◌, ◌++◌, All, Result, Ok, Err, sym, subst, subst₂, inl, inr, arith}
use Rattle.fjall_base.specs.Store.{Store, Command, fold, kept}
use Rattle.fjall_base.specs.declared.error.Error.{Error}
use Rattle.fjall_consistency.specs.declared.life.Life.{Life}
use Rattle.fjall_consistency.specs.declared.life.Told.{Told}
use Rattle.fjall_consistency.specs.Consistency.{AreAnswers, AreLives, IsAnswer, IsLife, Known, OneLife, after, begins}
use Rattle.fjall_wrong_stories.specs.Stories.{HadSteps, SomeLife, Step}
use Rattle.fjall_wrong_stories.proofs.Chapters.{calls_in, replies_in}

-- ---- lives

-- a life of which something is so, from a store that is sound
pub record Found (wild : Bool) (Sound : Store → Type 0) (P : Life → Told → Type 0) : Type 0 where
  pub start : Store
  pub next : Store
  pub life : Life
  pub told : Told
  pub sound : Sound start
  pub is : IsLife wild start life (Ok told) next
  pub so : P life told

-- some life is found, where what is sound stays so
pub some_life : (wild : Bool) (Sound : Store → Type 0) (P : Life → Told → Type 0) → ((s : Store) (commands : List Command) → Sound s → Sound (kept (fold s commands)))
    → (start end : Store) (lives : List Life) (told : List (Result Told Error)) → Sound start → AreLives wild start lives told end → SomeLife P lives told → Found wild Sound P
some_life wild Sound P stays start end [] told sound are some = absurd some
some_life wild Sound P stays start end (life ∷ lives) [] sound are some = absurd some
some_life wild Sound P stays start end (life ∷ lives) (Ok t ∷ told) sound (OneLife _ next _ _ _ _ _ is more) (inl so) =
    record { start = start; next = next; life = life; told = t; sound = sound; is = is; so = so }
some_life wild Sound P stays start end (life ∷ lives) (Ok t ∷ told) sound (OneLife _ next _ _ _ _ _ is more) (inr some) =
    some_life wild Sound P stays next end lives told (subst Sound (sym is.1.4) (stays start is.1.1 sound)) more some
some_life wild Sound P stays start end (life ∷ lives) (Err error ∷ told) sound (OneLife _ next _ _ _ _ _ is more) some =
    some_life wild Sound P stays next end lives told (subst Sound (sym is.1) sound) more some

-- ---- steps

-- what is known after steps
abbrev pub known_after : Known → List Step → Known
known_after k [] = k
known_after k (step ∷ steps) = known_after (after k step.0 step.1) steps

-- each step was answered
abbrev pub AreTold : Known → List Step → Type 0
AreTold k steps = AreAnswers k (calls_in steps) (replies_in steps)

-- those of a life were
pub life_told : (wild : Bool) (start next : Store) (life : Life) (told : Told) (steps : List Step) → IsLife wild start life (Ok told) next → HadSteps life told steps → AreTold (begins start) steps
life_told wild start next life told steps is had = subst₂ (AreAnswers (begins start)) had.0 had.1 is.1.0

-- and of steps the last ones
pub told_behind : (k : Known) (steps more : List Step) → AreTold k (steps ++ more) → AreTold (known_after k steps) more
told_behind k [] more are = are
told_behind k (step ∷ steps) more are = told_behind (after k step.0 step.1) steps more are.1

-- what stays so at each step does along them
pub along : (P : Known → Type 0) (Q : Step → Type 0) → ((k : Known) (step : Step) → IsAnswer k step.0 step.1 → Q step → P k → P (after k step.0 step.1))
    → (k : Known) (steps more : List Step) → AreTold k (steps ++ more) → All Q steps → P k → P (known_after k steps)
along P Q stays k [] more are all p = p
along P Q stays k (step ∷ steps) more are all p =
    along P Q stays (after k step.0 step.1) steps more are.1 (λ i d below. all (suc i) d (omega (arith, below))) (stays k step are.0 (all 0 step (omega arith)) p)
