-- What is told of a page.
use Rattle.std.proofs.Common.{◌≡◌, ℤ, Option, Result, Ok, subst, sym}
use Rattle.fjall_base.specs.Pairs.{KeyRange}
use Rattle.fjall_base.specs.declared.error.Error.{Error}
use Rattle.fjall_c.specs.Answers.{AnswersRange, IsMeant, TellsOfRange, answer_of}

-- pairs of the range that is meant were read so
pub of_range : {T : Type 0} (meant : Option KeyRange) (number : ℤ) (same : Type 0) (P : KeyRange → Result T Error → Type 0) (made : Result KeyRange Error) (range : KeyRange) (read : Result T Error)
    → IsMeant meant made → made ≡ Ok range → number ≡ answer_of read → P range read → AnswersRange meant number same P
of_range meant number same P made range read is e told so = (made, is, subst (λ (r : Result KeyRange Error). TellsOfRange number same P r) (sym e) (read, told, so))
