-- What is known of lives that went as chapters say.
use Rattle.std.proofs.Common.{◌≡◌, Bool, List, [], ◌∷◌, map, Result, Ok, Err, subst₂}
use Rattle.fjall_base.specs.Store.{Store, Command, fold, kept}
use Rattle.fjall_base.specs.declared.error.Error.{Error}
use Rattle.fjall_history.specs.declared.reply.Reply.{Reply}
use Rattle.fjall_calls.specs.declared.call.TxCall.{TxCall}
use Rattle.fjall_consistency.specs.declared.life.Life.{Life}
use Rattle.fjall_consistency.specs.declared.life.Told.{Told}
use Rattle.fjall_consistency.specs.Consistency.{AreAnswers, AreLives, IsLeft, IsLife, Leads, OneLife, all_attempted, begins}
use Rattle.fjall_wrong_stories.specs.Stories.{Chapter, Closed, Ended, IsChapter, Step, Went}

abbrev pub calls_in : List Step → List TxCall
calls_in steps = map (λ step. step.0) steps

abbrev pub replies_in : List Step → List Reply
replies_in steps = map (λ step. step.1) steps

abbrev pub steps_of : Chapter → List Step
steps_of (Closed steps) = steps
steps_of (Ended steps) = steps

-- it told that it closed
abbrev pub IsClosed : Chapter → Type 0
IsClosed (Closed steps) = Unit {0}
IsClosed (Ended steps) = ⊥

-- a life that was served, from one store to the next
pub record Served (start : Store) (chapter : Chapter) (next : Store) : Type 0 where
  pub answers : AreAnswers (begins start) (calls_in (steps_of chapter)) (replies_in (steps_of chapter))
  pub front : List Command
  pub left : IsLeft (begins start) (calls_in (steps_of chapter)) (replies_in (steps_of chapter)) front
  pub closes : IsClosed chapter → front ≡ all_attempted (begins start) (calls_in (steps_of chapter)) (replies_in (steps_of chapter))
  pub is : next ≡ kept (fold start front)

-- the first of lives that went so, and those behind it
pub record Goes (wild : Bool) (start : Store) (chapter : Chapter) (chapters : List Chapter) : Type 0 where
  pub next : Store
  pub served : Served start chapter next
  pub end : Store
  pub lives : List Life
  pub told : List (Result Told Error)
  pub are : AreLives wild next lives told end
  pub went : Went lives told chapters

served : (wild : Bool) (start next : Store) (life : Life) (told : Told) (chapter : Chapter) → IsLife wild start life (Ok told) next → IsChapter life told chapter → Served start chapter next
served wild start next life told (Closed steps) is h =
    let l = subst₂ (λ calls replies. Leads start calls replies told.closed next) h.0.0 h.0.1 is.1 in
    record { answers = l.0; front = l.1; left = l.2; closes = λ u. l.3 h.1; is = l.4 }
served wild start next life told (Ended steps) is h =
    let l = subst₂ (λ calls replies. Leads start calls replies told.closed next) h.0 h.1 is.1 in
    record { answers = l.0; front = l.1; left = l.2; closes = λ u. absurd u; is = l.4 }

pub goes : (wild : Bool) (start end : Store) (lives : List Life) (told : List (Result Told Error)) (chapter : Chapter) (chapters : List Chapter)
    → AreLives wild start lives told end → Went lives told (chapter ∷ chapters) → Goes wild start chapter chapters
goes wild start end (life ∷ lives) (Ok t ∷ told) chapter chapters (OneLife _ next _ _ _ _ _ is more) went =
    record { next = next; served = served wild start next life t chapter is went.0; end = end; lives = lives; told = told; are = more; went = went.1 }
goes wild start end (life ∷ lives) (Err e ∷ told) chapter chapters are went = absurd went
goes wild start end [] told chapter chapters are went = absurd went
goes wild start end (life ∷ lives) [] chapter chapters are went = absurd went
