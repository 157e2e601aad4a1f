-- Jobs that are kept beside a core stay known, whatever calls of transactions are served.
use Rattle.std.proofs.Common.{◌≡◌, ◌⊎◌, inl, inr, ℕ, List, [], ◌∷◌, ◌++◌, Some, None, zero, suc, sym, subst}
use Rattle.std.specs.List.{slice_get}
use Rattle.fjall_history.specs.declared.job.JobId.{JobId}
use Rattle.fjall_history.specs.declared.reply.Reply.{Reply}
use Rattle.fjall_history.specs.declared.reply.Reply.TheVariants.{Began}
use Rattle.fjall_core.specs.CoreJob.{Job}
use Rattle.fjall_machine.specs.Remembered.{Remembered}
use Rattle.fjall_machine.specs.Shapes.{CallShape}
use Rattle.fjall_core.specs.Holding.{Held}
use Rattle.fjall_core.specs.Jobs.{IsPlain, KeepsJobs}
use Rattle.fjall_core.specs.CoreStanding.{Owes}
use Rattle.fjall_core.proofs.KeptJobs.{keeps_on, plain_begins}
use Rattle.fjall_calls.specs.Serving.{KeepsOn}

-- what a list has at a place, a longer one has
longer : (replies more : List Reply) (place : ℕ) (reply : Reply) → slice_get replies place ≡ Some reply → slice_get (replies ++ more) place ≡ Some reply
longer [] more place reply is = let bad : None ≡ Some reply = is in absurd cc
longer (r ∷ replies) more zero reply is = is
longer (r ∷ replies) more (suc place) reply is = longer replies more place reply is

fewer_replies : (m : Remembered) (jobs : List Job) (replies more : List Reply) → KeepsJobs m jobs (replies ++ more) → KeepsJobs m jobs replies
fewer_replies m jobs replies more keeps = record { known = keeps.known; named = λ place job is. keeps.named place job (longer replies more place (Began (Some job)) is) }

-- what a list with one more has at a place, it had, or that one is it
last_or_before : (replies : List Reply) (last : Reply) (place : ℕ) (reply : Reply) → slice_get (replies ++ last ∷ []) place ≡ Some reply → (slice_get replies place ≡ Some reply) ⊎ (Some last ≡ Some reply)
last_or_before [] last zero reply is = inr is
last_or_before [] last (suc place) reply is = let bad : None ≡ Some reply = is in absurd cc
last_or_before (r ∷ replies) last zero reply is = inl is
last_or_before (r ∷ replies) last (suc place) reply is = last_or_before replies last place reply is

-- one more reply that tells of no job
pub one_reply_more : (m : Remembered) (jobs : List Job) (replies : List Reply) (reply : Reply) → ((job : JobId) → Some reply ≡ Some (Began (Some job)) → ⊥) → KeepsJobs m jobs replies → KeepsJobs m jobs (replies ++ reply ∷ [])
one_reply_more m jobs replies reply none keeps = record {
  known = keeps.known;
  named = λ place job is. elim (last_or_before replies reply place (Began (Some job)) is) [
    | inl was ↦ keeps.named place job was
    | inr last ↦ absurd (none job last)
  ];
}

-- a call that neither begins nor finishes a job
pub kept_on : (old new : Held) (shape : CallShape) (reply : Reply) → IsPlain shape → Owes old shape reply new → KeepsOn old new
kept_on old new shape reply plain owes jobs replies keeps =
    fewer_replies new.memory jobs replies (reply ∷ []) (keeps_on old new jobs replies keeps shape reply owes (plain_begins shape plain))

pub kept_still : (old new : Held) → new ≡ old → KeepsOn old new
kept_still old new same jobs replies keeps = subst (λ (h : Held). KeepsJobs h.memory jobs replies) (sym same) keeps
