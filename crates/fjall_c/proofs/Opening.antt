-- Openings over files, and flushes.
use Rattle.std.proofs.Common.{◌≡◌, ℕ, List, inl, inr, subst, Result}
use Rattle.fjall_base.specs.Disk.{Meaning, state_in}
use Rattle.fjall_base.specs.Store.{Store}
use Rattle.fjall_base.specs.declared.error.Error.{Error}
use Rattle.fjall_history.specs.declared.reply.Reply.{Reply}
use Rattle.fjall_journal.specs.declared.recovery_mode.RecoveryMode.{RecoveryMode}
use Rattle.fjall_journal.specs.declared.recovery_mode.RecoveryMode.TheVariants.{TolerateCorruptTail}
use Rattle.fjall_machine.specs.Places.{resolved_all}
use Rattle.fjall_machine.specs.declared.call.Call.{Call}
use Rattle.fjall_core.specs.CoreStanding.{HoldsStore, OwesAll, Runs, RunsSafely}
use Rattle.fjall_core.specs.Holding.{Held}
use Rattle.fjall_core.specs.Openings.{IsDueTo, KeepsStore, OpensAs, OpensFolder}
use Rattle.fjall_core.specs.Transactions.{Kept, none_kept}
use Rattle.fjall_c.specs.Openings.{FlushesEngine, IsOpenedOver, IsRefusedOver, first_refusal, flush_calls}

-- what the disk holds that is opened is what the files do
pub opened_so : (files given : Meaning) (engine : Held) (kept : Kept) → given ≡ files → OpensFolder given engine → ((store : Store) → HoldsStore (state_in given) store → OpensAs engine store)
    → KeepsStore given engine.disk → kept ≡ none_kept → IsOpenedOver files engine kept
opened_so files given engine kept same stands store moment none =
    subst (λ (m : Meaning). IsOpenedOver m engine kept) same (record { stands = stands; store = store; any_moment = moment; none = none })

pub refused_so : (files given left : Meaning) (mode : RecoveryMode) (error : Error) → given ≡ files → mode ≡ TolerateCorruptTail → IsDueTo mode given left error → IsRefusedOver files error
refused_so files given left mode error same cuts due =
    inr (left, subst (λ (m : Meaning). IsDueTo TolerateCorruptTail m left error) same (subst (λ (r : RecoveryMode). IsDueTo r given left error) cuts due))

-- the calls that are run are those of a flush
pub flushed_so : (id : ℕ) (old new : Held) (result : Result Unit Error) (calls : List Call) (replies : List Reply) → calls ≡ flush_calls id → result ≡ first_refusal replies
    → Runs old (resolved_all calls replies) replies new → RunsSafely old (resolved_all calls replies) replies new → OwesAll old (resolved_all calls replies) replies new → FlushesEngine id old new result
flushed_so id old new result calls replies same told runs crash owes = inl (record {
  replies = replies;
  told = told;
  runs = subst (λ (l : List Call). Runs old (resolved_all l replies) replies new) same runs;
  crash = subst (λ (l : List Call). RunsSafely old (resolved_all l replies) replies new) same crash;
  owes = subst (λ (l : List Call). OwesAll old (resolved_all l replies) replies new) same owes;
})
