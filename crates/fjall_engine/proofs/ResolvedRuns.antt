-- Runs of calls that name tickets and jobs by the places of calls, one call more.
use Rattle.std.proofs.Common.{◌≡◌, ℕ, ◌+◌, ◌<◌, List, [], ◌∷◌, ◌++◌, length, take, get_or, sym, ◌∙◌, ap, subst, append_assoc, arith}
use Rattle.std.proofs.lemmas.List.{append-nil, take_more}
use Rattle.fjall_history.specs.declared.reply.Reply.{Reply}
use Rattle.fjall_machine.specs.declared.call.Call.{Call}
use Rattle.fjall_machine.specs.Machine.{State}
use Rattle.fjall_machine.specs.Places.{resolved, resolved_all, resolved_behind}
use Rattle.fjall_machine.specs.Shapes.{shape_of}
use Rattle.fjall_engine.specs.Durables.{Durable}
use Rattle.fjall_engine.specs.declared.jobs.Job.{Job}
use Rattle.fjall_engine.specs.Holding.{Held}
use Rattle.fjall_engine.specs.Jobs.{KeepsMerges, KnowsMerges}
use Rattle.fjall_engine.specs.Standing.{Owes, OwesAll, ServesWhere}
use Rattle.fjall_engine.proofs.OwedSteps.{owes_push}
use Rattle.fjall_engine.proofs.RunsOverCrashes.{RunsKnown, SoFar, one_more, runs_push}

-- of as many calls as replies, one more of both
pub resolved_more : (before : List Reply) (calls : List Call) (replies : List Reply) (call : Call) (reply : Reply) → length calls ≡ length replies
    → resolved_behind before (calls ++ call ∷ []) (replies ++ reply ∷ []) ≡ resolved_behind before calls replies ++ resolved (before ++ replies) call ∷ []
resolved_more before [] [] call reply same = ap (λ (l : List Reply). resolved l call ∷ []) (sym (append-nil before))
resolved_more before (c ∷ calls) (r ∷ replies) call reply same =
    ap (λ (l : List Call). resolved before c ∷ l) (resolved_more (before ++ r ∷ []) calls replies call reply (omega (arith, same))
    ∙ ap (λ (l : List Reply). resolved_behind (before ++ r ∷ []) calls replies ++ resolved l call ∷ []) (append_assoc before (r ∷ []) replies))
resolved_more before [] (r ∷ replies) call reply same = let bad : ⊥ = omega (arith, same) in absurd bad
resolved_more before (c ∷ calls) [] call reply same = let bad : ⊥ = omega (arith, same) in absurd bad

-- the calls so far, with the tickets and jobs that they name
abbrev pub so_far : List Call → ℕ → List Reply → List Call
so_far calls n replies = resolved_all (take n calls) replies

-- One call more of a list, with what it names as the replies before it tell.
module _ (calls : List Call) (replies more : List Reply) (i : ℕ) (call : Call) (reply : Reply) (lt : i < length calls) (is : call ≡ get_or calls i call) (count : length (take i calls) ≡ length replies) (pushed : more ≡ replies ++ reply ∷ []) where
  grows : so_far calls (i + 1) more ≡ so_far calls i replies ++ resolved replies call ∷ []
  grows =
      (λ j. resolved_all ((take_more calls i call lt ∙ ap (λ c. take i calls ++ c ∷ []) (sym is)) j) (pushed j))
      ∙ resolved_more [] (take i calls) replies call reply count

  pub call_more : (jobs later : List Job) (mid new : Held) (s : State) (d : Durable) → SoFar jobs mid s d (so_far calls i replies) replies → ServesWhere (λ s. KnowsMerges s jobs) mid (shape_of (resolved replies call)) reply new
      → KeepsMerges mid jobs (shape_of (resolved replies call)) reply later → SoFar later new s d (so_far calls (i + 1) more) more
  call_more jobs later mid new s d before serves keeps =
      subst (λ cs. SoFar later new s d cs more) (sym grows)
      (subst (λ rs. SoFar later new s d (so_far calls i replies ++ resolved replies call ∷ []) rs) (sym pushed)
      (one_more jobs later mid new s d (so_far calls i replies) replies (resolved replies call) reply before serves keeps))

  pub runs_more : (jobs later : List Job) (old mid new : Held) → RunsKnown jobs old (so_far calls i replies) replies mid → ServesWhere (λ s. KnowsMerges s jobs) mid (shape_of (resolved replies call)) reply new
      → KeepsMerges mid jobs (shape_of (resolved replies call)) reply later → RunsKnown later old (so_far calls (i + 1) more) more new
  runs_more jobs later old mid new before serves keeps =
      subst (λ cs. RunsKnown later old cs more new) (sym grows)
      (subst (λ rs. RunsKnown later old (so_far calls i replies ++ resolved replies call ∷ []) rs new) (sym pushed)
      (runs_push jobs later old mid new (so_far calls i replies) replies (resolved replies call) reply before serves keeps))

  pub owed_more : (old mid new : Held) → OwesAll old (so_far calls i replies) replies mid → Owes mid (shape_of (resolved replies call)) reply new → OwesAll old (so_far calls (i + 1) more) more new
  owed_more old mid new before owes =
      subst (λ cs. OwesAll old cs more new) (sym grows)
      (subst (λ rs. OwesAll old (so_far calls i replies ++ resolved replies call ∷ []) rs new) (sym pushed) (owes_push old mid new (so_far calls i replies) replies (resolved replies call) reply before owes))
