-- Calls of the core that are served one after another.
use Rattle.std.proofs.Common.{◌≡◌, Bool, List, [], ◌∷◌, ◌++◌, refl, sym, subst, append_assoc, ap, length, suc}
use Rattle.std.proofs.lemmas.List.{append-nil}
use Rattle.fjall_history.specs.declared.reply.Reply.{Reply}
use Rattle.fjall_core.specs.CoreJob.{Job}
use Rattle.fjall_machine.specs.Machine.{State}
use Rattle.fjall_machine.specs.Shapes.{shape_of}
use Rattle.fjall_machine.specs.declared.call.Call.{Call}
use Rattle.fjall_core.specs.Durables.{Durable}
use Rattle.fjall_core.specs.Holding.{Held}
use Rattle.fjall_core.specs.Jobs.{KnowsMerges}
use Rattle.fjall_core.specs.CoreStanding.{OwesAll}
use Rattle.fjall_core.proofs.KeptMerges.{merges_stay, serves_where}
use Rattle.fjall_core.proofs.RunsOverCrashes.{RunsKnown, SoFar, one_more, runs_push}
use Rattle.fjall_calls.specs.Serving.{MakesCoreCalls, MakesKept, ServesAll, ServesKept}

-- served behind a run that may crash
pub served_on : (made : List Call) (told : List Reply) (jobs later : List Job) (mid new : Held) (s : State) (d : Durable) (calls : List Call) (replies : List Reply) → SoFar jobs mid s d calls replies
    → ServesKept jobs mid made told new later → SoFar later new s d (calls ++ made) (replies ++ told)
served_on [] [] jobs later mid new s d calls replies so_far (same, kept) =
    subst (λ cs. SoFar later new s d cs (replies ++ [])) (sym (append-nil calls)) (subst (λ rs. SoFar later new s d calls rs) (sym (append-nil replies))
    (subst (λ js. SoFar js new s d calls replies) (sym kept) (subst (λ h. SoFar jobs h s d calls replies) (sym same) so_far)))
served_on (c ∷ made) (r ∷ told) jobs later mid new s d calls replies so_far (next, left, serves, keeps, rest) =
    let more = served_on made told left later next new s d (calls ++ c ∷ []) (replies ++ r ∷ []) (one_more jobs left mid next s d calls replies c r so_far serves keeps) rest in
    subst (λ cs. SoFar later new s d cs (replies ++ r ∷ told)) (append_assoc calls (c ∷ []) made) (subst (λ rs. SoFar later new s d ((calls ++ c ∷ []) ++ made) rs) (append_assoc replies (r ∷ []) told) more)
served_on [] (r ∷ told) jobs later mid new s d calls replies so_far all = absurd all
served_on (c ∷ made) [] jobs later mid new s d calls replies so_far all = absurd all

-- served behind a run of the machine
pub run_on : (made : List Call) (told : List Reply) (jobs later : List Job) (old mid new : Held) (calls : List Call) (replies : List Reply) → RunsKnown jobs old calls replies mid
    → ServesKept jobs mid made told new later → RunsKnown later old (calls ++ made) (replies ++ told) new
run_on [] [] jobs later old mid new calls replies runs (same, kept) =
    subst (λ cs. RunsKnown later old cs (replies ++ []) new) (sym (append-nil calls)) (subst (λ rs. RunsKnown later old calls rs new) (sym (append-nil replies))
    (subst (λ js. RunsKnown js old calls replies new) (sym kept) (subst (λ h. RunsKnown jobs old calls replies h) (sym same) runs)))
run_on (c ∷ made) (r ∷ told) jobs later old mid new calls replies runs (next, left, serves, keeps, rest) =
    let more = run_on made told left later old next new (calls ++ c ∷ []) (replies ++ r ∷ []) (runs_push jobs left old mid next calls replies c r runs serves keeps) rest in
    subst (λ cs. RunsKnown later old cs (replies ++ r ∷ told) new) (append_assoc calls (c ∷ []) made) (subst (λ rs. RunsKnown later old ((calls ++ c ∷ []) ++ made) rs new) (append_assoc replies (r ∷ []) told) more)
run_on [] (r ∷ told) jobs later old mid new calls replies runs all = absurd all
run_on (c ∷ made) [] jobs later old mid new calls replies runs all = absurd all

-- calls that are served from whatever state, are so from one that knows the merges that are kept, and leave these known
kept_chain : (jobs : List Job) (made : List Call) (told : List Reply) (old new : Held) → ServesAll old made told new → ServesKept jobs old made told new jobs
kept_chain jobs [] [] old new same = (same, refl)
kept_chain jobs (c ∷ made) (r ∷ told) old new (mid, serves, rest) = (mid, jobs, serves_where (λ s. KnowsMerges s jobs) old mid (shape_of c) r serves, merges_stay old jobs (shape_of c) r, kept_chain jobs made told mid new rest)
kept_chain jobs [] (r ∷ told) old new all = absurd all
kept_chain jobs (c ∷ made) [] old new all = absurd all

pub makes_kept : (honest : Bool) (jobs : List Job) (old new : Held) (made : List Call) (told : List Reply) → MakesCoreCalls honest old made told new → MakesKept honest jobs old made told new jobs
makes_kept honest jobs old new made told makes = record { serves = λ h. kept_chain jobs made told old new (makes.serves h); owes = makes.owes }

-- owed behind what was owed
pub owed_on : (calls made : List Call) (replies told : List Reply) (old mid new : Held) → OwesAll old calls replies mid → OwesAll mid made told new → OwesAll old (calls ++ made) (replies ++ told) new
owed_on [] made [] told old mid new same owes = subst (λ h. OwesAll h made told new) same owes
owed_on (c ∷ calls) made (r ∷ replies) told old mid new (next, first, rest) owes = (next, first, owed_on calls made replies told next mid new rest owes)
owed_on [] made (r ∷ replies) told old mid new all owes = absurd all
owed_on (c ∷ calls) made [] told old mid new all owes = absurd all

-- each call has a reply
pub each_replied : (made : List Call) (told : List Reply) (old new : Held) → OwesAll old made told new → length made ≡ length told
each_replied [] [] old new owes = refl
each_replied (c ∷ made) (r ∷ told) old new owes = ap suc (each_replied made told owes.0 new owes.2)
each_replied [] (r ∷ told) old new owes = absurd owes
each_replied (c ∷ made) [] old new owes = absurd owes
