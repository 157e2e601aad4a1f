-- Calls one after another over a disk that may crash.
use Rattle.std.proofs.Common.{List, [], ◌∷◌, ◌++◌, refl, sym, ◌∙◌, ap, subst, append_assoc}
use Rattle.fjall_base.specs.Store.{Command}
use Rattle.fjall_base.specs.Disk.{LeavesOnly}
use Rattle.fjall_files.specs.Tidy.{StaysTidy}
use Rattle.fjall_machine.specs.declared.call.Call.{Call}
use Rattle.fjall_machine.specs.Shapes.{shape_of}
use Rattle.fjall_history.specs.declared.reply.Reply.{Reply}
use Rattle.fjall_machine.specs.Machine.{Run, State, Step}
use Rattle.fjall_engine.specs.declared.jobs.Job.{Job}
use Rattle.fjall_engine.specs.Holding.{Held}
use Rattle.fjall_engine.specs.Durables.{Durable, StandsAmid}
use Rattle.fjall_engine.specs.Crashes.{attempt, RunOn, SafeAt}
use Rattle.fjall_engine.specs.Jobs.{KeepsMerges, KnowsMerges}
use Rattle.fjall_engine.specs.Standing.{ReadsOn, StandsFor, StandsOn, ServesWhere, Runs, RunsOn, RunsSafely}
use Rattle.fjall_engine.proofs.CrashesInRuns.{run_kinds, run_passes, run_safe, run-push}
use Rattle.fjall_engine.proofs.AttemptedCommands.{run_tries}
use Rattle.fjall_engine.proofs.KeptMerges.{none_known}

-- a run so far: the state that the core is in now, which knows the merges that are kept, and what the core stands on
pub record SoFar (jobs : List Job) (new : Held) (s : State) (d : Durable) (calls : List Call) (replies : List Reply) : Type 0 where
  pub tried : List Command
  pub state : State
  pub durable : Durable
  pub stands : StandsFor new state
  pub reads : ReadsOn new state
  pub on : StandsOn new state.parts.entries durable
  pub run : RunOn s d calls replies tried state durable
  pub knows : KnowsMerges state jobs

pub none_yet : (core : Held) (s : State) (d : Durable) → StandsFor core s → ReadsOn core s → StandsOn core s.parts.entries d → SoFar [] core s d [] []
none_yet core s d stands reads on = record { tried = []; state = s; durable = d; stands = stands; reads = reads; on = on; run = (refl, refl, refl); knows = none_known s }

-- one call more
pub one_more : (jobs later : List Job) (mid new : Held) (s : State) (d : Durable) (calls : List Call) (replies : List Reply) (c : Call) (r : Reply) → SoFar jobs mid s d calls replies
    → ServesWhere (λ s. KnowsMerges s jobs) mid (shape_of c) r new → KeepsMerges mid jobs (shape_of c) r later → SoFar later new s d (calls ++ c ∷ []) (replies ++ r ∷ [])
one_more jobs later mid new s d calls replies c r so_far serves keeps =
    let next = serves.goes_on so_far.state so_far.stands so_far.reads so_far.knows in
    let led = next.4 so_far.durable so_far.on in
    record {
      tried = so_far.tried ++ attempt so_far.state (shape_of c) r;
      state = next.0;
      durable = led.0;
      stands = next.1;
      reads = next.2;
      on = led.1;
      run = run-push s so_far.state next.0 d so_far.durable led.0 calls replies so_far.tried c r so_far.run next.3 led.2;
      knows = keeps so_far.state so_far.stands so_far.reads so_far.knows next.0 next.3;
    }

-- one run behind another
run_behind : (s m t : State) (d n e : Durable) (calls more : List Call) (replies others : List Reply) (tried rest : List Command) → RunOn s d calls replies tried m n → RunOn m n more others rest t e
    → RunOn s d (calls ++ more) (replies ++ others) (tried ++ rest) t e
run_behind s m t d n e [] more [] others tried rest first run =
    subst (λ l. RunOn s d more others (l ++ rest) t e) (sym first.0) (subst (λ x. RunOn x d more others rest t e) first.1 (subst (λ x. RunOn m x more others rest t e) first.2 run))
run_behind s m t d n e (c ∷ calls) more (r ∷ replies) others tried rest (mid, on, behind, step, passes, is, first) run = (
  mid,
  on,
  behind ++ rest,
  step,
  passes,
  ap (λ (l : List Command). l ++ rest) is ∙ append_assoc (attempt s (shape_of c) r) behind rest,
  run_behind mid m t on n e calls more replies others behind rest first run,
)
run_behind s m t d n e [] more (r ∷ replies) others tried rest first run = absurd first
run_behind s m t d n e (c ∷ calls) more [] others tried rest first run = absurd first

-- a whole run
pub ends : (jobs : List Job) (old new : Held) (s : State) (d : Durable) (calls : List Call) (replies : List Reply) → StandsOn old s.parts.entries d → SoFar jobs new s d calls replies → RunsOn old calls replies new s d
ends jobs old new s d calls replies on end =
    let passes = run_passes s end.state d end.durable calls replies end.tried on.rests end.run in
    record {
      tried = end.tried;
      state = end.state;
      durable = end.durable;
      stands = end.stands;
      reads = end.reads;
      on = end.on;
      run = end.run;
      accepted = run_tries s end.state d end.durable calls replies end.tried end.run;
      any_moment = subst (λ h. LeavesOnly h new.disk (StandsAmid d.base [] (d.pending ++ end.tried))) on.same
          (subst (λ h. LeavesOnly d.meaning h (StandsAmid d.base [] (d.pending ++ end.tried))) end.on.same passes.leaves);
      synced = λ i sync. subst (λ h. SafeAt s d calls replies i end.tried end.durable h) end.on.same (run_safe s end.state d end.durable calls replies end.tried i end.run sync);
      kinds = subst (λ h. StaysTidy h new.disk) on.same (subst (λ h. StaysTidy d.meaning h) end.on.same (run_kinds s end.state d end.durable calls replies end.tried end.run));
    }

-- no call
pub no_run : (core : Held) (s : State) (d : Durable) → StandsFor core s → ReadsOn core s → StandsOn core s.parts.entries d → RunsOn core [] [] core s d
no_run core s d stands reads on = ends [] core core s d [] [] on (none_yet core s d stands reads on)

-- one run behind another is one run
pub runs_behind : (old mid new : Held) (s : State) (d : Durable) (calls more : List Call) (replies others : List Reply) → StandsOn old s.parts.entries d → RunsOn old calls replies mid s d → RunsSafely mid more others new
    → RunsOn old (calls ++ more) (replies ++ others) new s d
runs_behind old mid new s d calls more replies others on first safely =
    let then = safely first.state first.durable first.stands first.reads first.on in
    ends [] old new s d (calls ++ more) (replies ++ others) on (record {
      tried = first.tried ++ then.tried;
      state = then.state;
      durable = then.durable;
      stands = then.stands;
      reads = then.reads;
      on = then.on;
      run = run_behind s first.state then.state d first.durable then.durable calls more replies others first.tried then.tried first.run then.run;
      knows = none_known then.state;
    })

-- ---- the same as a run of the machine, whatever it stood on

-- one step more
run_more : (s m t : State) (calls : List Call) (replies : List Reply) (c : Call) (r : Reply) → Run s calls replies m → Step m c r t → Run s (calls ++ c ∷ []) (replies ++ r ∷ []) t
run_more s m t [] [] c r run step = (t, subst (λ (x : State). Step x c r t) run step, refl)
run_more s m t (c' ∷ calls) (r' ∷ replies) c r (mid, first, run) step = (mid, first, run_more mid m t calls replies c r run step)
run_more s m t [] (r' ∷ replies) c r run step = absurd run
run_more s m t (c' ∷ calls) [] c r run step = absurd run

-- a run so far, to a state that knows the merges that are kept
abbrev pub RunsKnown : List Job → Held → List Call → List Reply → Held → Type 0
RunsKnown jobs old calls replies new = (s : State) → StandsFor old s → ReadsOn old s → (t : State) × StandsFor new t × ReadsOn new t × Run s calls replies t × KnowsMerges t jobs

pub runs_none : (core : Held) → RunsKnown [] core [] [] core
runs_none core s stands reads = (s, stands, reads, refl, none_known s)

-- one call more
pub runs_push : (jobs later : List Job) (old mid new : Held) (calls : List Call) (replies : List Reply) (c : Call) (r : Reply) → RunsKnown jobs old calls replies mid
    → ServesWhere (λ s. KnowsMerges s jobs) mid (shape_of c) r new → KeepsMerges mid jobs (shape_of c) r later → RunsKnown later old (calls ++ c ∷ []) (replies ++ r ∷ []) new
runs_push jobs later old mid new calls replies c r runs serves keeps s stands reads =
    let so_far = runs s stands reads in
    let next = serves.goes_on so_far.0 so_far.1 so_far.2 so_far.4 in
    (next.0, next.1, next.2, run_more s so_far.0 next.0 calls replies c r so_far.3 next.3, keeps so_far.0 so_far.1 so_far.2 so_far.4 next.0 next.3)

-- a whole run
pub runs_end : (jobs : List Job) (old new : Held) (calls : List Call) (replies : List Reply) → RunsKnown jobs old calls replies new → Runs old calls replies new
runs_end jobs old new calls replies runs s stands reads = let end = runs s stands reads in (end.0, end.1, end.2, end.3)
