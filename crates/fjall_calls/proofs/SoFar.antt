-- A list of calls, as far as it was served.
use Rattle.std.proofs.Common.{Bool, IsTrue, List, [], ◌∷◌, ◌++◌, refl}
use Rattle.fjall_history.specs.declared.reply.Reply.{Reply}
use Rattle.fjall_core.specs.CoreJob.{Job}
use Rattle.fjall_machine.specs.Machine.{State}
use Rattle.fjall_machine.specs.declared.call.Call.{Call}
use Rattle.fjall_core.specs.Durables.{Durable}
use Rattle.fjall_core.specs.Holding.{Held}
use Rattle.fjall_core.specs.Jobs.{KnowsMerges}
use Rattle.fjall_core.specs.CoreStanding.{OwesAll, ReadsOn, StandsFor, StandsOn}
use Rattle.fjall_core.proofs.KeptMerges.{none_known}
use Rattle.fjall_core.proofs.RunsOverCrashes.{RunsKnown, SoFar, ends, none_yet, runs_end, runs_none}
use Rattle.fjall_core.specs.Standing.{StandFor, CoreState}
use Rattle.fjall_core.specs.Transactions.{Kept}
use Rattle.fjall_calls.specs.Steps.{NoCall, TxRun}
use Rattle.fjall_calls.specs.Worlds.{World, begins}
use Rattle.fjall_calls.specs.declared.call.TxCall.{TxCall}
use Rattle.fjall_calls.specs.declared.named.Named.{Named}
use Rattle.fjall_calls.specs.Serving.{AllCome, NoneComes, RunsTx, ServesListed, Stands}
use Rattle.fjall_calls.proofs.Chains.{owed_on, run_on, served_on}
use Rattle.fjall_calls.proofs.Runs.{comes_more, run_more}

-- so many calls were served, with these merges kept and these transactions open
pub record RunSoFar (honest : Bool) (jobs : List Job) (core : Held) (kept : Kept) (calls : List TxCall) (replies : List Reply) (left : Held) (after : Kept) (listed : List Named) : Type 0 where
  pub made : List Call
  pub told : List Reply
  pub core_runs : IsTrue honest → RunsKnown jobs core made told left
  pub safe : IsTrue honest → (s : State) (d : Durable) → StandsFor core s → ReadsOn core s → StandsOn core s.parts.entries d → SoFar jobs left s d made told
  pub owes : OwesAll core made told left
  pub comes : AllCome [] calls replies made told
  pub runs : IsTrue honest → (t : CoreState) → StandFor core kept t → ReadsOn core t.state
      → (v : World) × Stands left after listed v × ReadsOn left v.told.state × KnowsMerges v.told.state jobs × TxRun (begins t kept.writer) [] calls replies made told v

-- none was
pub none_served : (honest : Bool) (core : Held) (kept : Kept) → RunSoFar honest [] core kept [] [] core kept []
none_served honest core kept = record {
  made = [];
  told = [];
  core_runs = λ h. runs_none core;
  safe = λ h s d stands reads on. none_yet core s d stands reads on;
  owes = refl;
  comes = NoneComes [];
  runs = λ h t stands reads. (begins t kept.writer, record { told = stands; writer = refl; going = refl }, reads, none_known t.state, NoCall (begins t kept.writer) []);
}

-- one more was
pub one_served : (honest : Bool) (jobs later : List Job) (core mid left : Held) (kept amid after : Kept) (calls : List TxCall) (replies : List Reply) (listed rest : List Named) (call : TxCall) (reply : Reply)
    → RunSoFar honest jobs core kept calls replies mid amid listed → ServesListed honest jobs later mid amid listed replies call reply left after rest
    → RunSoFar honest later core kept (calls ++ call ∷ []) (replies ++ reply ∷ []) left after rest
one_served honest jobs later core mid left kept amid after calls replies listed rest call reply so_far serves = record {
  made = so_far.made ++ serves.made;
  told = so_far.told ++ serves.told;
  core_runs = λ h. run_on serves.made serves.told jobs later core mid left so_far.made so_far.told (so_far.core_runs h) (serves.makes.serves h);
  safe = λ h s d stands reads on. served_on serves.made serves.told jobs later mid left s d so_far.made so_far.told (so_far.safe h s d stands reads on) (serves.makes.serves h);
  owes = owed_on so_far.made serves.made so_far.told serves.told core mid left so_far.owes serves.makes.owes;
  comes = comes_more [] calls replies so_far.made so_far.told call reply serves.made serves.told so_far.comes serves.comes;
  runs = λ h t stands reads.
      let (m, stay, on, known, run) = so_far.runs h t stands reads in
      let (v, then, there, knows, step) = serves.steps h m stay on known in
      (v, then, there, knows, run_more (begins t kept.writer) m v [] calls replies so_far.made so_far.told call reply serves.made serves.told run step);
}

-- all were
pub all_served : (honest : Bool) (jobs : List Job) (core left : Held) (kept after : Kept) (calls : List TxCall) (replies : List Reply) (listed : List Named) → RunSoFar honest jobs core kept calls replies left after listed
    → RunsTx honest core kept calls replies left after
all_served honest jobs core left kept after calls replies listed so_far = record {
  made = so_far.made;
  told = so_far.told;
  core_runs = λ h. runs_end jobs core left so_far.made so_far.told (so_far.core_runs h);
  safe = λ h s d stands reads on. ends jobs core left s d so_far.made so_far.told on (so_far.safe h s d stands reads on);
  owes = so_far.owes;
  comes = so_far.comes;
  runs = λ h t stands reads. let (v, stay, on, known, run) = so_far.runs h t stands reads in (v, stay.told, on, run);
}
