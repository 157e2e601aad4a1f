use Rattle.fjall_engine.proofs.RunsOverCrashes as Running
use Rattle.fjall_calls.proofs.life_laws.runs_go_on.Goals as goal

pub returns : goal.returns
returns c = Running.runs_behind
