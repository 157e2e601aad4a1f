use Rattle.fjall_engine.proofs.RunsOverCrashes as Running
use Rattle.fjall_calls.proofs.life_laws.no_calls_run.Goals as goal

pub returns : goal.returns
returns c = Running.no_run
