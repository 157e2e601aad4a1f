use Rattle.fjall_engine.proofs.CrashesInRuns as Amids
use Rattle.fjall_calls.proofs.life_laws.a_run_blames_the_device.Goals as goal

pub returns : goal.returns
returns c = Amids.run_blames
