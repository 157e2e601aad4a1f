use Rattle.fjall_files.proofs.Tidying.{each_tidy}
use Rattle.fjall_calls.proofs.life_laws.each_step_is_tidy.Goals as goal

pub returns : goal.returns
returns c = each_tidy
