use Rattle.std.proofs.Common.{refl}
use Rattle.fjall_base.specs.Disk.{state_in}
use Rattle.fjall_files.proofs.Parts.{region_run}
use Rattle.fjall_files.proofs.laws.crashes_see_a_region.Goals as goal

pub returns : goal.returns
returns c folder region old new image some apart run left = region_run region folder some apart (state_in old) (state_in old) run.added image run.under (λ q out. refl) left
