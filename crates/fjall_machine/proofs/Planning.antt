-- Why the readers of what a flush made aren't had, as they are planned.
use Rattle.std.proofs.Common.{◌≡◌, List}
use Rattle.std.specs.Coded.{Coded, Coded-set, codes}
use Rattle.std.proofs.Math.Logic.{∥∥₁_elim}
use Rattle.fjall_base.specs.declared.error.Error.{Error}
use Rattle.fjall_base.specs.declared.error.Error.TheVariants.{OutOfMemory}
use Rattle.fjall_jobs.specs.declared.flush_made.FlushMade.{FlushMade}
use Rattle.fjall_jobs.specs.Made.{flush_tables}
use Rattle.fjall_jobs.specs.Sequences.{AreMadeTables}
use Rattle.fjall_jobs.proofs.Made.{was_flushed}
use Rattle.fjall_table.specs.Blocks.{Entry}

error_coded : Coded Error
error_coded = hlevel codes

-- memory ran out
pub memory_ran_out : (made : FlushMade) (error : Error) → ((lists : List (List Entry)) → AreMadeTables (flush_tables made) lists → error ≡ OutOfMemory) → error ≡ OutOfMemory
memory_ran_out made error only = ∥∥₁_elim (was_flushed made) (Coded-set error_coded error OutOfMemory) (λ is. only is.lists is.made)
