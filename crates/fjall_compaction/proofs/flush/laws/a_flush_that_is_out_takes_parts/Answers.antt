use Rattle.fjall_compaction.proofs.Taken as Taken
use Rattle.fjall_compaction.proofs.flush.laws.a_flush_that_is_out_takes_parts.Goals as goal

pub returns-clause-parts : goal.returns-clause-parts
returns-clause-parts c shape task is = Taken.parts_parted is.out.count shape.memory

pub returns-clause-takes : goal.returns-clause-takes
returns-clause-takes c = Taken.takes
