use Rattle.fjall_compaction.proofs.FlushFinishing as Finishing
use Rattle.fjall_compaction.proofs.flush.laws.a_finished_flush_is_known.Goals as goal

pub returns : goal.returns
returns c j t trees entries records k task can tables clears made h home readers infos = Finishing.are_after j t trees entries records k task can h home tables clears made readers infos
