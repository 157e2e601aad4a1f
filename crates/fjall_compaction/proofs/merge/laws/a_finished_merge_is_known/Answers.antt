use Rattle.fjall_compaction.proofs.MergeFinishing as Finishing
use Rattle.fjall_compaction.proofs.merge.laws.a_finished_merge_is_known.Goals as goal

pub returns : goal.returns
returns c j t trees entries records k task can target tables clears made h home readers infos =
    Finishing.are_then j t trees entries records k task can h home target tables clears made readers infos
