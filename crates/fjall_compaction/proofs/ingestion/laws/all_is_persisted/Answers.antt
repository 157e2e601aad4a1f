use Rattle.fjall_compaction.proofs.Storing.{nothing_to_show}
use Rattle.fjall_compaction.proofs.ingestion.laws.all_is_persisted.Goals as goal

pub returns-clause-shown : goal.returns-clause-shown
returns-clause-shown c = nothing_to_show
