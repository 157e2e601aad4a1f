use Rattle.fjall_machine.proofs.Ascending.{may_ingest}
use Rattle.fjall_machine.proofs.ingestion_laws.an_ingestion_may_go_on.Goals as goal

pub returns : goal.returns
returns c = may_ingest
