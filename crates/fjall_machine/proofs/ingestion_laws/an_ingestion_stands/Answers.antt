use Rattle.fjall_machine.proofs.Ingesting as Ingesting
use Rattle.fjall_machine.proofs.ingestion_laws.an_ingestion_stands.Goals as goal

pub returns : goal.returns
returns c = Ingesting.an_ingestion_stands
