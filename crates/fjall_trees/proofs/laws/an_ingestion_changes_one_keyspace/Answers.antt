use Rattle.fjall_trees.proofs.Ingested.{ingested_stays_read}
use Rattle.fjall_trees.proofs.laws.an_ingestion_changes_one_keyspace.Goals as goal

pub returns : goal.returns
returns c = ingested_stays_read
