use Rattle.fjall_compaction.specs.Ingests.{ingestion}
use Rattle.fjall_history.specs.Histories.{plain}
use Rattle.fjall_shared.proofs.shared.Shared.ingest.Given as goal

abbrev pub ghosts-tell : goal.ghosts-tell
ghosts-tell g a = record { said = plain (ingestion a.said.now.value.0 a.said.now.value.1.items) }
