use Rattle.fjall_trees.proofs.IngestedMaps as Ingested
use Rattle.fjall_trees.proofs.table_laws.an_ingestion_shows_its_items.Goals as goal

pub returns-clause-forest : goal.returns-clause-forest
returns-clause-forest c = Ingested.ingested_forest

pub returns-clause-before : goal.returns-clause-before
returns-clause-before c = Ingested.ingested_before

pub returns-clause-has : goal.returns-clause-has
returns-clause-has c = Ingested.ingested_has

pub returns-clause-older : goal.returns-clause-older
returns-clause-older c = Ingested.ingested_older

pub returns-clause-maps : goal.returns-clause-maps
returns-clause-maps c = Ingested.ingested_with

pub returns-clause-store : goal.returns-clause-store
returns-clause-store c = Ingested.ingested_store
