use Rattle.fjall_trees.proofs.MapReading as Reading
use Rattle.fjall_trees.proofs.map_laws.the_store_is_of_the_living.Goals as goal

pub returns-clause-reads : goal.returns-clause-reads
returns-clause-reads c = Reading.a_keyspace_reads

pub returns-clause-kept : goal.returns-clause-kept
returns-clause-kept c = Reading.store_is_kept

pub returns-clause-same : goal.returns-clause-same
returns-clause-same c = Reading.same_store
