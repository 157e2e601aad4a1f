use Rattle.fjall_meta.proofs.Held as Held
use Rattle.fjall_meta.proofs.content_laws.a_keyspace_reads.Goals as goal

pub returns-clause-living : goal.returns-clause-living
returns-clause-living c = Held.a_living_one_reads

pub returns-clause-others : goal.returns-clause-others
returns-clause-others c = Held.others_have_none
