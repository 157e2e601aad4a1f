use Rattle.fjall_wrong_stories.proofs.AnyLife.{no_fault_clears_a_deleted_keyspace, no_fault_ingests_out_of_order}
use Rattle.fjall_wrong_stories.proofs.laws.a_fault_begins_what_is_refused.Goals as goal

pub returns-clause-cleared : goal.returns-clause-cleared
returns-clause-cleared c = no_fault_clears_a_deleted_keyspace

pub returns-clause-ingested : goal.returns-clause-ingested
returns-clause-ingested c = no_fault_ingests_out_of_order
