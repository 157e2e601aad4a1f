use Rattle.fjall_wrong_stories.proofs.AnyLife.{no_write_into_no_keyspace, no_write_without_a_key}
use Rattle.fjall_wrong_stories.proofs.laws.a_write_without_a_key.Goals as goal

pub returns-clause-empty : goal.returns-clause-empty
returns-clause-empty c = no_write_without_a_key

pub returns-clause-nowhere : goal.returns-clause-nowhere
returns-clause-nowhere c = no_write_into_no_keyspace
