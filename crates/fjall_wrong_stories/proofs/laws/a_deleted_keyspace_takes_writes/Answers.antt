use Rattle.fjall_wrong_stories.proofs.AnyLife.{no_deleted_keyspace_is_written}
use Rattle.fjall_wrong_stories.proofs.laws.a_deleted_keyspace_takes_writes.Goals as goal

pub returns : goal.returns
returns c = no_deleted_keyspace_is_written
