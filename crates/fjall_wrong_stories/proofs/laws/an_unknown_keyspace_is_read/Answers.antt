use Rattle.fjall_wrong_stories.proofs.AnyLife.{no_unknown_keyspace_is_read}
use Rattle.fjall_wrong_stories.proofs.laws.an_unknown_keyspace_is_read.Goals as goal

pub returns : goal.returns
returns c = no_unknown_keyspace_is_read
