use Rattle.fjall_wrong_stories.proofs.Refuted.{no_deleted_keyspace_returns}
use Rattle.fjall_wrong_stories.proofs.laws.a_deleted_keyspace_comes_back.Goals as goal

pub returns : goal.returns
returns c = no_deleted_keyspace_returns
