use Rattle.fjall_wrong_stories.proofs.Refuted.{no_living_keyspace_is_unknown}
use Rattle.fjall_wrong_stories.proofs.laws.an_unknown_keyspace_that_lives.Goals as goal

pub returns : goal.returns
returns c = no_living_keyspace_is_unknown
