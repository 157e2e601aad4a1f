use Rattle.fjall_replay.proofs.Behind as Behind
use Rattle.fjall_replay.proofs.replay_laws.replayed_trees_beside_tables_show_the_store.Goals as goal

pub returns : goal.returns
returns c = Behind.replayed_store_beside
