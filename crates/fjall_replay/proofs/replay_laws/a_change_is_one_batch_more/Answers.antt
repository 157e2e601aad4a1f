use Rattle.fjall_replay.proofs.Following.{clear_more, items_more}
use Rattle.fjall_replay.proofs.replay_laws.a_change_is_one_batch_more.Goals as goal

pub returns-clause-items : goal.returns-clause-items
returns-clause-items c = items_more

pub returns-clause-emptied : goal.returns-clause-emptied
returns-clause-emptied c = clear_more
