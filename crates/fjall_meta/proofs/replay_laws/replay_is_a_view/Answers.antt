use Rattle.fjall_meta.proofs.Viewing as Viewing
use Rattle.fjall_meta.proofs.replay_laws.replay_is_a_view.Goals as goal

pub returns-clause-above : goal.returns-clause-above
returns-clause-above c = Viewing.replay_is_a_view

pub returns-clause-last : goal.returns-clause-last
returns-clause-last c = Viewing.replay_is_the_last_view
