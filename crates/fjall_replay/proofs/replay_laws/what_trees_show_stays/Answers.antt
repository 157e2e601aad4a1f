use Rattle.fjall_replay.proofs.Staying.{created_stay, deleted_stay, dropped_stay, same_stay, sealed_stay, stored_stay}
use Rattle.fjall_replay.proofs.replay_laws.what_trees_show_stays.Goals as goal

pub returns-clause-sealed : goal.returns-clause-sealed
returns-clause-sealed c = sealed_stay

pub returns-clause-same : goal.returns-clause-same
returns-clause-same c = same_stay

pub returns-clause-dropped : goal.returns-clause-dropped
returns-clause-dropped c = dropped_stay

pub returns-clause-stored : goal.returns-clause-stored
returns-clause-stored c = stored_stay

pub returns-clause-deleted : goal.returns-clause-deleted
returns-clause-deleted c = deleted_stay

pub returns-clause-created : goal.returns-clause-created
returns-clause-created c = created_stay
