use Rattle.fjall_history.proofs.Moving.{snapshot_stays, stays_closed}
use Rattle.fjall_history.proofs.laws.a_snapshot_stays.Goals as goal

pub returns-clause-view : goal.returns-clause-view
returns-clause-view c = snapshot_stays

pub returns-clause-closed : goal.returns-clause-closed
returns-clause-closed c = stays_closed
