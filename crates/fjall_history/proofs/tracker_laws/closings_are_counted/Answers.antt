use Rattle.fjall_history.proofs.TrackerSound.{closing-collects, closing-counted, closing-none}
use Rattle.fjall_history.proofs.tracker_laws.closings_are_counted.Goals as goal

pub returns-clause-none : goal.returns-clause-none
returns-clause-none c = closing-none

pub returns-clause-counted : goal.returns-clause-counted
returns-clause-counted c = closing-counted

pub returns-clause-collects : goal.returns-clause-collects
returns-clause-collects c = closing-collects
