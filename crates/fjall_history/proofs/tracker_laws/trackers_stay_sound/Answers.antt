use Rattle.fjall_history.proofs.TrackerSound.{sound-after_closing, sound-after_gc, sound-after_opening, sound-after_raise, sound-closed, sound-fresh_tracker, sound-opening_open, sound-opening_visible}
use Rattle.fjall_history.proofs.tracker_laws.trackers_stay_sound.Goals as goal

pub returns-clause-fresh : goal.returns-clause-fresh
returns-clause-fresh c = sound-fresh_tracker

pub returns-clause-opening : goal.returns-clause-opening
returns-clause-opening c = sound-after_opening

pub returns-clause-opening_visible : goal.returns-clause-opening_visible
returns-clause-opening_visible c = sound-opening_visible

pub returns-clause-opening_open : goal.returns-clause-opening_open
returns-clause-opening_open c = sound-opening_open

pub returns-clause-closed : goal.returns-clause-closed
returns-clause-closed c = sound-closed

pub returns-clause-closing : goal.returns-clause-closing
returns-clause-closing c = sound-after_closing

pub returns-clause-gc : goal.returns-clause-gc
returns-clause-gc c = sound-after_gc

pub returns-clause-raise : goal.returns-clause-raise
returns-clause-raise c = sound-after_raise
