use Rattle.fjall_history.proofs.Moving.{may_open_within, sound_move, sound_moves, sound_opening}
use Rattle.fjall_history.proofs.laws.moves_keep_soundness.Goals as goal

pub returns-clause-opening : goal.returns-clause-opening
returns-clause-opening c = sound_opening

pub returns-clause-moves : goal.returns-clause-moves
returns-clause-moves c = sound_move

pub returns-clause-runs : goal.returns-clause-runs
returns-clause-runs c = sound_moves

pub returns-clause-within : goal.returns-clause-within
returns-clause-within c = may_open_within
