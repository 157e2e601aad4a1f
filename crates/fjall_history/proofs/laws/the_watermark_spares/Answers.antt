use Rattle.fjall_history.proofs.Moving.{collected_to, spared_move, spared_moves, spared_opening}
use Rattle.fjall_history.proofs.laws.the_watermark_spares.Goals as goal

pub returns-clause-opening : goal.returns-clause-opening
returns-clause-opening c = spared_opening

pub returns-clause-moves : goal.returns-clause-moves
returns-clause-moves c = spared_move

pub returns-clause-runs : goal.returns-clause-runs
returns-clause-runs c = spared_moves

pub returns-clause-collected : goal.returns-clause-collected
returns-clause-collected c = collected_to
