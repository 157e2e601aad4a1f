use Rattle.fjall_history.proofs.Moving.{never_falls, never_lower}
use Rattle.fjall_history.proofs.laws.the_watermark_never_falls.Goals as goal

pub returns-clause-moves : goal.returns-clause-moves
returns-clause-moves c = never_lower

pub returns-clause-runs : goal.returns-clause-runs
returns-clause-runs c = never_falls
