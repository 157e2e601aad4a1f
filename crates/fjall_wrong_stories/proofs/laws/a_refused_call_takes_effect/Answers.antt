use Rattle.fjall_wrong_stories.proofs.Refuted.{no_refused_call_is_found, no_refused_call_is_seen}
use Rattle.fjall_wrong_stories.proofs.laws.a_refused_call_takes_effect.Goals as goal

pub returns-clause-now : goal.returns-clause-now
returns-clause-now c = no_refused_call_is_seen

pub returns-clause-later : goal.returns-clause-later
returns-clause-later c = no_refused_call_is_found
