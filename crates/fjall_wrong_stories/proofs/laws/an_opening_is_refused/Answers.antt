use Rattle.fjall_base.specs.declared.error.Error.TheVariants.{JournalRecovery, Unrecoverable}
use Rattle.fjall_wrong_stories.proofs.Refuted.{no_opening_is_refused}
use Rattle.fjall_wrong_stories.proofs.laws.an_opening_is_refused.Goals as goal

pub returns-clause-any : goal.returns-clause-any
returns-clause-any c = no_opening_is_refused

pub returns-clause-contradicts : goal.returns-clause-contradicts
returns-clause-contradicts c = no_opening_is_refused Unrecoverable (λ runs. runs)

pub returns-clause-damaged : goal.returns-clause-damaged
returns-clause-damaged c = λ damage. no_opening_is_refused (JournalRecovery damage) (λ runs. runs)
