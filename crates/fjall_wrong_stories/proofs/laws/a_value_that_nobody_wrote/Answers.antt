use Rattle.fjall_wrong_stories.proofs.Refuted.{no_other_value, no_value_from_nowhere, no_value_of_another_key}
use Rattle.fjall_wrong_stories.proofs.laws.a_value_that_nobody_wrote.Goals as goal

pub returns-clause-another : goal.returns-clause-another
returns-clause-another c = no_other_value

pub returns-clause-elsewhere : goal.returns-clause-elsewhere
returns-clause-elsewhere c = no_value_of_another_key

pub returns-clause-nowhere : goal.returns-clause-nowhere
returns-clause-nowhere c = no_value_from_nowhere
