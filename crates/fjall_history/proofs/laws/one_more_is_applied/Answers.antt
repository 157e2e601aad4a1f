use Rattle.fjall_history.proofs.Views.{commands_append, fold_append, one_more, some_more}
use Rattle.fjall_history.proofs.laws.one_more_is_applied.Goals as goal

pub returns-clause-one : goal.returns-clause-one
returns-clause-one c = one_more

pub returns-clause-many : goal.returns-clause-many
returns-clause-many c = some_more

pub returns-clause-commands : goal.returns-clause-commands
returns-clause-commands c = commands_append

pub returns-clause-behind : goal.returns-clause-behind
returns-clause-behind c = fold_append
