use Rattle.fjall_history.proofs.Moving.{history_grows, views_stay}
use Rattle.fjall_history.proofs.Views.{number_grown, view_grown}
use Rattle.fjall_history.proofs.laws.views_stay.Goals as goal

pub returns-clause-grows : goal.returns-clause-grows
returns-clause-grows c = history_grows

pub returns-clause-number : goal.returns-clause-number
returns-clause-number c = number_grown

pub returns-clause-views : goal.returns-clause-views
returns-clause-views c = view_grown

pub returns-clause-runs : goal.returns-clause-runs
returns-clause-runs c = views_stay
