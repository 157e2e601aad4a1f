use Rattle.fjall_history.proofs.Views.{view_of_all}
use Rattle.fjall_history.proofs.laws.the_latest_is_a_view.Goals as goal

pub returns : goal.returns
returns c = view_of_all
