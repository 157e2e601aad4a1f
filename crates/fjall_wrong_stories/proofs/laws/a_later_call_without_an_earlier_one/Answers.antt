use Rattle.fjall_wrong_stories.proofs.Refuted.{no_later_call_alone}
use Rattle.fjall_wrong_stories.proofs.laws.a_later_call_without_an_earlier_one.Goals as goal

pub returns : goal.returns
returns c = no_later_call_alone
