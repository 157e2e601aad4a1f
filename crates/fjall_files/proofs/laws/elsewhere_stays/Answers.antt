use Rattle.fjall_files.proofs.Changes.{within_state}
use Rattle.fjall_files.proofs.laws.elsewhere_stays.Goals as goal

pub returns : goal.returns
returns c folder q old new some run out = within_state folder some old new run q out
