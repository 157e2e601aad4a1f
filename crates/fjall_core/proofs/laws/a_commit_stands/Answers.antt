use Rattle.fjall_core.proofs.Ending.{commit_goes_on, commit_stands}
use Rattle.fjall_core.proofs.laws.a_commit_stands.Goals as goal

pub returns-clause-serves : goal.returns-clause-serves
returns-clause-serves c = commit_goes_on

pub returns-clause-owes : goal.returns-clause-owes
returns-clause-owes c = commit_stands
