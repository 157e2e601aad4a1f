use Rattle.fjall_engine.proofs.QuietReads.{a_read_serves, a_read_stands}
use Rattle.fjall_engine.proofs.laws.a_read_leaves_all.Goals as goal

pub returns-clause-owes : goal.returns-clause-owes
returns-clause-owes c = a_read_stands

pub returns-clause-serves : goal.returns-clause-serves
returns-clause-serves c = a_read_serves
