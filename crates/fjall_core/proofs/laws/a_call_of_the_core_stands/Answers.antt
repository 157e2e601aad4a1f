use Rattle.fjall_machine.specs.Shapes.{shape_of}
use Rattle.fjall_core.proofs.Standing.{owed_stands, served_goes_on, shape_stands}
use Rattle.fjall_core.proofs.laws.a_call_of_the_core_stands.Goals as goal

pub returns-clause-step : goal.returns-clause-step
returns-clause-step c = λ core new kept t s call reply stands step is. shape_stands core new kept t s (shape_of call) reply stands step is

pub returns-clause-serves : goal.returns-clause-serves
returns-clause-serves c = λ core new kept t call reply stands reads serves. served_goes_on core new kept t (shape_of call) reply stands reads serves

pub returns-clause-owes : goal.returns-clause-owes
returns-clause-owes c = λ core new kept t call reply stands bare owes. owed_stands core new kept t (shape_of call) reply stands bare owes
