use Rattle.fjall_machine.proofs.Standing as Standing
use Rattle.fjall_machine.proofs.laws.tickets_stand.Goals as goal

pub returns-clause-opened : goal.returns-clause-opened
returns-clause-opened c = Standing.opened_stands

pub returns-clause-cloned : goal.returns-clause-cloned
returns-clause-cloned c = Standing.cloned_stands

pub returns-clause-closed : goal.returns-clause-closed
returns-clause-closed c = Standing.closed_stands

pub returns-clause-collected : goal.returns-clause-collected
returns-clause-collected c = Standing.collected_stands
