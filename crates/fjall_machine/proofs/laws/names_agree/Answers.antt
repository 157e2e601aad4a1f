use Rattle.fjall_machine.proofs.Standing as Standing
use Rattle.fjall_machine.proofs.laws.names_agree.Goals as goal

pub returns-clause-listed : goal.returns-clause-listed
returns-clause-listed c = Standing.names_listed

pub returns-clause-counted : goal.returns-clause-counted
returns-clause-counted c = Standing.names_counted

pub returns-clause-named : goal.returns-clause-named
returns-clause-named c = Standing.a_name_there

pub returns-clause-resolved : goal.returns-clause-resolved
returns-clause-resolved c = Standing.a_name_resolved

pub returns-clause-living : goal.returns-clause-living
returns-clause-living c = Standing.living_agree

pub returns-clause-next : goal.returns-clause-next
returns-clause-next c = Standing.next_agrees
