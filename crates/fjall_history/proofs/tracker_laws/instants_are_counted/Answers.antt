use Rattle.std.proofs.Common.{arith}
use Rattle.fjall_history.proofs.TrackerOpenings.{count-with_instant, count-without_instant, length-with_instant, length-without_instant, open-count}
use Rattle.fjall_history.proofs.tracker_laws.instants_are_counted.Goals as goal

pub returns-clause-one_more : goal.returns-clause-one_more
returns-clause-one_more c i xs = let more = length-with_instant i xs in omega (arith, more)

pub returns-clause-one_less : goal.returns-clause-one_less
returns-clause-one_less c i xs there = let less = length-without_instant i xs there in omega (arith, less)

pub returns-clause-opened : goal.returns-clause-opened
returns-clause-opened c = count-with_instant

pub returns-clause-closed : goal.returns-clause-closed
returns-clause-closed c = count-without_instant

pub returns-clause-among : goal.returns-clause-among
returns-clause-among c = open-count
