use Rattle.fjall_index.proofs.Reopening.{opening_keeps}
use Rattle.fjall_index.proofs.laws.an_opening_keeps_the_index.Goals as goal

pub returns-clause-opened : goal.returns-clause-opened
returns-clause-opened c = opening_keeps

pub returns-clause-left : goal.returns-clause-left
returns-clause-left c = λ field main index since core before t d all front within. all.amid front within.0 within.1
