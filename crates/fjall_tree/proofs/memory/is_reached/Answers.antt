use Rattle.fjall_tree.proofs.Puts.{last_reaches}
use Rattle.fjall_tree.proofs.memory.is_reached.Goals as goal

pub returns-in-Some : goal.returns-in-Some
returns-in-Some c = last_reaches c.args.number c.args.numbers.now c.in-Some.last.now c.requires c.in-Some.ensures.value
