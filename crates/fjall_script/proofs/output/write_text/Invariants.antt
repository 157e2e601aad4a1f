use Rattle.fjall_script.proofs.Writing.{Wrote}
use Rattle.fjall_script.proofs.output.write_text.Given as goal

-- what was written, and what is left
abbrev pub invariant-loop : goal.invariant-loop
invariant-loop g l = Wrote (g.W.Write.contents l.fn.output) (g.W.Write.contents l.output) l.fn.text l.rest
