use Rattle.std.proofs.Common.{drop}
use Rattle.fjall_script.proofs.Calling.{MadeSoFar}
use Rattle.fjall_script.proofs.calls.LineCalls.of_lines.Given as goal

-- the calls so far, and whichever those of the lines to come are
abbrev pub invariant-loop-found : goal.invariant-loop-found
invariant-loop-found l = MadeSoFar l.fn.earlier l.commands (drop l.found-index l.commands) l.lines
