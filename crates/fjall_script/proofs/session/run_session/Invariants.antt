use Rattle.std.proofs.Common.{true, length}
use Rattle.fjall_script.specs.Sessions.{IsAtStop}
use Rattle.fjall_script.proofs.Passing.{Prints}
use Rattle.fjall_script.proofs.session.run_session.Given as goal

abbrev pub invariant-loop-stop : goal.invariant-loop-stop
invariant-loop-stop g l = record {
  so_far : Prints l.fn.mode g.P.Disk.Disk.honest l.fn.commands true l.core.engine l.core.transactions l.rest (g.W.Write.contents l.fn.output) (g.W.Write.contents l.output) l.asked;
  stop : IsAtStop l.rest;
}

abbrev pub decreases-loop-stop : goal.decreases-loop-stop
decreases-loop-stop g l = length l.rest
