use Rattle.std.proofs.Common.{List, length, ◌++◌}
use Rattle.std.specs.Prelude.{Option}
use Rattle.std.specs.List.{AllZip}
use Rattle.fjall_lines.specs.declared.command.Command.{Command}
use Rattle.fjall_lines.specs.Lines.{lines_of}
use Rattle.fjall_lines.specs.Hearing.{Hears}
use Rattle.fjall_lines.proofs.script.commands.Given as goal

abbrev pub invariant-loop-rest : goal.invariant-loop-rest
invariant-loop-rest l = (more : List (Option Command)) → AllZip (Hears l.fn.crashes) (lines_of l.rest) more → AllZip (Hears l.fn.crashes) (lines_of l.fn.text) (l.commands.items ++ more)

abbrev pub decreases-loop-rest : goal.decreases-loop-rest
decreases-loop-rest l = length l.rest
