use Rattle.std.specs.Prelude.{length, map}
use Rattle.fjall_lines.specs.Fills.{named_bytes}
use Rattle.fjall_lines.proofs.Filling.{Taken}
use Rattle.fjall_lines.proofs.parsing.fills.Given as goal

-- the fills so far, and the words that are left
abbrev pub invariant-loop-rest : goal.invariant-loop-rest
invariant-loop-rest l = Taken (map (λ word. word.now) l.fn.words) (map named_bytes l.items.items) (map (λ word. word.now) l.rest)

abbrev pub decreases-loop-rest : goal.decreases-loop-rest
decreases-loop-rest l = length l.rest
