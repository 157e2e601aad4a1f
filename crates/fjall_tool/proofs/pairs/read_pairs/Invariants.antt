use Rattle.std.proofs.Common.{◌≡◌}
use Rattle.std.specs.Io.Iter.{split_byte, split_known_bytes}
use Rattle.fjall_tool.proofs.Cuts.{IsReading}
use Rattle.fjall_tool.proofs.pairs.read_pairs.Given as goal

abbrev pub invariant-loop-line : goal.invariant-loop-line
invariant-loop-line g l =
    (split_byte l.line-iterator ≡ 10) × IsReading (g.R.Read.remaining l.fn.input) (split_known_bytes g.R.Read.remaining l.line-iterator) l.ingestion.items
