use Rattle.std.proofs.Common.{◌≡◌, drop}
use Rattle.fjall_options.specs.Options.{value_of}
use Rattle.fjall_meta.proofs.reading.find.Given as goal

abbrev pub invariant-loop-stored : goal.invariant-loop-stored
invariant-loop-stored l = value_of l.key l.pairs ≡ value_of l.key (drop l.stored-index l.pairs)
