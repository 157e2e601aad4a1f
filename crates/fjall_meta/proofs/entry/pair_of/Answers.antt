use Rattle.std.proofs.Common.{arith}
use Rattle.fjall_options.proofs.OptionTables.{place_below}
use Rattle.fjall_meta.proofs.Options.{tag_is}
use Rattle.fjall_meta.proofs.entry.pair_of.Goals as goal

pub bounds-pairs-option : goal.bounds-pairs-option
bounds-pairs-option c = omega (arith, tag_is c.args.option, place_below c.args.option, c.requires)
