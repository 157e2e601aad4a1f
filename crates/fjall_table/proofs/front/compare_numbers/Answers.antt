use Rattle.std.proofs.Common.{◌∙◌}
use Rattle.fjall_table.proofs.Fronts.{number_order}
use Rattle.fjall_table.proofs.front.compare_numbers.Goals as goal

pub returns : goal.returns
returns c = c.cmp.ensures ∙ number_order 16 c.args.front c.args.other c.ranges.front.fits c.ranges.other.fits
