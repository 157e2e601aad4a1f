use Rattle.std.proofs.Common.{◌∙◌}
use Rattle.std.specs.Ordering.{nat_cmp}
use Rattle.fjall_table.proofs.Words.{fronts_order}
use Rattle.fjall_table.proofs.keys.compare_fronts.Goals as goal

pub returns : goal.returns
returns c =
    c.cmp.ensures
    ∙ (λ i. nat_cmp (c.from_be_bytes.ensures i) (c.from_be_bytes-2.ensures i))
    ∙ fronts_order c.args.front.now c.args.other.now c.told-front c.told-other c.fits-front c.fits-other
