use Rattle.std.proofs.Common.{◌∙◌}
use Rattle.std.specs.Ordering.{nat_cmp}
use Rattle.fjall_table.proofs.Words.{words_order}
use Rattle.fjall_table.proofs.keys.compare_words.Goals as goal

pub returns : goal.returns
returns c =
    c.cmp.ensures
    ∙ (λ i. nat_cmp (c.from_be_bytes.ensures i) (c.from_be_bytes-2.ensures i))
    ∙ words_order c.args.word.now c.args.other.now c.told-word c.told-other c.fits-word c.fits-other
