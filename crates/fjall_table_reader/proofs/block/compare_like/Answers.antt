use Rattle.std.proofs.Common.{◌∙◌, arith}
use Rattle.fjall_table_reader.proofs.Fronted.{short_order}
use Rattle.fjall_table_reader.proofs.block.compare_like.Goals as goal

pub returns-then-other-le-FRONT_LEN : goal.returns-then-other-le-FRONT_LEN
returns-then-other-le-FRONT_LEN c =
    c.cmp.ensures ∙ short_order c.args.key.now c.args.other.now c.requires (omega (arith, c.if-key-le-FRONT_LEN.true)) (omega (arith, c.if-other-le-FRONT_LEN.true))
