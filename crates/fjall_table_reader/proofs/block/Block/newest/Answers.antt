use Rattle.std.proofs.Common.{◌∙◌, arith, sym}
use Rattle.fjall_table_reader.proofs.Searches.{newest_alike, newest_none, newest_unlike}
use Rattle.fjall_table_reader.proofs.block.Block.newest.Goals as goal

pub returns-then-at-len-clause-version : goal.returns-then-at-len-clause-version
returns-then-at-len-clause-version c =
    newest_none c.args.key.now c.args.instant c.args.self.now (omega (arith, c.count_ahead-at.ensures.count, c.if-at-len.true, c.len.ensures.len))

pub returns-then-is_ne-clause-version : goal.returns-then-is_ne-clause-version
returns-then-is_ne-clause-version c =
    newest_unlike c.args.key.now c.args.instant c.args.self.now c.count_ahead-at.result c.compare_key.result c.len.ensures.ordered c.count_ahead-at.ensures.count
    (omega (arith, c.if-at-len.false, c.len.ensures.len)) c.compare_key.ensures (sym c.is_ne.ensures ∙ c.if-is_ne.true)

pub returns-clause-version : goal.returns-clause-version
returns-clause-version c =
    newest_alike c.args.key.now c.args.instant c.args.self.now c.count_ahead-at.result c.compare_key.result c.len.ensures.ordered c.count_ahead-at.ensures.count
    (omega (arith, c.if-at-len.false, c.len.ensures.len)) c.compare_key.ensures (sym c.is_ne.ensures ∙ c.if-is_ne.false)
