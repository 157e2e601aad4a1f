use Rattle.std.proofs.Common.{arith}
use Rattle.fjall_base.specs.Pairs.{key_range}
use Rattle.fjall_table_reader.proofs.Spans.{last_within, span_within}
use Rattle.fjall_table_reader.proofs.table_reader.TableReader.span.Goals as goal

pub returns-clause-end : goal.returns-clause-end
returns-clause-end c = let l = last_within (key_range c.args.range).1 c.args.self.now.handles in omega (arith, l, c.last_block-end.ensures.block)

pub returns-clause-holds : goal.returns-clause-holds
returns-clause-holds c blocks are same =
    span_within (key_range c.args.range) c.args.self.now.handles c.min.result c.last_block-end.result blocks are same c.last_block-end.ensures.ascend (omega (arith, c.first_block.ensures)) (omega (arith, c.last_block-end.ensures.block)) (omega arith)
