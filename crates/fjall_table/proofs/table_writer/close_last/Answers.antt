use Rattle.fjall_table.proofs.TableWriting.{all_are_full, closed_last}
use Rattle.fjall_table.proofs.table_writer.close_last.Goals as goal

pub returns-then-is_empty-clause-full : goal.returns-then-is_empty-clause-full
returns-then-is_empty-clause-full c = all_are_full c.args.closed_blocks.now

pub returns-clause-full : goal.returns-clause-full
returns-clause-full c = closed_last c.close.result c.args.closed_blocks.now c.close.new.self c.args.open_block.now c.close.ensures.ok
