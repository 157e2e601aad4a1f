use Rattle.std.proofs.Common.{◌∙◌}
use Rattle.fjall_table_reader.proofs.Searches.{up_to_included, up_to_excluded, up_to_none}
use Rattle.fjall_table_reader.proofs.block.Block.count_up_to.Goals as goal

pub returns-in-Included-clause-count : goal.returns-in-Included-clause-count
returns-in-Included-clause-count c = rw c.in-Included.is (c.count_ahead.ensures.count ∙ up_to_included c.in-Included.key.now c.args.self.now)

pub returns-in-Excluded-clause-count : goal.returns-in-Excluded-clause-count
returns-in-Excluded-clause-count c = rw c.in-Excluded.is (c.count_ahead-in-Excluded.ensures.count ∙ up_to_excluded c.in-Excluded.key.now c.args.self.now)

pub returns-in-Unbounded-clause-count : goal.returns-in-Unbounded-clause-count
returns-in-Unbounded-clause-count c = rw c.in-Unbounded.is (c.len.ensures.len ∙ up_to_none c.args.self.now)
