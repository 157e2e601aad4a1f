use Rattle.std.proofs.Common.{◌∙◌}
use Rattle.fjall_table_reader.proofs.Searches.{before_included, before_excluded, before_none}
use Rattle.fjall_table_reader.proofs.block.Block.count_before.Goals as goal

pub returns-in-Included : goal.returns-in-Included
returns-in-Included c = rw c.in-Included.is (c.count_ahead.ensures.count ∙ before_included c.in-Included.key.now c.args.self.now)

pub returns-in-Excluded : goal.returns-in-Excluded
returns-in-Excluded c = rw c.in-Excluded.is (c.count_ahead-in-Excluded.ensures.count ∙ before_excluded c.in-Excluded.key.now c.args.self.now)

pub returns-in-Unbounded : goal.returns-in-Unbounded
returns-in-Unbounded c = rw c.in-Unbounded.is (before_none c.args.self.now)
