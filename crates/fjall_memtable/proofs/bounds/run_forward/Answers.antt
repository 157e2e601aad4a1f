use Rattle.std.proofs.Common.{[], sym, ◌∙◌}
use Rattle.fjall_base.specs.Pairs.{key_range}
use Rattle.fjall_memtable.proofs.Ranges.{nothing_within, none_at}
use Rattle.fjall_memtable.proofs.bounds.run_forward.Goals as goal

pub returns-then-are_reversed-clause-same : goal.returns-then-are_reversed-clause-same
returns-then-are_reversed-clause-same c key = none_at [] key ∙ sym (nothing_within (key_range c.args.range) key (sym c.are_reversed.ensures ∙ c.if-are_reversed.true))
