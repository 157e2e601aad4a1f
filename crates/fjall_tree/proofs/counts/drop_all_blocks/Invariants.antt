use Rattle.std.proofs.Common.{◌≡◌}
use Rattle.fjall_table_reader.specs.Readers.{Reader, unread}
use Rattle.fjall_table_reader.proofs.Several.{first_changed}
use Rattle.fjall_tree.proofs.counts.drop_all_blocks.Given as goal

abbrev pub invariant-loop-at : goal.invariant-loop-at
invariant-loop-at l = l.tables ≡ first_changed (λ (t : Reader). unread t.name t.info t.handles) l.at l.initial.tables
