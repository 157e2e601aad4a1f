use Rattle.std.proofs.Common.{◌≡◌}
use Rattle.fjall_table_reader.specs.Readers.{aged}
use Rattle.fjall_table_reader.proofs.Several.{first_changed}
use Rattle.fjall_tree.proofs.counts.let_all_older_go.Given as goal

abbrev pub invariant-loop-at : goal.invariant-loop-at
invariant-loop-at l = l.tables ≡ first_changed aged l.at l.initial.tables
