use Rattle.std.proofs.Common.{not, ◌++◌, ap, sym, ◌∙◌}
use Rattle.fjall_table.specs.Tables.{entries_of}
use Rattle.fjall_table.proofs.TableWriting.{ordered_back, none_written}
use Rattle.fjall_table.proofs.table_writer.TableWriter.finish.Goals as goal

pub returns-then-is_none-clause-table : goal.returns-then-is_none-clause-table
returns-then-is_none-clause-table c =
    sym c.self.view_is ∙ none_written c.self.inside.last_key.items c.self.inside.last_number (entries_of c.self.inside.closed_blocks ++ c.self.inside.open_block) (c.is_none.ensures ∙ ap not c.if-is_none.true) c.self.invariant.last

pub close_last-requires : goal.close_last-requires
close_last-requires c = ordered_back (entries_of c.self.inside.closed_blocks) c.self.inside.open_block c.self.invariant.ordered
