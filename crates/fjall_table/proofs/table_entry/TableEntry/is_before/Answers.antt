use Rattle.std.proofs.Common.{sym}
use Rattle.fjall_base.specs.Pairs.{byte_order}
use Rattle.fjall_table.proofs.BlockParts.{keys_are_equal, keys_descend}
use Rattle.fjall_table.proofs.table_entry.TableEntry.is_before.Goals as goal

pub returns-in-Equal : goal.returns-in-Equal
returns-in-Equal c = keys_are_equal (byte_order c.args.self.now.key.now c.args.other.now.key.now) c.args.self.now.number c.args.other.now.number (sym c.in-Equal.ensures)

pub returns-in-Greater : goal.returns-in-Greater
returns-in-Greater c = keys_descend (byte_order c.args.self.now.key.now c.args.other.now.key.now) c.args.self.now.number c.args.other.now.number (sym c.in-Greater.ensures)
