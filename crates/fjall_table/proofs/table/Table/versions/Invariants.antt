use Rattle.std.proofs.Common.{map}
use Rattle.fjall_table.specs.Blocks.{seen}
use Rattle.fjall_table.specs.TableReading.{handle_of}
use Rattle.fjall_table.proofs.TableScans.{Gathered}
use Rattle.fjall_table.proofs.table.Table.versions.Given as goal

abbrev pub invariant-loop-at : goal.invariant-loop-at
invariant-loop-at l = Gathered l.self.bytes.now (map handle_of l.self.index.handles.items) l.at l.full (map seen l.versions.items)
