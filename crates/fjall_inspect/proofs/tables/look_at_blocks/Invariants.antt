use Rattle.std.proofs.Common.{take}
use Rattle.fjall_table.specs.declared.index.BlockHandle.{BlockHandle}
use Rattle.fjall_table.specs.TableReading.{handle_of}
use Rattle.fjall_inspect.specs.Faults.{AreToldOf, BlockTells}
use Rattle.fjall_inspect.proofs.tables.look_at_blocks.Given as goal

abbrev pub invariant-loop-at : goal.invariant-loop-at
invariant-loop-at l = AreToldOf (λ (h : BlockHandle). BlockTells l.file l.table.bytes.now (handle_of h)) (take l.at l.table.index.handles.items) l.faults.items
