use Rattle.fjall_memtable.specs.Memories.{memory_of}
use Rattle.fjall_tree.proofs.Outstanding.{Rotated, rotated_flush, rotated_shape}
use Rattle.fjall_tree.proofs.tree.Tree.rotate_memtable.Goals as goal

pub invariant_of-self : goal.invariant_of-self
invariant_of-self c =
    let m = c.args.self.now in
    let old = memory_of m.parts in
    let new = memory_of c.rotate.new.self in
    let is : Rotated c.rotate.result old new = (c.rotate.ensures.sealed, c.rotate.ensures.empty, c.rotate.ensures.err) in
    record {
      shape = rotated_shape c.rotate.result old new m.clears.items is m.shape;
      flushing = rotated_flush c.rotate.result old new m.flush is m.flushing;
      merging = m.merging;
    }
