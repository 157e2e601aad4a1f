use Rattle.std.proofs.Common.{max, ap, sym, ◌∙◌}
use Rattle.fjall_memtable.specs.SortedPages.{barrier}
use Rattle.fjall_memtable.specs.Parts.{clears_in, parts_of}
use Rattle.fjall_memtable.specs.Memories.{memory_of}
use Rattle.fjall_tree.proofs.Shows.{barrier-append}
use Rattle.fjall_tree.proofs.tree.Tree.barrier.Goals as goal

pub returns : goal.returns
returns c =
    let m = c.args.self.now in
    let recorded = c.greatest_below.ensures ∙ ap (barrier c.args.instant) c.as_slice.ensures.value in
    c.max.ensures ∙ (λ i. max (recorded i) (c.barrier.ensures i)) ∙ sym (barrier-append c.args.instant m.clears.items (clears_in (parts_of (memory_of m.parts))))
