use Rattle.std.proofs.Common.{◌≡◌, ◌++◌, ℕ, List, drop, subst, sym, take, ◌∙◌}
use Rattle.fjall_memtable.specs.Jobs.{merged_clears}
use Rattle.fjall_memtable.specs.Memories.{memory_of}
use Rattle.fjall_tree.specs.Trees.{IsShape}
use Rattle.fjall_tree.proofs.Merged.{shape_merged}
use Rattle.fjall_tree.proofs.tree.Tree.finish_merge.Goals as goal

pub invariant_of-self-2 : goal.invariant_of-self-2
invariant_of-self-2 c =
    let m = c.args.self.now in
    let out = c.in-Some.out in
    let k = c.count_reached-reached.result in
    let reached = subst (λ (l : List ℕ). drop k l ≡ merged_clears out.watermark (take out.clears l) ++ drop out.clears l) c.as_slice.ensures.value c.count_reached-reached.ensures.reached in
    let clears = c.drop-drain.ensures.items ∙ c.drain.ensures.kept ∙ reached in
    record {
      shape = subst (λ (l : List ℕ). IsShape l (memory_of m.parts)) (sym clears) (shape_merged out.watermark out.clears m.clears.items (memory_of m.parts) m.shape);
      flushing = m.flushing;
      merging = ∣ tt ∣₁;
    }
