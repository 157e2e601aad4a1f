use Rattle.std.proofs.Common.{◌≡◌, List, length, ap, arith, sym, subst, ◌∙◌}
use Rattle.std.proofs.lemmas.List.{with_items_is}
use Rattle.fjall_table_reader.specs.Readers.{AreRead, Reader, all_unread}
use Rattle.fjall_table_reader.proofs.Several.{all_unread_read}
use Rattle.std.specs.Vec.{with_items}
use Rattle.fjall_tree.proofs.Outstanding.{merge_read}
use Rattle.fjall_tree.proofs.tree.Tree.drop_blocks.Goals as goal

pub invariant_of-self : goal.invariant_of-self
invariant_of-self c =
    let m = c.args.self.now in
    let v = m.tables in
    let len : length c.drop_all_blocks.new.tables ≡ v.len = omega (arith, c.drop_all_blocks.auto.tables, c.as_mut_slice.ensures.len, ap length c.as_mut_slice.ensures.value, v.ok.0) in
    let kept = with_items_is v c.drop_all_blocks.new.tables len in
    let count : length (with_items v c.drop_all_blocks.new.tables).items ≡ length v.items = ap length kept ∙ len ∙ v.ok.0 in
    record { shape = m.shape; flushing = m.flushing; merging = merge_read v.items (with_items v c.drop_all_blocks.new.tables).items m.clears.items m.merge count m.merging }

pub returns-clause-reads : goal.returns-clause-reads
returns-clause-reads c disk entries r =
    let v = c.args.self.now.tables in
    let len : length c.drop_all_blocks.new.tables ≡ v.len = omega (arith, c.drop_all_blocks.auto.tables, c.as_mut_slice.ensures.len, ap length c.as_mut_slice.ensures.value, v.ok.0) in
    let kept = with_items_is v c.drop_all_blocks.new.tables len ∙ c.drop_all_blocks.ensures ∙ ap all_unread c.as_mut_slice.ensures.value in
    record {
      tables = subst (λ (ts : List Reader). AreRead disk ts entries) (sym kept) (all_unread_read disk v.items entries r.tables);
      below = r.below;
      once = r.once;
    }
