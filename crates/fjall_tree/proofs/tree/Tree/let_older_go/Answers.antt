use Rattle.std.proofs.Common.{◌≡◌, List, length, ap, arith, sym, subst, ◌∙◌}
use Rattle.std.proofs.lemmas.List.{with_items_is}
use Rattle.fjall_table_reader.specs.Readers.{AreRead, Reader, all_aged}
use Rattle.fjall_table_reader.proofs.Several.{all_aged_read}
use Rattle.std.specs.Vec.{with_items}
use Rattle.fjall_tree.proofs.Outstanding.{merge_read}
use Rattle.fjall_tree.proofs.tree.Tree.let_older_go.Goals as goal

pub invariant_of-self : goal.invariant_of-self
invariant_of-self c =
    let m = c.args.self.now in
    let v = m.tables in
    let len : length c.let_all_older_go.new.tables ≡ v.len = omega (arith, c.let_all_older_go.auto.tables, c.as_mut_slice.ensures.len, ap length c.as_mut_slice.ensures.value, v.ok.0) in
    let kept = with_items_is v c.let_all_older_go.new.tables len in
    let count : length (with_items v c.let_all_older_go.new.tables).items ≡ length v.items = ap length kept ∙ len ∙ v.ok.0 in
    record { shape = m.shape; flushing = m.flushing; merging = merge_read v.items (with_items v c.let_all_older_go.new.tables).items m.clears.items m.merge count m.merging }

pub returns-clause-reads : goal.returns-clause-reads
returns-clause-reads c disk entries r =
    let v = c.args.self.now.tables in
    let len : length c.let_all_older_go.new.tables ≡ v.len = omega (arith, c.let_all_older_go.auto.tables, c.as_mut_slice.ensures.len, ap length c.as_mut_slice.ensures.value, v.ok.0) in
    let kept = with_items_is v c.let_all_older_go.new.tables len ∙ c.let_all_older_go.ensures ∙ ap all_aged c.as_mut_slice.ensures.value in
    record {
      tables = subst (λ (ts : List Reader). AreRead disk ts entries) (sym kept) (all_aged_read disk v.items entries r.tables);
      below = r.below;
      once = r.once;
    }
