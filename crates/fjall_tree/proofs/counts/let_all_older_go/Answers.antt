use Rattle.std.proofs.Common.{List, get_or, set, ap, ◌∙◌}
use Rattle.fjall_table_reader.specs.Readers.{Reader, aged}
use Rattle.fjall_table_reader.proofs.Several.{changed_all, changed_more}
use Rattle.fjall_tree.proofs.counts.let_all_older_go.Goals as goal

pub loop-at-preserved : goal.loop-at-preserved
loop-at-preserved c =
    let at = c.loop-at.at in
    let d = c.index-tables-at.result in
    ap (λ (ts : List Reader). set ts at c.let_older_go.new.self) c.loop-at.invariant
    ∙ changed_more aged at c.args.tables.now (get_or c.loop-at.tables at d) c.let_older_go.new.self d c.loop-at-test.true (ap (λ (ts : List Reader). get_or ts at d) c.loop-at.invariant) c.let_older_go.ensures

pub returns : goal.returns
returns c = c.loop-at.invariant ∙ changed_all aged c.loop-at.at c.args.tables.now c.loop-at-test.false
