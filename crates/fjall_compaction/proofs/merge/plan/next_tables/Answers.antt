use Rattle.std.proofs.Common.{◌++◌, ◌∷◌, [], List, ap, drop, ◌∙◌, sym, take_all}
use Rattle.fjall_jobs.specs.declared.made_table.MadeTable.{MadeTable}
use Rattle.fjall_compaction.specs.Merges.{merged_infos}
use Rattle.fjall_compaction.proofs.Naming.{infos_more}
use Rattle.fjall_compaction.proofs.merge.plan.next_tables.Goals as goal

pub loop-at-init : goal.loop-at-init
loop-at-init c = c.new-infos.ensures.items

pub loop-at-preserved : goal.loop-at-preserved
loop-at-preserved c =
    c.in_ok-push.ensures.items
    ∙ (λ k. c.loop-at.invariant k ++ c.info.ensures k ∷ [])
    ∙ sym (infos_more c.args.last.now.next_table_id c.args.tables.now c.loop-at.at c.index-tables-at.result c.index-tables-at.is c.loop-at-test.true)

pub returns-clause-tables : goal.returns-clause-tables
returns-clause-tables c =
    let all = ap (λ (l : List MadeTable). merged_infos c.args.last.now.next_table_id l) (take_all c.loop-at.at c.args.tables.now c.loop-at-test.false) in
    c.in_ok-extend_from_slice.ensures.items ∙ (λ k. (c.loop-at.invariant ∙ all) k ++ (c.behind.ensures ∙ ap (drop c.args.count) c.deref.ensures.value) k)
