use Rattle.std.proofs.Common.{[], ◌+◌, List, String, subst, sym, take, take_all}
use Rattle.std.specs.declared.alloc.Global.{Global}
use Rattle.fjall_jobs.specs.declared.made_table.MadeTable.{MadeTable}
use Rattle.fjall_compaction.specs.MergePlans.{AreNamed}
use Rattle.fjall_compaction.proofs.Naming.{named_more}
use Rattle.fjall_compaction.proofs.merge.plan.new_files.Goals as goal

pub loop-at-init : goal.loop-at-init
loop-at-init c = subst (λ (l : List (String Global)). AreNamed c.args.id c.args.next [] l) (sym c.new-files.ensures.items) tt

pub loop-at-preserved : goal.loop-at-preserved
loop-at-preserved c =
    subst (λ (l : List (String Global)). AreNamed c.args.id c.args.next (take (c.loop-at.at + 1) c.args.tables.now) l) (sym c.in_ok-push.ensures.items)
    (named_more c.args.id c.args.next c.args.tables.now c.loop-at.files.items c.loop-at.at c.in_ok-table_name.field-0 c.loop-at.invariant c.loop-at-test.true c.requires c.in_ok-table_name.ensures.name)

pub returns-clause-named : goal.returns-clause-named
returns-clause-named c =
    subst (λ (l : List MadeTable). AreNamed c.args.id c.args.next l c.loop-at.files.items) (take_all c.loop-at.at c.args.tables.now c.loop-at-test.false) c.loop-at.invariant
