use Rattle.fjall_base.specs.Pairs.{key_range}
use Rattle.fjall_cursors.specs.Tables.{StartsAt}
use Rattle.fjall_cursors.proofs.starts.page_runs.Given as goal

abbrev pub invariant-loop-run : goal.invariant-loop-run
invariant-loop-run l = StartsAt (key_range l.range) l.back l.tables l.yielded l.runs.items
