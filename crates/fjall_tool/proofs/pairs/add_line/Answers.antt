use Rattle.std.proofs.Common.{◌∙◌}
use Rattle.fjall_tool.proofs.Spellings.{removal_added, value_added}
use Rattle.fjall_tool.proofs.pairs.add_line.Goals.{in-Some-value+in_ok-write-in-Some-value, in-None+in_ok-write_tombstone-in-None}
use Rattle.fjall_tool.proofs.pairs.add_line.Goals as goal

pub returns-clause-added : goal.returns-clause-added
returns-clause-added c done = elim c.match-value.branch [
  | in-Some-value+in_ok-write-in-Some-value w ↦ value_added _ _ _ _ _ _ _ c.in_ok-key.ensures c.in-Some.is w.in-Some-value.is (w.ingestion-is ∙ w.in_ok-write-in-Some-value.ensures.ok)
  | in-None+in_ok-write_tombstone-in-None w ↦ removal_added _ _ _ _ _ _ c.in_ok-key.ensures c.in-Some.is w.in-None.is (w.ingestion-is ∙ w.in_ok-write_tombstone-in-None.ensures.ok)
]
