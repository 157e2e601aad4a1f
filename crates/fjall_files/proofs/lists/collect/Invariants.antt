use Rattle.fjall_files.specs.Sought.{Is}
use Rattle.fjall_files.proofs.Collecting.{Collected}
use Rattle.fjall_files.proofs.lists.collect.Given as goal

abbrev pub invariant-loop-entry : goal.invariant-loop-entry
invariant-loop-entry l = Collected (Is l.sought) l.listed l.entry-index l.ids.items
