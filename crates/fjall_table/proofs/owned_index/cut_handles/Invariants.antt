use Rattle.fjall_table.proofs.Copies.{IsCopied}
use Rattle.fjall_table.proofs.owned_index.cut_handles.Given as goal

abbrev pub invariant-loop-handle : goal.invariant-loop-handle
invariant-loop-handle l = IsCopied l.handles l.handle-index l.copies.items l.rest
