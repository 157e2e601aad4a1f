use Rattle.std.proofs.Common.{◌≡◌, ◌∙◌, ◌-◌, List, Some, ap, slice_get, subst, sym}
use Rattle.fjall_table.specs.Blocks.{Entry, seen}
use Rattle.fjall_jobs.proofs.Blocks.{first_left}
use Rattle.fjall_jobs.proofs.blocks_run.BlocksRunRun.first.Goals as goal

pub returns : goal.returns
returns c =
    first_left c.self.inside.blocks.now c.self.inside.left c.in_ok-block.block.now c.deref-2.result.now c.len.result (seen c.entry.result) c.in_ok-block.ensures.value c.deref-2.ensures
    c.len.ensures.len
    (subst (λ (block : List Entry). slice_get block (c.len.result - c.self.inside.left) ≡ Some (seen c.entry.result)) (c.deref.ensures ∙ sym c.deref-2.ensures) c.entry.ensures) ∙ ap (λ (l : List Entry). slice_get l 0) c.self.view_is
