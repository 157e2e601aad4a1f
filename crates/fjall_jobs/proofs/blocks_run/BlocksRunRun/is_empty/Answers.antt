use Rattle.std.proofs.Common.{[], List, IsTrue, subst, ◌≡◌, ◌↔◌}
use Rattle.fjall_table.specs.Blocks.{Entry}
use Rattle.fjall_jobs.proofs.Blocks.{is_over}
use Rattle.fjall_jobs.proofs.blocks_run.BlocksRunRun.is_empty.Goals as goal

pub returns : goal.returns
returns c =
    subst (λ (left : List Entry). IsTrue c.is_empty.result ↔ (left ≡ [])) c.self.view_is (is_over c.self.inside.blocks.now c.self.inside.left c.is_empty.result c.is_empty.ensures c.self.invariant)
