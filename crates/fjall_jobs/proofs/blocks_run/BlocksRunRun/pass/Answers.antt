use Rattle.std.proofs.Common.{◌∙◌, List, ap, drop, arith}
use Rattle.fjall_table.specs.Blocks.{Entry}
use Rattle.fjall_jobs.specs.Blocks.{entries_in}
use Rattle.fjall_jobs.proofs.Blocks.{passed_on, passed_within}
use Rattle.fjall_jobs.proofs.blocks_run.BlocksRunRun.pass.Goals as goal

pub returns-then-self-gt1 : goal.returns-then-self-gt1
returns-then-self-gt1 c =
    passed_within (entries_in c.self.inside.blocks.now) c.self.inside.left c.self.invariant (omega (arith, c.if-self-gt1.true)) ∙ ap (λ (l : List Entry). drop 1 l) c.self.view_is

pub returns : goal.returns
returns c =
    c.first_len-self-inside.ensures.all
    ∙ passed_on c.self.inside.blocks.now c.in-Some.field-0-0.now c.in-Some.rest.now c.self.inside.left c.self.invariant (omega (arith, c.if-self-gt1.false)) c.in-Some.ensures.cases.0
    ∙ ap (λ (l : List Entry). drop 1 l) c.self.view_is
