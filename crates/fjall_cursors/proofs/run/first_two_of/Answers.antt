use Rattle.std.proofs.Common.{List, sym, subst, map, take, arith}
use Rattle.fjall_table.specs.Blocks.{Entry}
use Rattle.fjall_cursors.specs.Heads.{HasTwo}
use Rattle.fjall_cursors.proofs.Heads.{taken_run, taken_len}
use Rattle.fjall_cursors.proofs.run.first_two_of.Goals as goal

pub loop-at-preserved : goal.loop-at-preserved
loop-at-preserved g c =
    let left = g.R.Run.left in
    let runs = c.args.runs.now in
    let at = c.loop-at.at in
    let run = c.index-runs-at.result in
    let lt = c.loop-at-test.true in
    subst (λ (rs : List (List Entry)). HasTwo c.args.back rs c.two_with.result.0 c.two_with.result.1) (sym (taken_run left runs at run lt c.index-runs-at.is))
    (c.two_with.ensures.two (take at (map left runs)) (left run) (taken_len left runs at (omega arith)) c.first.ensures c.loop-at.invariant)
