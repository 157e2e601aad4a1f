use Rattle.std.proofs.Common.{List, sym, subst, map, take, arith}
use Rattle.fjall_table.specs.Blocks.{Entry}
use Rattle.fjall_cursors.specs.Heads.{HasFirst}
use Rattle.fjall_cursors.proofs.Heads.{taken_run, taken_len}
use Rattle.fjall_cursors.proofs.run.first_of.Goals as goal

pub loop-at-preserved : goal.loop-at-preserved
loop-at-preserved g c =
    let left = g.R.Run.left in
    let runs = c.args.runs.now in
    let at = c.loop-at.at in
    let run = c.index-runs-at.result in
    let lt = c.loop-at-test.true in (
      subst (λ (rs : List (List Entry)). HasFirst c.args.back rs c.first_with-best.result) (sym (taken_run left runs at run lt c.index-runs-at.is))
          (c.first_with-best.ensures.first (take at (map left runs)) (left run) (taken_len left runs at (omega arith)) c.first.ensures c.loop-at.invariant.0),
      c.first_with-best.ensures.within c.loop-at.invariant.1,
    )
