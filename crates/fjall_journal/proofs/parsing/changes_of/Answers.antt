use Rattle.std.proofs.Common.{arith}
use Rattle.std.proofs.lemmas.Result.{err_from_is_err_and}
use Rattle.fjall_journal.specs.Steps.{changes_at}
use Rattle.fjall_journal.proofs.Loops.{goes_on, ends, is_done}
use Rattle.fjall_journal.proofs.parsing.changes_of.Goals as goal

pub returns-in_err-change-clause-gives : goal.returns-in_err-change-clause-gives
returns-in_err-change-clause-gives c =
    let p = err_from_is_err_and c.from_residual.result c.from_residual.ensures.1 in
    rw (p.1, p.2) (ends c.in_err-change.field-0.0 (c.loop.items.items, c.loop.clears.items) c.args.count c.loop.counter c.loop.rest.now (changes_at c.args.count c.args.bytes.now) c.loop-test.true c.in_err-change.ensures.gives c.loop.invariant.so_far)

pub loop-preserved : goal.loop-preserved
loop-preserved c = record {
  so_far = rw (c.in_ok-put_change.ensures.items, c.in_ok-put_change.ensures.clears)
      (goes_on (c.loop.items.items, c.loop.clears.items) c.args.count c.loop.counter c.loop.rest.now c.in_ok-change.change c.in_ok-change.after.now (changes_at c.args.count c.args.bytes.now) c.loop-test.true c.in_ok-change.ensures.gives c.loop.invariant.so_far);
  shorter = omega (arith, c.in_ok-change.ensures.shorter, c.loop.invariant.shorter);
  left = c.in_ok-change.ensures.rest;
}

pub returns-clause-gives : goal.returns-clause-gives
returns-clause-gives c = is_done (c.loop.items.items, c.loop.clears.items) c.args.count c.loop.counter c.loop.rest.now (changes_at c.args.count c.args.bytes.now) c.loop-test.false c.loop.invariant.so_far
