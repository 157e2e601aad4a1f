use Rattle.std.proofs.Common.{arith, length-append}
use Rattle.std.proofs.lemmas.Result.{err_from_is_err_and}
use Rattle.fjall_options.specs.Policies.{entries_at}
use Rattle.fjall_options.proofs.Spelled.{goes_on, ends, is_done}
use Rattle.fjall_options.proofs.options.policy.entries_of.Goals as goal

pub returns-in_err-entry-clause-gives : goal.returns-in_err-entry-clause-gives
returns-in_err-entry-clause-gives g c =
    let p = err_from_is_err_and c.from_residual.result c.from_residual.ensures.1 in
    let at = g.T.PolicyEntry.entry_at in
    rw (p.1, p.2) (ends at c.in_err-entry.field-0.0 c.loop.entries.items c.args.count c.loop.counter c.loop.rest.now (entries_at at c.args.count c.args.bytes.now) c.loop-test.true c.in_err-entry.ensures c.loop.invariant.so_far)

pub loop-preserved : goal.loop-preserved
loop-preserved g c =
    let at = g.T.PolicyEntry.entry_at in
    record {
      so_far = rw c.in_ok-push.ensures.items (goes_on at c.loop.entries.items c.args.count c.loop.counter c.loop.rest.now c.in_ok-entry.entry c.in_ok-entry.after.now (entries_at at c.args.count c.args.bytes.now) c.loop-test.true c.in_ok-entry.ensures c.loop.invariant.so_far);
      count = rw c.in_ok-push.ensures.items (simp length-append (omega (arith, c.loop.invariant.count)));
    }

pub returns-clause-gives : goal.returns-clause-gives
returns-clause-gives g c = let at = g.T.PolicyEntry.entry_at in is_done at c.loop.entries.items c.args.count c.loop.counter c.loop.rest.now (entries_at at c.args.count c.args.bytes.now) c.loop-test.false c.loop.invariant.so_far
