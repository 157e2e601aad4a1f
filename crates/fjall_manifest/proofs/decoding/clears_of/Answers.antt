use Rattle.std.proofs.Common.{refl}
use Rattle.fjall_base.specs.Fields.{many_at, number_at}
use Rattle.fjall_manifest.proofs.Loops.{goes_on, stops, is_done}
use Rattle.fjall_manifest.proofs.decoding.clears_of.Goals as goal

pub returns-in_default : goal.returns-in_default
returns-in_default c = (refl, stops (number_at 8) c.loop.clears.items c.args.count c.loop.counter c.loop.rest.now (many_at (number_at 8) c.args.count c.args.bytes.now) c.loop-test.true c.in_default.ensures c.loop.invariant)

pub loop-preserved : goal.loop-preserved
loop-preserved c =
    rw c.in_ok-push.ensures.items (goes_on (number_at 8) c.loop.clears.items c.args.count c.loop.counter c.loop.rest.now c.in-Some.clear c.in-Some.after.now (many_at (number_at 8) c.args.count c.args.bytes.now) c.loop-test.true c.in-Some.ensures c.loop.invariant)

pub returns : goal.returns
returns c = is_done (number_at 8) c.loop.clears.items c.args.count c.loop.counter c.loop.rest.now (many_at (number_at 8) c.args.count c.args.bytes.now) c.loop-test.false c.loop.invariant
