use Rattle.std.proofs.Common.{refl}
use Rattle.fjall_base.specs.Fields.{many_at}
use Rattle.fjall_manifest.specs.Records.{table_at}
use Rattle.fjall_manifest.proofs.Loops.{goes_on, stops, is_done}
use Rattle.fjall_manifest.proofs.decoding.tables_of.Goals as goal

pub returns-in_default : goal.returns-in_default
returns-in_default c = (refl, stops table_at c.loop.tables.items c.args.count c.loop.counter c.loop.rest.now (many_at table_at c.args.count c.args.bytes.now) c.loop-test.true c.in_default.ensures c.loop.invariant)

pub loop-preserved : goal.loop-preserved
loop-preserved c =
    rw c.in_ok-push.ensures.items (goes_on table_at c.loop.tables.items c.args.count c.loop.counter c.loop.rest.now c.in-Some.table c.in-Some.after.now (many_at table_at c.args.count c.args.bytes.now) c.loop-test.true c.in-Some.ensures c.loop.invariant)

pub returns : goal.returns
returns c = is_done table_at c.loop.tables.items c.args.count c.loop.counter c.loop.rest.now (many_at table_at c.args.count c.args.bytes.now) c.loop-test.false c.loop.invariant
