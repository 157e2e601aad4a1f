use Rattle.fjall_c.proofs.Packing.{full}
use Rattle.fjall_c.proofs.pack.pack_pairs.Goals as goal

pub returns-in_default : goal.returns-in_default
returns-in_default c =
    let so = c.loop-key.invariant in
    let none = c.in_default.ensures.none in
    full c.args.pairs.now c.args.room.now c.loop-key.room c.put_pair.new.room c.loop-key.page c.loop-key.key-index c.loop-key-item.result
    c.as_slice.result.now c.as_slice-in-loop-key.result.now so.count c.loop-key-test.true c.loop-key-item.is
    so.len so.fits c.loop-key.auto.room so.front so.behind none.0 c.as_slice.ensures c.as_slice-in-loop-key.ensures none.1
