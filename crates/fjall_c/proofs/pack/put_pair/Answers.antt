use Rattle.fjall_c.proofs.Packing.{pair_put}
use Rattle.fjall_c.proofs.pack.put_pair.Goals as goal

pub returns-clause-front : goal.returns-clause-front
returns-clause-front c =
    pair_put c.args.at c.args.room.now c.put_at.new.room c.put_at-2.new.room c.put_at-3.new.room c.put_at-4.new.room c.to_le_bytes.result c.to_le_bytes-2.result
    c.args.key.now c.args.value.now c.to_le_bytes.ensures c.to_le_bytes-2.ensures c.put_at.ensures.front c.put_at-2.ensures.front c.put_at-3.ensures.front c.put_at-4.ensures.front
