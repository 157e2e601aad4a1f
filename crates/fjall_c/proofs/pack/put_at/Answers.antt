use Rattle.std.proofs.Common.{arith, length, ap}
use Rattle.std.proofs.lemmas.Slice.{drop-put_mid}
use Rattle.fjall_c.proofs.pack.put_at.Goals as goal

pub returns-clause-behind : goal.returns-clause-behind
returns-clause-behind c = λ n past.
    let copied = ap length c.copy_from_slice.ensures.after in
    drop-put_mid c.args.at _ c.args.room.now c.copy_from_slice.new.self n (omega (arith, past)) (omega (arith, c.requires)) (omega (arith, copied))
