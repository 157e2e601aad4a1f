use Rattle.std.proofs.Common.{refl}
use Rattle.fjall_jobs.proofs.Rooms.{room_kept, room_made}
use Rattle.fjall_jobs.proofs.sequence.TableSequence.make_room.Goals as goal

pub returns-then-is_due-clause-room : goal.returns-then-is_due-clause-room
returns-then-is_due-clause-room c closed s =
    room_made c.args.self.now c.close.new.self closed c.args.key.now c.close.result s ((c.is_due.ensures closed s).0 c.if-is_due.true)
    (λ some. c.close.ensures.closed closed s.made some) c.close.ensures.empty c.close.ensures.size c.close.ensures.target

pub returns-clause-room : goal.returns-clause-room
returns-clause-room c closed s = (closed, room_kept c.args.self.now closed c.args.key.now s (λ due. cc (c.if-is_due.false, (c.is_due.ensures closed s).1 due)), refl)
