-- What closes tickets alone collects.
use Rattle.std.proofs.Common.{Bool}
use Rattle.fjall_shared.specs.Locked.{Locked}
use Rattle.fjall_shared.specs.Does.{ClosesNone, ClosesOne, ClosesTicket, ClosesTickets, Collects, CollectsNone}

pub closed_collects : (honest : Bool) (old new : Locked) → ClosesTickets honest old new → Collects honest old new
closed_collects honest old new ClosesNone = CollectsNone
closed_collects honest old new (ClosesOne mid last before id reply closes) = ClosesTicket mid last (closed_collects honest old mid before) id reply closes
