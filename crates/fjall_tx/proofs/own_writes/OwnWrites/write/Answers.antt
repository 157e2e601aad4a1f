use Rattle.std.proofs.Common.{sym}
use Rattle.fjall_tx.proofs.Writable.{nothing_due}
use Rattle.fjall_tx.proofs.own_writes.OwnWrites.write.Goals as goal

pub exchange-requires : goal.exchange-requires
exchange-requires c = record { fits = rw (sym c.as_slice.ensures, sym c.bytes.ensures) (nothing_due _ _ c.in_ok-check_item.ensures) }
