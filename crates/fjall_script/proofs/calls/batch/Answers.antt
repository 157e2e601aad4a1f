use Rattle.std.proofs.Common.{refl}
use Rattle.fjall_script.proofs.calls.batch.Goals as goal

pub returns-clause-ok : goal.returns-clause-ok
returns-clause-ok c = record { items = c.in_ok-items.items; is = refl; same = c.in_ok-items.ensures.ok }
