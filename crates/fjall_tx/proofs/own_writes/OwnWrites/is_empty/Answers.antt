use Rattle.std.proofs.Common.{ap, length}
use Rattle.std.specs.FinMap.{from_entries}
use Rattle.fjall_tx.specs.Owns.{key_order}
use Rattle.fjall_tx.proofs.Keys.{empty_entries, no_entries}
use Rattle.fjall_tx.proofs.own_writes.OwnWrites.is_empty.Goals as goal

pub returns : goal.returns
returns c =
    let es = c.self.inside.writes.entries in
    rw (← c.self.view_is) (
      λ t. ap (λ xs. from_entries {R = key_order} xs) (no_entries es (c.is_empty.ensures.0 t)),
      λ e. c.is_empty.ensures.1 (ap length (empty_entries es e)),
    )
