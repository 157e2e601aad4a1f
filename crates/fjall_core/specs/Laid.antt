-- Own writes over the map of a keyspace.
use Rattle.std.specs.Prelude.{ℕ}
use Rattle.std.specs.FinMap.{empty, insert}
use Rattle.fjall_base.specs.Pairs.{Pairs}
use Rattle.fjall_base.specs.Store.{map_at}
use Rattle.fjall_tx.specs.Owns.{Own, own_written}

-- the map of a keyspace with a transaction's own writes applied
abbrev pub laid : Own → ℕ → Pairs → Pairs
laid own id map = map_at (own_written (insert empty id map) own) id
