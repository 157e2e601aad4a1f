-- A transaction that goes on beside a commit.
use Rattle.std.specs.Prelude.{ℕ, List, ◌++◌}
use Rattle.fjall_base.specs.Pairs.{Bytes}
use Rattle.fjall_consistency.specs.Consistency.{Transaction}

-- it knows which keys that wrote
abbrev pub met_by : List (ℕ × Bytes) → Transaction → Transaction
met_by keys tx = record tx { since = tx.since ++ keys }
