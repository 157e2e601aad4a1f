-- Calls of the engine that have nothing to do with an index.
use Rattle.std.specs.Prelude.{◌≢◌, All, ℕ}
use Rattle.fjall_base.specs.Store.{Clear, Command, Create, Delete, Write}

-- A command that leaves a keyspace alone which lives: it writes nothing to it, and takes neither its pairs nor its name away.
abbrev pub LeavesAlone : ℕ → Command → Type 0
LeavesAlone id (Write items) = All (λ one. one.id ≢ id) items
LeavesAlone id (Clear other) = other ≢ id
LeavesAlone id (Create name options) = Unit {0}
LeavesAlone id (Delete other) = other ≢ id
