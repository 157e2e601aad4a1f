-- What a reader of a core shows, and why its reads are refused.
use Rattle.std.specs.Prelude.{Bool, ◌≡◌, ◌⊎◌, ⊤, ℕ, [], IfSome, IsTrue, Option}
use Rattle.std.specs.Borrow.{MutBor}
use Rattle.fjall_base.specs.Pairs.{Pairs}
use Rattle.fjall_base.specs.Store.{map_at}
use Rattle.fjall_base.specs.declared.error.Error.{Error}
use Rattle.fjall_base.specs.declared.error.Error.TheVariants.{OutOfMemory}
use Rattle.fjall_history.specs.declared.ticket.View.{View}
use Rattle.fjall_trees.specs.Maps.{pairs_in}
use Rattle.fjall_machine.specs.Machine.{State, first_due, maps_in, view_refusals}
use Rattle.fjall_machine.specs.Reads as reads
use Rattle.fjall_machine.specs.Remembered.{facts_of, instant_in}
use Rattle.fjall_engine.specs.Holding.{Held}
use Rattle.fjall_engine.specs.Standing.{Looks, ReadsOn, StandsFor, tables_of}
use Rattle.fjall_core.specs.Leaving.{LeavesStanding}

-- A core shows this map of a keyspace in a view. Of a keyspace without tables it is the one that stands in memory; over a disk that
-- returns what it holds, it is the one of each state that the core stands for and whose tables its disk has.
abbrev pub Shows : Bool → Held → View → ℕ → Pairs → Type 0
Shows honest core view id map =
    ((tables_of core id ≡ []) × (map ≡ pairs_in id (instant_in core.memory view) core.memory.trees))
    ⊎ (IsTrue honest × ((s : State) × StandsFor core s × ReadsOn core s × (map ≡ map_at (maps_in s view) id)))

-- the refusal that is due for a read of a keyspace in a view of a core
abbrev pub read_due : Held → View → ℕ → Option Error
read_due core view id = first_due (view_refusals (facts_of core.memory core.catalog.next_table_id) view id)

-- A read of a keyspace in the view is refused so, and leaves this: by the refusal that is due; and where none is, for want of memory,
-- and where the keyspace has a table for a fault of the disk or a wrong block.
abbrev pub IsRefusedFor : Held → View → ℕ → Held → Error → Type 0
IsRefusedFor old view id new error = reads.IsReadRefusal (read_due old view id) ⊤ (tables_of old id) old.disk new.disk error

-- so is a reader's read of it, or memory is used up
abbrev pub IsReaderRefusal : Held → View → ℕ → Held → Error → Type 0
IsReaderRefusal old view id new error = (error ≡ OutOfMemory) ⊎ IsRefusedFor old view id new error

-- Reads of a keyspace leave the core, which stays lent, as it was but for what is kept of its tables, and the view as it was; what stood
-- stands; and the error that they met, where they met one, is such a refusal.
pub record ReadsKeyspace (honest : Bool) (old : MutBor Held) (from : View) (id : ℕ) (error : Option Error) (new : MutBor Held) (to : View) : Type 0 where
  pub looks : Looks old.now new.now
  pub stand : LeavesStanding honest old.now new.now
  pub lent : new.ghost_name ≡ old.ghost_name
  pub same : to ≡ from
  pub cause : IfSome error (IsReaderRefusal old.now from id new.now)
