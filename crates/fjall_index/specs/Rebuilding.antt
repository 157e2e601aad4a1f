-- How an index is made right, whatever stood there.
use Rattle.std.specs.Prelude.{◌≡◌, ◌≢◌, ℕ, List, OnErr, OnOk, Result, map}
use Rattle.std.specs.declared.ops.Bound.TheVariants.{Unbounded}
use Rattle.fjall_base.specs.Pairs.{Pairs}
use Rattle.fjall_base.specs.Store.{Store, map_at}
use Rattle.fjall_journal.specs.Ops.{BatchItem, item_in}
use Rattle.fjall_tx.specs.Marks.{Mark, OfRange}
use Rattle.fjall_machine.specs.Machine.{present}
use Rattle.fjall_core.specs.CoreStanding.{ReadsOn}
use Rattle.fjall_core.specs.Holding.{Held}
use Rattle.fjall_core.specs.Standing.{StandFor, CoreState}
use Rattle.fjall_core.specs.Transactions.{Kept, Tx, having_read, with_own_items}
use Rattle.fjall_index_entries.specs.Index.{FieldOf}
use Rattle.fjall_index_entries.specs.Keeping.{IsIndexed}
use Rattle.fjall_index_entries.specs.Repairs.{AreRepairs}
use Rattle.fjall_index.specs.Opening.{Arrives}

-- the mark of a whole keyspace
abbrev pub whole : ℕ → Mark
whole id = OfRange id Unbounded Unbounded

-- The transaction has marked both keyspaces as read whole, and has one own write more for each change that makes the index keyspace's map the index of the
-- main one's, where the two had these maps.
pub record HasRepaired (field : FieldOf) (main index : ℕ) (pairs found : Pairs) (old new : Tx) : Type 0 where
  pub batch : List BatchItem
  pub repairs : AreRepairs field index pairs found (map item_in batch)
  pub is : new ≡ with_own_items (having_read (having_read old (whole main)) (whole index)) batch

-- Between two stores a call that is answered so has made the index keyspace's map the index of the main one's, and changed nothing else; where it is refused
-- it has changed nothing.
pub record IsRebuilt {T E : Type 0} (field : FieldOf) (main index : ℕ) (answer : Result T E) (old new : Store) : Type 0 where
  pub indexed : OnOk answer (IsIndexed field main index new.maps)
  pub others : (id : ℕ) → id ≢ index → map_at new.maps id ≡ map_at old.maps id
  pub same : OnErr answer (map_at new.maps index ≡ map_at old.maps index)

-- so it goes on from whichever state the core stood for
abbrev pub Rebuilds : {T E : Type 0} → FieldOf → ℕ → ℕ → Held → Kept → Result T E → Held → Kept → Type 0
Rebuilds field main index old before answer new after =
    (t : CoreState) → StandFor old before t → ReadsOn old t.state → (next : CoreState) × Arrives t next new after × IsRebuilt field main index answer (present t.state) (present next.state)
