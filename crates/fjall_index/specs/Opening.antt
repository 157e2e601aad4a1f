-- How an index is opened by the names of its keyspaces.
use Rattle.std.specs.Prelude.{◌≡◌, ◌≢◌, ℕ, Some}
use Rattle.std.specs.FinMap.{get}
use Rattle.fjall_base.specs.Pairs.{Bytes}
use Rattle.fjall_base.specs.Store.{Store}
use Rattle.fjall_history.specs.Moves.{MovesOn}
use Rattle.fjall_machine.specs.Machine.{present, times}
use Rattle.fjall_core.specs.Durables.{Durable}
use Rattle.fjall_core.specs.Holding.{Held}
use Rattle.fjall_core.specs.CoreStanding.{ReadsOn}
use Rattle.fjall_core.specs.Standing.{StandFor, CoreState}
use Rattle.fjall_core.specs.Transactions.{Kept}
use Rattle.fjall_index_entries.specs.Index.{FieldOf}
use Rattle.fjall_index_entries.specs.Keeping.{IsIndexed}
use Rattle.fjall_index.specs.Standing.{StandsIndexed, StaysIndexed}

-- From the first state the core has gone on to the other, and no keyspace has lost its name.
pub record Arrives (t next : CoreState) (core : Held) (kept : Kept) : Type 0 where
  pub stands : StandFor core kept next
  pub reads : ReadsOn core next.state
  pub moves : MovesOn (times t.state) (times next.state)
  pub named : (id : ℕ) (name : Bytes) → get (present t.state).names id ≡ Some name → get (present next.state).names id ≡ Some name

-- So it goes on from whichever state it stood for, to one whose store has this.
abbrev pub ArrivesAt : Held → Kept → Held → Kept → (Store → Type 0) → Type 0
ArrivesAt old before new after P = (t : CoreState) → StandFor old before t → ReadsOn old t.state → (next : CoreState) × Arrives t next new after × P (present next.state)

-- Whichever index was kept is kept still.
abbrev pub KeepsAny : Held → Kept → Held → Kept → Type 0
KeepsAny old before new after =
    (field : FieldOf) (main index since : ℕ) (t : CoreState) (d : Durable) → StandsIndexed field main index since old before t d
    → (next : CoreState) × (e : Durable) × StaysIndexed field main index since t d next e new after

-- the keyspaces of these ids have these names
pub record AreNamed (main index : Bytes) (ids : ℕ × ℕ) (s : Store) : Type 0 where
  pub main_is : get s.names ids.0 ≡ Some main
  pub index_is : get s.names ids.1 ≡ Some index

-- The keyspaces of these two names are two, and the second one's map is the index of the first one's.
pub record AreIndexed (field : FieldOf) (main index : Bytes) (ids : ℕ × ℕ) (s : Store) : Type 0 where
  pub named : AreNamed main index ids s
  pub apart : ids.1 ≢ ids.0
  pub indexed : IsIndexed field ids.0 ids.1 s.maps

-- the second one's map isn't the index of the first one's
abbrev pub AreStale : FieldOf → Bytes → Bytes → Store → Type 0
AreStale field main index s = (ids : ℕ × ℕ) → AreIndexed field main index ids s → ⊥
