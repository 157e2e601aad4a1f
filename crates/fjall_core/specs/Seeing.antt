-- What a transaction sees of a core, and what its reads leave.
use Rattle.std.specs.Prelude.{Bool, true, ◌≡◌, ◌⊎◌, ◌++◌, ℕ, List, Option}
use Rattle.std.specs.Option.{option_map}
use Rattle.std.specs.declared.ops.Bound.TheVariants.{Unbounded}
use Rattle.std.specs.Borrow.{MutBor}
use Rattle.fjall_base.specs.Pairs.{Pairs}
use Rattle.fjall_base.specs.declared.error.Error.{Error}
use Rattle.fjall_tx.specs.Owns.{Own}
use Rattle.fjall_history.specs.declared.ticket.View.{View}
use Rattle.fjall_engine.specs.Holding.{Held}
use Rattle.fjall_core.specs.Shown.{ReadsKeyspace, Shows}
use Rattle.fjall_tx.specs.Marks.{Mark, Marks, OfRange}
use Rattle.fjall_core.specs.Transactions.{Tx, having_read}
use Rattle.fjall_core.specs.Laid.{laid}

-- A transaction with these own writes sees this map of a keyspace: one that the core shows in the view, with its own writes applied.
abbrev pub Sees : Bool → Held → View → Own → ℕ → Pairs → Type 0
Sees honest core view own id map = (below : Pairs) × Shows honest core view id below × (map ≡ laid own id below)

-- with these read marks more behind those that it has, where it marks
abbrev pub having_reads : Tx → List Mark → Tx
having_reads tx more = record tx { marks = option_map (λ (marks : Marks). record marks { reads = marks.reads ++ more }) tx.marks }

-- the same transaction, but for read marks that it made since; what it marked before stays marked
pub record HasReadOn (old new : Tx) : Type 0 where
  pub more : List Mark
  pub is : new ≡ having_reads old more

-- Reads of a keyspace within a transaction leave the core as a reader's reads do, and the transaction, which stays lent, as it was but
-- for more read marks.
pub record ReadsWithin (honest : Bool) (core : MutBor Held) (from : View) (tx : MutBor Tx) (id : ℕ) (error : Option Error) (left : MutBor Held) (to : View) (after : MutBor Tx) : Type 0 where
  pub reads : ReadsKeyspace honest core from id error left to
  pub grown : HasReadOn tx.now after.now
  pub lent : after.ghost_name ≡ tx.ghost_name

-- Pages of a keyspace leave the core so too, and the transaction as it was: whoever asks for them marks what they are of.
pub record PagesWithin (honest : Bool) (core : MutBor Held) (from : View) (tx : MutBor Tx) (id : ℕ) (error : Option Error) (left : MutBor Held) (to : View) (after : MutBor Tx) : Type 0 where
  pub reads : ReadsKeyspace honest core from id error left to
  pub unmarked : after.now ≡ tx.now
  pub lent : after.ghost_name ≡ tx.ghost_name

-- the mark of a whole keyspace
abbrev pub whole_of : ℕ → Mark
whole_of id = OfRange id Unbounded Unbounded

-- A transaction is marked so; or it is as it was, and it is noted that memory was used up.
abbrev pub IsMarkedOrShort : Tx → Mark → Tx → Bool → Type 0
IsMarkedOrShort old mark new short = (new ≡ having_read old mark) ⊎ ((new ≡ old) × (short ≡ true))
