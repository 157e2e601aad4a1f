-- A transaction that is open, and what is kept of those that committed.
use Rattle.std.specs.Prelude.{◌≡◌, ℕ, Bool, List, [], ◌∷◌, ◌++◌, All, ◌<◌, IfSome, Option, None, Some, if◌then◌else◌}
use Rattle.std.specs.Option.{option_eq, option_map}
use Rattle.std.specs.Str.{bytes_eq}
use Rattle.std.specs.FinMap.{empty, insert}
use Rattle.std.specs.FinSet as set
use Rattle.fjall_base.specs.Limits.{item_refusal}
use Rattle.fjall_base.specs.Pairs.{Bytes}
use Rattle.fjall_base.specs.declared.error.Error.{Error}
use Rattle.fjall_journal.specs.Ops.{BatchItem, bytes_in}
use Rattle.fjall_journal.specs.declared.op.Op.{Op}
use Rattle.fjall_journal.specs.declared.op.Op.TheVariants.{Put, Remove}
use Rattle.fjall_journal.specs.declared.persist_mode.PersistMode.{PersistMode}
use Rattle.fjall_journal.specs.declared.persist_mode.PersistMode.TheVariants.{Buffer}
use Rattle.fjall_tx.specs.Marks.{Mark, Marks, with_read, with_write}
use Rattle.fjall_tx.specs.declared.oracle.Committed.{Committed}
use Rattle.fjall_tx.specs.Oracles.{Conflicts, commit_of}
use Rattle.fjall_tx.specs.Owns.{Own, key_of, with_writes}
use Rattle.fjall_history.specs.declared.ticket.Ticket.{Ticket}
use Rattle.fjall_engine.specs.Holding.{Held}
use Rattle.fjall_core.specs.declared.transactions.Transactions.{Transactions}

-- The ticket at whose instant it reads, its own writes, what an optimistic one marked, and how its commit is persisted. The
-- single writer's marks nothing, since none commits beside it.
pub record Tx : Type 0 where
  pub ticket : Ticket
  pub own : Own
  pub marks : Option Marks
  pub mode : Option PersistMode

-- nothing is marked yet
abbrev pub no_marks : Marks
no_marks = record { reads = []; writes = set.empty }

-- one that was just begun, optimistic where it marks
abbrev pub transaction_begun : Option Marks → Ticket → Tx
transaction_begun marks ticket = record { ticket = ticket; own = empty; marks = marks; mode = Some Buffer }

-- with one more own write
abbrev pub with_own : Tx → ℕ → Bytes → Op → Tx
with_own tx id key op = record tx { own = insert tx.own (key_of id key) op }

-- with these items written one behind another
abbrev pub with_own_items : Tx → List BatchItem → Tx
with_own_items tx items = record tx { own = with_writes tx.own items }

-- with one more read mark, where it marks
abbrev pub having_read : Tx → Mark → Tx
having_read tx mark = record tx { marks = option_map (λ marks. with_read marks mark) tx.marks }

-- it has marked no key as read
abbrev pub HasNoReads : Tx → Type 0
HasNoReads tx = IfSome tx.marks (λ marks. marks.reads ≡ [])

-- with one more key marked as written, where it marks
abbrev pub having_touched : Tx → ℕ → Bytes → Tx
having_touched tx id key = record tx { marks = option_map (λ marks. with_write marks id key) tx.marks }

-- whether a key that has the one value, or none, has the other too
abbrev pub is_same_value : Option Bytes → Option Bytes → Bool
is_same_value = option_eq bytes_eq

-- the write that gives a key this value, or none
abbrev pub op_of : Option Bytes → Op
op_of (Some value) = Put value
op_of None = Remove

-- With what a key becomes, a value or none, where it has had this one: with one more own write where the two differ, and else
-- with the key marked as written.
abbrev pub replacing : Tx → ℕ → Bytes → Option Bytes → Option Bytes → Tx
replacing tx id key old new = if is_same_value old new then having_touched tx id key else with_own tx id key (op_of new)

-- why what a key becomes can't be written, where it is written
abbrev pub replace_refusal : Bytes → Option Bytes → Option Bytes → Option Error
replace_refusal key old new = if is_same_value old new then None else item_refusal key (bytes_in (op_of new))

-- with each key of these items marked as written
abbrev pub marks_of_items : Marks → List BatchItem → Marks
marks_of_items marks [] = marks
marks_of_items marks (item ∷ items) = marks_of_items (with_write marks item.0 item.1) items

-- What a core keeps of its transactions: the optimistic ones that committed, but for those that none that is open can meet, and
-- the ticket of the single writer's that was begun last.
abbrev pub Kept : Type 0
Kept = Transactions

-- none has committed, and no single writer's has begun
abbrev pub none_kept : Kept
none_kept = record { commits = []; writer = None }

-- These transactions committed in this core: under numbers below its next one.
abbrev pub AreCommitsOf : Held → List Committed → Type 0
AreCommitsOf core commits = All (λ c. c.number < core.memory.next) commits

-- the reads of a transaction that began at this instant meet one that committed since; the single writer's meet none
abbrev pub MeetsSome : ℕ → Option Marks → List Committed → Type 0
MeetsSome instant None commits = ⊥
MeetsSome instant (Some marks) commits = Conflicts instant marks.reads commits

-- with one more that committed under this number these items, where it marks
abbrev pub committed : ℕ → Option Marks → List BatchItem → List Committed → List Committed
committed number None items commits = commits
committed number (Some marks) items commits = commits ++ commit_of number (marks_of_items marks items).writes ∷ []
