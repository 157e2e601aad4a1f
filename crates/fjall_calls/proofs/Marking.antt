-- What a call within a transaction leaves of it: its ticket, and all that it marked.
use Rattle.std.proofs.Common.{◌≡◌, ℕ, Bool, true, false, if◌then◌else◌, List, [], ◌∷◌, Option, None, Some, refl, ◌∙◌}
use Rattle.std.specs.Prelude.{is_none}
use Rattle.std.specs.Option.{option_map}
use Rattle.fjall_base.specs.Pairs.{Bytes}
use Rattle.fjall_journal.specs.declared.op.Op.{Op}
use Rattle.fjall_tx.specs.Marks.{Mark, Marks, OfKey, OfRange, with_read, with_write}
use Rattle.fjall_history.specs.declared.reply.Reply.{Reply}
use Rattle.fjall_history.proofs.Resting.{more_marked}
use Rattle.fjall_machine.specs.Machine.{State}
use Rattle.fjall_core.specs.Transactions.{Tx, having_read, having_touched, is_same_value, op_of, replacing, with_own}
use Rattle.fjall_calls.specs.declared.call.Within.{Within}
use Rattle.fjall_calls.specs.Acting.{AnswersWithin, Gets, IsNotUpdated, IsUnread, IsUnwritable, Pages, Persists, RunsOut, Updates, Writes}
use Rattle.fjall_calls.specs.Worlds.{Heard}
use Rattle.fjall_calls.specs.Hearing.{IsMarkedBy}

-- The ticket stays, what was marked stays marked, and it marks where it did.
pub record Keeps (tx after : Tx) : Type 0 where
  pub ticket : after.ticket ≡ tx.ticket
  pub marked : (heard : Heard) → IsMarkedBy tx.marks heard → IsMarkedBy after.marks heard
  pub kind : is_none after.marks ≡ is_none tx.marks

keeps_itself : (tx : Tx) → Keeps tx tx
keeps_itself tx = record { ticket = refl; marked = λ heard marked. marked; kind = refl }

keeps_on : (tx mid after : Tx) → Keeps tx mid → Keeps mid after → Keeps tx after
keeps_on tx mid after first second = record {
  ticket = second.ticket ∙ first.ticket;
  marked = λ heard marked. second.marked heard (first.marked heard marked);
  kind = second.kind ∙ first.kind;
}

same_kind : (f : Marks → Marks) (marks : Option Marks) → is_none (option_map f marks) ≡ is_none marks
same_kind f None = refl
same_kind f (Some marks) = refl

-- a read marks more
read_marked : (mark : Mark) (marks : Option Marks) (heard : Heard) → IsMarkedBy marks heard → IsMarkedBy (option_map (λ marks. with_read marks mark) marks) heard
read_marked mark None heard marked = tt
read_marked mark (Some marks) heard marked = more_marked marks.reads (mark ∷ []) heard.id heard.query marked

keeps_read : (tx : Tx) (mark : Mark) → Keeps tx (having_read tx mark)
keeps_read tx mark = record { ticket = refl; marked = read_marked mark tx.marks; kind = same_kind (λ marks. with_read marks mark) tx.marks }

-- a key that is marked as written leaves the reads
touch_marked : (id : ℕ) (key : Bytes) (marks : Option Marks) (heard : Heard) → IsMarkedBy marks heard → IsMarkedBy (option_map (λ marks. with_write marks id key) marks) heard
touch_marked id key None heard marked = tt
touch_marked id key (Some marks) heard marked = marked

keeps_touched : (tx : Tx) (id : ℕ) (key : Bytes) → Keeps tx (having_touched tx id key)
keeps_touched tx id key = record { ticket = refl; marked = touch_marked id key tx.marks; kind = same_kind (λ marks. with_write marks id key) tx.marks }

-- and so do own writes
keeps_own : (tx : Tx) (id : ℕ) (key : Bytes) (op : Op) → Keeps tx (with_own tx id key op)
keeps_own tx id key op = record { ticket = refl; marked = λ heard marked. marked; kind = refl }

pub keeps_replacing : (tx : Tx) (id : ℕ) (key : Bytes) (old new : Option Bytes) → Keeps tx (replacing tx id key old new)
keeps_replacing tx id key old new = either (is_same_value old new)
  where
    either : (b : Bool) → Keeps tx (if b then having_touched tx id key else with_own tx id key (op_of new))
    either true = keeps_touched tx id key
    either false = keeps_own tx id key (op_of new)

-- so does each call
pub keeps_answered : (s : State) (tx after : Tx) (call : Within) (told : List Reply) (reply : Reply) → AnswersWithin s tx call told reply after → Keeps tx after
keeps_answered s tx after call told reply (IsUnread c error) = keeps_itself tx
keeps_answered s tx after call told reply (RunsOut c t fine may) = keeps_itself tx
keeps_answered s tx after call told reply (Gets id key below r fine tells) = keeps_read tx (OfKey id key)
keeps_answered s tx after call told reply (Pages id range back max below r fine tells) = keeps_read tx (OfRange id range.0 range.1)
keeps_answered s tx after call told reply (Writes id key op fits) = keeps_own tx id key op
keeps_answered s tx after call told reply (IsUnwritable id key op error due) = keeps_itself tx
keeps_answered s tx after call told reply (Updates c id key new found is below fine finds fits) =
    keeps_on tx (having_read tx (OfKey id key)) (replacing (having_read tx (OfKey id key)) id key found new) (keeps_read tx (OfKey id key)) (keeps_replacing (having_read tx (OfKey id key)) id key found new)
keeps_answered s tx after call told reply (IsNotUpdated c id key new found is below fine finds error due) = keeps_itself tx
keeps_answered s tx after call told reply (Persists mode) = record { ticket = refl; marked = λ heard marked. marked; kind = refl }
