-- Which command a call takes a number for, and what that makes of the list of accepted commands.
use Rattle.std.specs.Prelude.{ℕ, ◌≡◌, ◌⊎◌, ◌+◌, ◌==◌, [], ◌∷◌, MatchBool}
use Rattle.fjall_base.specs.Store.{Command, Create, Delete}
use Rattle.fjall_compaction.specs.Ingests.{ingestion}
use Rattle.fjall_meta.specs.Replays.{option_pairs}
use Rattle.fjall_journal.specs.Changes.{Emptied, Items, command_of}
use Rattle.fjall_history.specs.declared.reply.Reply.{Reply}
use Rattle.fjall_history.specs.declared.reply.Reply.TheVariants.{Refused}
use Rattle.fjall_history.specs.Histories.{Accepted, History, grown, plain}
use Rattle.fjall_machine.specs.Shapes.{CallShape, OfChange, OfCreation, OfDeletion, OfIngestion}

-- A call that isn't refused takes no number, or takes one for this command, or may take one for it.
pub data Taking : Type 0 where
  Never : Taking
  Always : (command : Command) → Taking
  May : (command : Command) → Taking

-- A change and an ingestion of some items take one. The creation of a keyspace whose name is there, and the deletion of one that is deleted,
-- take none.
abbrev pub taking : CallShape → Taking
taking (OfChange (Items []) how) = Never
taking (OfChange (Items (item ∷ items)) how) = Always (command_of (Items (item ∷ items)))
taking (OfChange (Emptied id) how) = Always (command_of (Emptied id))
taking (OfIngestion id []) = Never
taking (OfIngestion id (item ∷ items)) = Always (ingestion id (item ∷ items))
taking (OfCreation name options) = May (Create name (option_pairs options))
taking (OfDeletion id) = May (Delete id)
taking shape = Never

-- what comes of the list
abbrev pub Adds : Taking → History → History → Type 0
Adds Never old new = new ≡ old
Adds (Always command) old new = new ≡ grown old (plain command)
Adds (May command) old new = (new ≡ old) ⊎ (new ≡ grown old (plain command))

-- and of the next number
abbrev pub Counts : Taking → ℕ → ℕ → Type 0
Counts Never n m = m ≡ n
Counts (Always command) n m = m ≡ n + 1
Counts (May command) n m = (m ≡ n) ⊎ (m ≡ n + 1)

-- The list grows by just the command that was accepted, or stays. A refused call takes no number.
abbrev pub Lists : Taking → Reply → History → History → Type 0
Lists takes (Refused error) old new = new ≡ old
Lists takes reply old new = Adds takes old new

abbrev pub CountsOn : Taking → Reply → ℕ → ℕ → Type 0
CountsOn takes (Refused error) n m = m ≡ n
CountsOn takes reply n m = Counts takes n m

-- the command that is told is the one that may take a number
abbrev pub Says : Taking → Command → Type 0
Says Never told = Unit {0}
Says (Always command) told = told ≡ command
Says (May command) told = told ≡ command

-- the list grew by this where the number did
abbrev pub Grows : Accepted → ℕ → ℕ → History → History → Type 0
Grows one before after old new = MatchBool (before == after) (new ≡ old) (new ≡ grown old one)

abbrev pub Tells : Command → ℕ → ℕ → History → History → Type 0
Tells command before after old new = Grows (plain command) before after old new
