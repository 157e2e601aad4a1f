-- A reader of a journal's text, batch by batch.
use Rattle.std.specs.Prelude.{◌≡◌, ◌⊎◌, Bool, true, false, ℕ, List, ◌++◌, Option, Some, None, Result, Ok, Err}
use Rattle.fjall_base.specs.declared.error.Error.{Error}
use Rattle.fjall_base.specs.declared.error.Error.TheVariants.{OutOfMemory, JournalRecovery}
use Rattle.fjall_journal.specs.declared.batch.Tail.{Tail}
use Rattle.fjall_journal.specs.declared.batch.Tail.TheVariants.{Clean, Torn, Damaged}
use Rattle.fjall_journal.specs.declared.batch.Batch.{Batch}
use Rattle.fjall_journal.specs.declared.batch.Stop.{Stop}
use Rattle.fjall_journal.specs.declared.batch.Stop.TheVariants as stops
use Rattle.fjall_journal.specs.Batches.{Written, IsWritten, batch_text, shown, view, NoneAt, IsTail}

-- the text, what of it isn't read, whether reading is over, and then the tail
pub record Reading : Type 0 where
  pub text : List ℕ
  pub rest : List ℕ
  pub over : Bool
  pub tail : Tail

-- A batch that shows as this one stands at the front of the bytes, and the rest behind it.
pub record Leads (bytes : List ℕ) (batch : Batch) (rest : List ℕ) : Type 0 where
  pub written : Written
  pub is : IsWritten written
  pub shows : shown written ≡ view batch
  pub parts : bytes ≡ batch_text written ++ rest

-- No batch stands there, and this is the tail.
pub record EndsAt (bytes : List ℕ) (tail : Tail) : Type 0 where
  pub none : NoneAt bytes
  pub is : IsTail bytes tail

-- why no batch was read: memory ran out, or this tail stands there
abbrev pub StopsHere : List ℕ → Stop → Type 0
StopsHere bytes stops.Memory = Unit {0}
StopsHere bytes (stops.Tail tail) = EndsAt bytes tail

-- the reader once it told this tail
abbrev pub over_with : Reading → Tail → Reading
over_with s tail = record s { over = true; tail = tail }

-- memory ran out, and the reader is as it was; or a damage stands there, and reading is over
abbrev pub NextFails : Reading → Error → Reading → Type 0
NextFails s OutOfMemory t = t ≡ s
NextFails s (JournalRecovery damage) t = (t ≡ over_with s (Damaged damage)) × EndsAt s.rest (Damaged damage)
NextFails s error t = ⊥

-- reading was over, or it is now, at a clean or a torn tail
abbrev pub NextEnds : Reading → Reading → Bool → Type 0
NextEnds s t true = t ≡ s
NextEnds s t false = (t ≡ over_with s t.tail) × ((t.tail ≡ Clean) ⊎ (t.tail ≡ Torn)) × EndsAt s.rest t.tail

-- what a call of next gives
abbrev pub Next : Reading → Option (Result Batch Error) → Reading → Type 0
Next s (Some (Ok batch)) t = (s.over ≡ false) × (t ≡ record s { rest = t.rest }) × Leads s.rest batch t.rest
Next s (Some (Err error)) t = (s.over ≡ false) × NextFails s error t
Next s None t = NextEnds s t s.over

-- A batch was found, and it shows as this one.
abbrev pub FindsBatch : Option Batch → Written → Type 0
FindsBatch (Some batch) written = view batch ≡ shown written
FindsBatch None written = ⊥
