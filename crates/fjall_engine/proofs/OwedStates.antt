-- States that a core stands for behind parts of calls.
use Rattle.std.proofs.Common.{◌≡◌, ℕ, ◌+◌, true, None, length, refl, sym, ◌∙◌, ap, subst, arith}
use Rattle.fjall_journal.specs.Writer.{Journal, counted}
use Rattle.fjall_journal.specs.Writer as writer
use Rattle.fjall_history.specs.declared.reply.Reply.{Reply}
use Rattle.fjall_machine.specs.Shapes.{CallShape}
use Rattle.fjall_machine.specs.Machine.{Answers, Parts, State, StepOf, due, parts_written_out}
use Rattle.fjall_machine.specs.Remembered.{Remembered}
use Rattle.fjall_machine.specs.Remembered as memory
use Rattle.fjall_machine.proofs.Standing as law
use Rattle.fjall_engine.specs.Holding.{Held}
use Rattle.fjall_engine.specs.Standing.{Looks, Poisons, StandsFor, held_due}

-- the machine may step so, to a state that the core stands for now
abbrev pub Steps : Held → State → CallShape → Reply → Type 0
Steps new s shape reply = (t : State) × StandsFor new t × StepOf s shape reply t

-- the same of a reply that is no refusal
abbrev pub Answered : Held → State → CallShape → Reply → Type 0
Answered new s shape reply = (t : State) × StandsFor new t × ((due s shape ≡ None) × Answers s shape reply t)

-- what is due in a state that the core stands for is due for the core
pub same_due : (core : Held) (s : State) (shape : CallShape) → StandsFor core s → due s shape ≡ held_due core shape
same_due core s shape stands = law.facts_agree core.memory core.catalog.next_table_id s stands.remembered shape

-- a state's parts, with what a core knows of lengths and of tree 0's next table
abbrev pub parts_held : Held → State → Parts
parts_held core s = record s.parts { journal = core.journal.len; buffer = length core.journal.buffer; table = core.catalog.next_table_id }

-- the state after a fault in a change
abbrev pub poisoned_state : Held → State → State
poisoned_state new s = record s { poisoned = true; parts = parts_held new s }

pub poisoned_stands : (left : Remembered) (old new : Held) (table : ℕ) (s : State) → Poisons left old new → memory.MemoryStandsFor left table s → StandsFor new (poisoned_state new s)
poisoned_stands left old new table s fault stands = record {
  remembered = subst (λ (m : Remembered). memory.MemoryStandsFor m new.catalog.next_table_id (poisoned_state new s)) (sym fault.memory_is) (law.a_fault_stands left table s stands (parts_held new s) refl refl refl refl);
  journal = refl;
  buffer = refl;
}

pub still : (old new : Held) (s : State) → new ≡ old → StandsFor old s → StandsFor new s
still old new s same stands = subst (λ c. StandsFor c s) (sym same) stands

-- a core that a read looked at the disk for
pub looked_stands : (old new : Held) (s : State) → Looks old new → StandsFor old s → StandsFor new s
looked_stands old new s looks stands = record {
  remembered = subst (λ (m : Remembered). memory.MemoryStandsFor m new.catalog.next_table_id s) (sym looks.memory_is)
      (subst (λ c. memory.MemoryStandsFor (memory.with_trees new.memory.trees old.memory) c s) (ap (λ c. c.next_table_id) (sym looks.catalog))
      (law.a_read_stands old.memory old.catalog.next_table_id s stands.remembered new.memory.trees looks.trees));
  journal = stands.journal ∙ ap (λ (j : Journal). j.len) (sym looks.journal);
  buffer = stands.buffer ∙ ap (λ (j : Journal). length j.buffer) (sym looks.journal);
}

pub none_more : (j : Journal) (parts : Parts) → parts.journal ≡ j.len → parts.buffer ≡ length j.buffer → (parts_written_out parts 0).journal ≡ (writer.written_out j).len
none_more j parts journal buffer = ap counted (let sum : parts.journal + (parts.buffer + 0) ≡ j.len + length j.buffer = omega (arith, journal, buffer) in sum)
