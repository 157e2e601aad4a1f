-- What all parts hold, now and at a mark.
use Rattle.std.specs.Prelude.{◌≡◌}
use Rattle.fjall_memtable.specs.declared.mark.Mark.{Mark}
use Rattle.fjall_memtable.specs.declared.parts.Parts.{Parts}
use Rattle.fjall_memtable.specs.Parts.{Memory}
use Rattle.fjall_memtable.specs.Held.{held_at, held_of, IsMarkOf}
use Rattle.fjall_memtable.specs.Shares.{shared}

-- what all parts hold
abbrev pub memory_of : Parts → Memory
memory_of parts = record { sealed = shared parts.sealed.items; active = held_of parts.active }

-- what they held at a mark
abbrev pub memory_at : Mark → Parts → Memory
memory_at mark parts = record { sealed = shared parts.sealed.items; active = held_at mark parts.active }

-- They once held that, and nothing was sealed since.
abbrev pub IsMark : Parts → Mark → Type 0
IsMark parts mark = IsMarkOf parts.active mark

-- The marks of the one are marks of the other, and stand for the same there.
abbrev pub KeepsMarks : Parts → Parts → Type 0
KeepsMarks old new = (mark : Mark) → IsMark old mark → IsMark new mark × (memory_at mark new ≡ memory_at mark old)
