-- What a part holds, now and at a mark.
use Rattle.std.specs.Prelude.{◌≡◌, ◌≤◌, length, take}
use Rattle.fjall_memtable.specs.Entries.{entries_kept, entries_at, IsMark as IsMarkThere}
use Rattle.fjall_memtable.specs.declared.mark.Mark.{Mark}
use Rattle.fjall_memtable.specs.declared.part.Part.{Part}
use Rattle.fjall_memtable.specs.Parts.{HeldPart, IsHeld}

-- what it holds
abbrev pub held_of : Part → HeldPart
held_of part = record { from = part.from; until = part.until; versions = entries_kept part.versions; clears = part.clears.items }

-- what it held at a mark
abbrev pub held_at : Mark → Part → HeldPart
held_at mark part = record { from = part.from; until = mark.until; versions = entries_at mark.versions part.versions; clears = take mark.clears part.clears.items }

-- It once held that.
pub record IsMarkOf (part : Part) (mark : Mark) : Type 0 where
  pub versions : IsMarkThere part.versions mark.versions
  pub clears : mark.clears ≤ length part.clears.items
  pub held : IsHeld (held_at mark part)

-- The marks of the one are marks of the other, and stand for the same there.
abbrev pub KeepsMarksOf : Part → Part → Type 0
KeepsMarksOf old new = (mark : Mark) → IsMarkOf old mark → IsMarkOf new mark × (held_at mark new ≡ held_at mark old)
