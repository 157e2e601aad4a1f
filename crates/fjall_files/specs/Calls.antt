-- What clauses say of the calls of a disk, by what it meant before them and what it means after them.
use Rattle.std.specs.Prelude.{◌≡◌}
use Rattle.fjall_base.specs.Disk.{Image, Meaning, Name, standing, state_in}

-- what stands on the disk
abbrev pub seen : Meaning → Image
seen disk = standing (state_in disk)

-- each call was one that a disk can serve
abbrev pub AllServed : Meaning → Meaning → Type 0
AllServed old new = new.misuses ≡ old.misuses

-- nothing changed at the names that are so
abbrev pub StaysWhere : Meaning → Meaning → (Name → Type 0) → Type 0
StaysWhere old new Spared = (q : Name) → Spared q → state_in new q ≡ state_in old q
