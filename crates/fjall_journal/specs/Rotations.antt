-- What a rotation does to the disk: the writer's journal is synced with all that waits, and the next one is made.
use Rattle.std.specs.Prelude.{◌≡◌, ◌⊎◌, ℕ, List, [], ◌∷◌, ◌++◌, take}
use Rattle.fjall_base.specs.Disk.{Name, Meaning, DiskStep, Sync, SyncFolder, Took, TookPart}
use Rattle.fjall_journal.specs.Writer.{Journal, appending, making_synced, written_out}

-- an empty journal of this name
abbrev pub empty_journal : Name → Journal
empty_journal name = record { name = name; buffer = []; len = 0 }

-- an empty file of this name is made in the root, where none is there, and it and its name are synced
abbrev pub making_safe : Meaning → Name → List DiskStep
making_safe disk name = making_synced disk name ++ SyncFolder [] ∷ []

-- what a rotation does to the disk: the buffer is appended, the old journal is synced, and the next one is made
abbrev pub rotating : Meaning → Journal → Name → List DiskStep
rotating disk j next = appending j.name j.buffer ++ Sync j.name ∷ making_safe disk next

-- What a rotation that the disk refused took: some beginning of the buffer, and the writer is as it was; or all of it and some beginning of what comes behind it, all but the sync of the root.
abbrev pub RotationTook : Meaning → Meaning → Journal → Journal → Name → Type 0
RotationTook old new j now next = ((now ≡ j) × TookPart old new j.name j.buffer)
    ⊎ ((now ≡ written_out j) × ((n : ℕ) × Took old new (appending j.name j.buffer ++ take n (Sync j.name ∷ making_synced old next))))
