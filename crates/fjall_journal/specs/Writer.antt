-- The append side of a journal: what a writer holds, and what its calls make of it and of the disk.
use Rattle.std.specs.Prelude.{◌≡◌, ◌≢◌, ◌⊎◌, ℕ, ◌+◌, ◌-◌, ◌^◌, ◌<◌, min, Bool, not, ◌||◌, List, [], ◌∷◌, ◌++◌, length, nat_le, if◌then◌else◌, Result, Err, MatchOption, Option, None, Some, is_none}
use Rattle.fjall_base.specs.Disk.{Name, Meaning, File, IsFile, DiskStep, Append, Sync, Took, TookPart, HasCause, making, state_in}
use Rattle.fjall_base.specs.declared.error.Error.{Error}
use Rattle.fjall_base.specs.declared.error.Error.TheVariants.{Io}
use Rattle.fjall_base.specs.Limits.{item_refusal}
use Rattle.fjall_journal.specs.declared.persist_mode.PersistMode.{PersistMode}
use Rattle.fjall_journal.specs.declared.persist_mode.PersistMode.TheVariants.{Buffer, SyncData, SyncAll}

-- a file's name, the bytes that are still to be appended to it, and its length
pub record Journal : Type 0 where
  pub name : List ℕ
  pub buffer : List ℕ
  pub len : ℕ

-- a length, which stops at the greatest u64
abbrev pub counted : ℕ → ℕ
counted n = min n (2 ^ 64 - 1)

-- the journal with this text in its buffer too
abbrev pub filled : Journal → List ℕ → Journal
filled j text = record j { buffer = j.buffer ++ text }

-- the journal whose buffer is in the file
abbrev pub written_out : Journal → Journal
written_out j = record j { buffer = []; len = counted (j.len + length j.buffer) }

-- one append of these bytes, none where there are no bytes
abbrev pub appending : Name → List ℕ → List DiskStep
appending name [] = []
appending name (b ∷ bytes) = Append name (b ∷ bytes) ∷ []

-- the journal whose buffer is in the file once it has 8,192 bytes
abbrev pub full_out : Journal → Journal
full_out j = if nat_le 8192 (length j.buffer) then written_out j else j

-- what that does to the disk
abbrev pub full_steps : Journal → List DiskStep
full_steps j = if nat_le 8192 (length j.buffer) then Append j.name j.buffer ∷ [] else []

-- the journal after a text was written: its buffer goes out once it has 8,192 bytes
abbrev pub after_write : Journal → List ℕ → Journal
after_write j text = full_out (filled j text)

-- what a write of this text does to the disk
abbrev pub write_steps : Journal → List ℕ → List DiskStep
write_steps j text = full_steps (filled j text)

-- whether a command that leaves so many bytes in the buffer writes it out: where it is persisted by hand, from 8,192 bytes
-- on, and else always
abbrev pub goes_out : Bool → ℕ → Bool
goes_out by_hand count = not by_hand || nat_le 8192 count

-- the journal after a command of this text: its buffer is in the file, or the text waits in the buffer
abbrev pub after_command : Bool → Journal → List ℕ → Journal
after_command by_hand j text = if goes_out by_hand (length (j.buffer ++ text)) then written_out (filled j text) else filled j text

-- what a command of this text does to the disk
abbrev pub command_steps : Bool → Journal → List ℕ → List DiskStep
command_steps by_hand j text = if goes_out by_hand (length (j.buffer ++ text)) then appending j.name (j.buffer ++ text) else []

-- a sync, where the mode asks for one
abbrev pub syncing : Name → PersistMode → List DiskStep
syncing name Buffer = []
syncing name SyncData = Sync name ∷ []
syncing name SyncAll = Sync name ∷ []

-- the same, where there is a mode
abbrev pub syncing_mode : Name → Option PersistMode → List DiskStep
syncing_mode name None = []
syncing_mode name (Some mode) = syncing name mode

-- what a batch of this text does to the disk: without a mode it waits in the buffer while that has less than 8,192 bytes,
-- and with one all goes out, and is synced where the mode asks for it
abbrev pub batch_steps : Option PersistMode → Journal → List ℕ → List DiskStep
batch_steps mode j text = command_steps (is_none mode) j text ++ syncing_mode j.name mode

-- the text waits in the buffer, which has less than 8,192 bytes with it
abbrev pub Waits : Journal → List ℕ → Type 0
Waits j text = length (j.buffer ++ text) < 8192

-- a write of this text took of the disk what it does to it
abbrev pub WroteText : Meaning → Meaning → Journal → List ℕ → Type 0
WroteText old new j text = Took old new (write_steps j text)

-- what a persist does to the disk
abbrev pub persist_steps : Journal → PersistMode → List DiskStep
persist_steps j mode = appending j.name j.buffer ++ syncing j.name mode

-- what a refused write took of the disk: some beginning of the bytes where the disk failed, else nothing
abbrev pub WriteTook : Error → Meaning → Meaning → Name → List ℕ → Type 0
WriteTook (Io kind) old new name bytes = TookPart old new name bytes
WriteTook error old new name bytes = Took old new []

-- what a refused write of this text took of the disk
abbrev pub WroteNone : Meaning → Meaning → Journal → List ℕ → Error → Type 0
WroteNone old new j text error = WriteTook error old new j.name (j.buffer ++ text)

-- Why a write is refused: a key or a value that no item can have, before all else, or a fault of the disk or want of memory.
abbrev pub HasWriteCause : {T : Type 0} → List ℕ → List ℕ → Meaning → Meaning → Result T Error → Type 0
HasWriteCause key value old new result = MatchOption (item_refusal key value) (HasCause old new result) (λ e. (result ≡ Err e) × (new ≡ old))

-- the disk failed
abbrev pub IsIo : Error → Type 0
IsIo (Io kind) = Unit {0}
IsIo error = ⊥

-- a call on a file that is there is no misuse
abbrev pub ServesFile : Meaning → Meaning → Name → Type 0
ServesFile old new name = IsFile (state_in old name).now → new.misuses ≡ old.misuses

-- A refused persist stopped at the append, and the journal is as it was, or at the sync behind a whole append.
abbrev pub PersistTook : Journal → Journal → PersistMode → Meaning → Meaning → Type 0
PersistTook j now mode old new = ((now ≡ j) × TookPart old new j.name j.buffer) ⊎ ((now ≡ written_out j) × (mode ≢ Buffer) × (Took old new (appending j.name j.buffer) ⊎ Took old new (persist_steps j mode)))

-- What a refused batch took: some beginning of the bytes or, where the mode asks for a sync, all of them and the sync.
abbrev pub BatchTook : Option PersistMode → Meaning → Meaning → Journal → List ℕ → Type 0
BatchTook mode old new j text = TookPart old new j.name (j.buffer ++ text) ⊎ ((syncing_mode j.name mode ≢ []) × Took old new (batch_steps mode j text))

-- what makes an empty file of this name, where none is there
abbrev pub making_file : Meaning → Name → List DiskStep
making_file disk name = making name (File [] []) (state_in disk name).now

-- and syncs it
abbrev pub making_synced : Meaning → Name → List DiskStep
making_synced disk name = making_file disk name ++ Sync name ∷ []

-- what the making of a file that failed took: nothing, the making, or the sync too
abbrev pub MakingTook : Meaning → Meaning → Name → Type 0
MakingTook old new name = Took old new [] ⊎ (Took old new (making_file old name) ⊎ Took old new (making_synced old name))
