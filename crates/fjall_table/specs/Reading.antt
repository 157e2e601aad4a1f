-- Frames, and what a reader answers where bytes are damaged.
use Rattle.std.specs.Prelude.{◌≡◌, ⊤, ℕ, ◌+◌, List, take, Option, Some, None, Result, Ok, Err, if◌then◌else◌}
use Rattle.std.specs.Str.{bytes_eq}
use Rattle.fjall_base.specs.declared.error.Error.{Error}
use Rattle.fjall_base.specs.declared.error.Error.TheVariants.{OutOfMemory, Storage}
use Rattle.fjall_base.specs.declared.error.StorageError.{StorageError}
use Rattle.fjall_base.specs.Fields.{◌>>=◌, number_at, bytes_at}
use Rattle.fjall_base.specs.Check.{check}

-- memory ran out, or the bytes are read as nothing, which is this damage
abbrev pub Fails : {Y : Type 0} → StorageError → Error → Option Y → Type 0
Fails damage OutOfMemory read = ⊤
Fails damage (Storage told) read = (told ≡ damage) × (read ≡ None)
Fails damage error read = ⊥

-- what a function answered, seen by view, is what reading gives, unless memory ran out
abbrev pub Gives : {X Y : Type 0} → StorageError → (X → Y) → Result X Error → Option Y → Type 0
Gives damage view (Ok x) read = read ≡ Some (view x)
Gives damage view (Err error) read = Fails damage error read

-- memory ran out, or this is damaged, as the fact says
abbrev pub DamagedWhere : StorageError → Type 0 → Error → Type 0
DamagedWhere damage P OutOfMemory = ⊤
DamagedWhere damage P (Storage told) = (told ≡ damage) × P
DamagedWhere damage P error = ⊥

-- the payload behind a length of that width, whose check is right, and the bytes after the frame
unfoldable pub frame_at : ℕ → List ℕ → Option (List ℕ × List ℕ)
frame_at width bytes = do
  len ← number_at width bytes
  payload ← bytes_at len.0 len.1
  sum ← bytes_at 8 payload.1
  if bytes_eq sum.0 (check (take (width + len.0) bytes)) then Some (payload.0, sum.1) else None
