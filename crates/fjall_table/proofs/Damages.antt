-- A refusal passed on.
use Rattle.std.proofs.Common.{◌≡◌, Option, None}
use Rattle.fjall_base.specs.declared.error.Error.{Error}
use Rattle.fjall_base.specs.declared.error.Error.TheVariants.{OutOfMemory, Storage}
use Rattle.fjall_base.specs.declared.error.StorageError.{StorageError}
use Rattle.fjall_table.specs.Reading.{Fails, DamagedWhere}

pub from_fails : {Y : Type 0} (d : StorageError) (e : Error) (read : Option Y) (P : Type 0) → Fails d e read → (read ≡ None → P) → DamagedWhere d P e
from_fails d OutOfMemory read P f h = tt
from_fails d (Storage s) read P f h = (f.0, h f.1)
from_fails d e read P f h = absurd f

pub passed_on : (d : StorageError) (e : Error) (P Q : Type 0) → DamagedWhere d P e → (P → Q) → DamagedWhere d Q e
passed_on d OutOfMemory P Q f h = tt
passed_on d (Storage s) P Q f h = (f.0, h f.1)
passed_on d e P Q f h = absurd f
