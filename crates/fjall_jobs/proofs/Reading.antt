-- Tables that jobs made, read again.
use Rattle.std.proofs.Common.{◌≡◌, ◌∙◌, ℕ, List, length, refl, sym}
use Rattle.fjall_base.specs.declared.error.Error.{Error}
use Rattle.fjall_base.specs.declared.error.Error.TheVariants.{OutOfMemory, Storage}
use Rattle.fjall_base.specs.declared.error.StorageError.TheVariants.{TableDamaged}
use Rattle.fjall_table.specs.Blocks.{Entry}
use Rattle.fjall_table_reader.specs.Files.{IsTableOf}
use Rattle.fjall_table.specs.Reading.{DamagedWhere}
use Rattle.fjall_table.specs.TableReading.{HasNoIndex}
use Rattle.fjall_table.specs.declared.level.Level.{Level}
use Rattle.fjall_table.specs.declared.table_info.TableInfo.{TableInfo}
use Rattle.fjall_table_reader.proofs.TableFiles.{has_an_index}
use Rattle.fjall_jobs.specs.declared.made_table.MadeTable.{MadeTable}
use Rattle.fjall_jobs.specs.Sequences.{IsMadeTable}

-- a refusal that can't be for damage is for want of memory
memory_left : (P : Type 0) (e : Error) → (P → ⊥) → DamagedWhere TableDamaged P e → e ≡ OutOfMemory
memory_left P OutOfMemory none d = refl
memory_left P (Storage told) none d = absurd (none d.1)
memory_left P e none d = absurd d

pub only_for_memory : (made : MadeTable) (info : TableInfo) (id : ℕ) (level : Level) (entries : List Entry) (e : Error) → IsMadeTable made entries
    → info ≡ record { id = id; level = level; file_len = length made.bytes.items; entry_count = made.entry_count }
    → DamagedWhere TableDamaged (HasNoIndex made.bytes.items info) e → e ≡ OutOfMemory
only_for_memory made info id level entries e is told d =
    let table : IsTableOf info made.bytes.items entries = record {
      len = sym (λ i. (told i).file_len);
      table = is.table;
      count = (λ i. (told i).entry_count) ∙ is.count;
    } in
    let found = has_an_index info made.bytes.items entries table in
    memory_left (HasNoIndex made.bytes.items info) e (λ none. none found.0 found.1.len found.1.index) d
