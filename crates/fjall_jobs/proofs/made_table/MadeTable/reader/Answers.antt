use Rattle.std.proofs.Common.{◌≡◌, ℕ, Err, List, rules, subst}
use Rattle.fjall_base.specs.declared.error.StorageError.TheVariants.{TableDamaged}
use Rattle.fjall_table.specs.Reading.{DamagedWhere}
use Rattle.fjall_table.specs.TableReading.{HasNoIndex}
use Rattle.fjall_jobs.proofs.Reading.{only_for_memory}
use Rattle.fjall_jobs.proofs.made_table.MadeTable.reader.Goals as goal

pub returns-in_err-file-clause-only : goal.returns-in_err-file-clause-only
returns-in_err-file-clause-only c entries is =
    let e : c.from_residual.result ≡ Err c.in_err-file.field-0.0 = search rules in
    let damaged = subst (λ (bytes : List ℕ). DamagedWhere TableDamaged (HasNoIndex bytes c.info-info.result) c.in_err-file.field-0.0) c.as_slice.ensures.value c.in_err-file.ensures.damaged in
    rw e (only_for_memory c.args.self.now c.info-info.result c.args.id c.args.level entries c.in_err-file.field-0.0 is c.info-info.ensures damaged)
