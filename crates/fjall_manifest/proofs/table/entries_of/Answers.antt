use Rattle.std.proofs.Common.{◌≡◌, Err, rules}
use Rattle.fjall_base.specs.declared.error.StorageError.TheVariants.{TableDamaged}
use Rattle.fjall_table.proofs.Damages.{passed_on}
use Rattle.fjall_manifest.proofs.Pairs.{no_pairs}
use Rattle.fjall_manifest.proofs.table.entries_of.Goals as goal

pub returns-in_err-entry_of-clause-damaged : goal.returns-in_err-entry_of-clause-damaged
returns-in_err-entry_of-clause-damaged c =
    let is : c.from_residual.result ≡ Err c.in_err-entry_of.field-0.0 = search rules in
    rw is (passed_on TableDamaged c.in_err-entry_of.field-0.0 _ _ c.in_err-entry_of.ensures.damaged (no_pairs c.args.versions.now c.loop-version.version-index _ c.loop-version-test.true))
