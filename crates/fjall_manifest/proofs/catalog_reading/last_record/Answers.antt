use Rattle.std.proofs.Common.{◌≡◌, Err, rules}
use Rattle.fjall_base.specs.declared.error.StorageError.TheVariants.{RecordDamaged}
use Rattle.fjall_manifest.specs.Records.{view}
use Rattle.fjall_table.proofs.Damages.{passed_on}
use Rattle.fjall_manifest.proofs.Lasts.{contradiction_none, has_last}
use Rattle.fjall_manifest.proofs.catalog_reading.last_record.Goals as goal

pub returns-in_err-record-clause-damaged : goal.returns-in_err-record-clause-damaged
returns-in_err-record-clause-damaged c =
    let is : c.from_residual.result ≡ Err c.in_err-record.field-0.0 = search rules in
    rw is (passed_on RecordDamaged c.in_err-record.field-0.0 _ _ c.in_err-record.ensures.damaged (contradiction_none c.args.bytes.now))

pub returns-clause-last : goal.returns-clause-last
returns-clause-last c =
    let whole = c.in_ok-record.ensures.whole in
    has_last c.args.bytes.now c.in_ok-record.field-0.end (view c.in-Some.record) c.in_ok-catalog_of.field-0 (rw c.in-Some.is at whole) c.in_ok-catalog_of.ensures.ok
