use Rattle.fjall_journal.specs.Batches.{IsWritten, batch_text}
use Rattle.fjall_manifest.specs.Records.{IsRecord, record_text}
use Rattle.fjall_recovery.proofs.Forging.{none_forged}
use Rattle.fjall_recovery.proofs.wild_laws.nothing_is_forged.Goals as goal

pub returns : goal.returns
returns c synced unsynced bytes batches records = record {
  batches = none_forged batch_text IsWritten synced unsynced bytes batches;
  records = none_forged record_text IsRecord synced unsynced bytes records;
}
