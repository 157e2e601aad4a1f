use Rattle.fjall_files.specs.Names.{current_name, journal_name}
use Rattle.fjall_journal.specs.Batches.{IsWritten, batch_text}
use Rattle.fjall_manifest.specs.Records.{IsRecord, record_text}
use Rattle.fjall_manifest.specs.Catalog.{fields, first_catalog}
use Rattle.fjall_recovery.proofs.Longer.{left_wildly, longer_by}
use Rattle.fjall_recovery.proofs.Forged.{active_file, forged_batch_stands, forged_record_stands, with_batch, with_first_record}
use Rattle.fjall_recovery.proofs.wild_laws.what_is_forged_counts.Goals as goal

pub returns-clause-batches : goal.returns-clause-batches
returns-clause-batches c state image contents sealed active forged is sound are all written faultless none =
    let name = journal_name active.id in (
      with_batch image active.id forged,
      left_wildly image name (batch_text forged) record_text IsRecord none state is,
      longer_by image name (batch_text forged) (active_file image contents sealed active sound are),
      forged_batch_stands image contents sealed active forged sound are all written faultless,
    )

pub returns-clause-records : goal.returns-clause-records
returns-clause-records c state image contents records is sound whole none =
    let first = record_text (fields first_catalog) in (
      with_first_record image,
      left_wildly image (current_name 0) first batch_text IsWritten none state is,
      longer_by image (current_name 0) first sound.openable.catalog.files.current,
      forged_record_stands image contents sound records whole,
    )
