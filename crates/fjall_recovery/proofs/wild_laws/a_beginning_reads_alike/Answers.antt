use Rattle.fjall_recovery.proofs.Texts.{clean_left, records_front, torn_left, whole_front}
use Rattle.fjall_recovery.proofs.wild_laws.a_beginning_reads_alike.Goals as goal

pub returns-clause-batches : goal.returns-clause-batches
returns-clause-batches c text rest has batches end whole = (whole_front text rest has batches end whole, clean_left text rest has batches end whole, torn_left text rest has batches end whole)

pub returns-clause-records : goal.returns-clause-records
returns-clause-records c text rest has records end whole = records_front text rest has records end whole
