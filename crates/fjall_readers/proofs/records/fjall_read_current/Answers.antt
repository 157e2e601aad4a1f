use Rattle.std.proofs.Common.{inl, sym}
use Rattle.fjall_base.specs.declared.error.StorageError.TheVariants.{RecordDamaged}
use Rattle.fjall_manifest.specs.Records.{HasContradiction}
use Rattle.fjall_manifest.proofs.Currents.{contradiction_has_no_reading}
use Rattle.fjall_readers.proofs.Tellings.{only_memory}
use Rattle.fjall_readers.proofs.records.fjall_read_current.Goals as goal

pub returns-in-Ok : goal.returns-in-Ok
returns-in-Ok c = λ rs end whole. inl (sym (c.in-Ok.ensures.only rs end whole).1)

pub returns-in-Err : goal.returns-in-Err
returns-in-Err c = λ rs end whole. rw c.refusal.ensures
    (only_memory RecordDamaged (HasContradiction c.args.bytes.now) c.in-Err.error end c.in-Err.ensures.damaged (λ is. contradiction_has_no_reading c.args.bytes.now rs end is whole))
