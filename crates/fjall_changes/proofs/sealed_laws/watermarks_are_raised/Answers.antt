use Rattle.std.proofs.Common.{refl}
use Rattle.fjall_files.proofs.Telling.{marks_more, raised_more}
use Rattle.fjall_changes.proofs.sealed_laws.watermarks_are_raised.Goals as goal

pub returns-clause-none : goal.returns-clause-none
returns-clause-none c id = refl

pub returns-clause-first : goal.returns-clause-first
returns-clause-first c number marks id = refl

pub returns-clause-another : goal.returns-clause-another
returns-clause-another c = raised_more

pub returns-clause-batch : goal.returns-clause-batch
returns-clause-batch c batches b old new are raises = marks_more batches b old new raises are
