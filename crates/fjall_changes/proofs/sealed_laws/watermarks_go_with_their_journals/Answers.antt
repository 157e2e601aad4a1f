use Rattle.std.proofs.Common.{◌++◌, refl}
use Rattle.fjall_files.specs.Rotations.{sealed_of}
use Rattle.fjall_changes.proofs.MarkedJournals.{marked_ids, marked_left, marked_more}
use Rattle.fjall_changes.proofs.sealed_laws.watermarks_go_with_their_journals.Goals as goal

pub returns-clause-told : goal.returns-clause-told
returns-clause-told c sealed j marked = marked_ids sealed j.sealed marked

pub returns-clause-rotation : goal.returns-clause-rotation
returns-clause-rotation c sealed j writer marks marked are =
    marked_more sealed j.sealed (sealed_of j.active writer marks) (record { id = j.active; batches = j.whole ++ j.later }) marked refl are

pub returns-clause-eviction : goal.returns-clause-eviction
returns-clause-eviction c flushed sealed j marked = marked_left flushed sealed j.sealed marked
