-- What a crash leaves where nothing went to the disk.
use Rattle.std.proofs.Common.{List, ◌++◌, [], inl, refl, subst, sym}
use Rattle.std.proofs.lemmas.List.{append-nil}
use Rattle.fjall_base.specs.Disk.{LeavesOnly, Meaning, state_in}
use Rattle.fjall_base.proofs.Moments.{weaken}
use Rattle.fjall_journal.specs.Batches.{Written}
use Rattle.fjall_recovery.specs.Places.{Journaling, LiesInRoot}
use Rattle.fjall_changes.specs.Journaling.{HasSome, LeavesRoot}
use Rattle.fjall_changes.specs.Rotations.{LeavesRotation}
use Rattle.fjall_changes.proofs.CrashesInWrites.{nothing_leaves}

-- some of the batches stand there, however many more come
pub untouched_leaves : (disk : Meaning) (j : Journaling) (more : List Written) → LiesInRoot (state_in disk) j → LeavesOnly disk disk (LeavesRoot (state_in disk) j (j.later ++ more))
untouched_leaves disk j more lies = nothing_leaves disk disk j more lies (record { state = refl; steps = sym (append-nil disk.steps) })

-- and where the journal was to be sealed
pub untouched_rotation : (disk : Meaning) (j : Journaling) → LiesInRoot (state_in disk) j → LeavesOnly disk disk (LeavesRotation (state_in disk) j)
untouched_rotation disk j lies =
    weaken disk disk _ _ (untouched_leaves disk j [] lies) (λ image left. record {
      root = inl (subst (λ (l : List Written). HasSome j l image) (append-nil j.later) left.some);
      elsewhere = left.elsewhere;
    })
