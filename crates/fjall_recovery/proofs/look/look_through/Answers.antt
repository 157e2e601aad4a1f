use Rattle.std.proofs.Common.{◌++◌, List, map, refl, subst}
use Rattle.fjall_journal.specs.declared.batch.Batch.{Batch}
use Rattle.fjall_journal.specs.Batches.{view}
use Rattle.fjall_journal.proofs.Readings.{one_less}
use Rattle.fjall_files.specs.Telling.{AreMarksOf}
use Rattle.fjall_recovery.proofs.Looking.{look_on, looked}
use Rattle.fjall_recovery.proofs.look.look_through.Goals as goal

pub loop-batch-smaller-in-Some-Ok : goal.loop-batch-smaller-in-Some-Ok
loop-batch-smaller-in-Some-Ok c =
    let step = rw c.in-Some-Ok.field-0-is at c.in-Some-Ok.ensures in
    one_less c.loop-batch.reader c.next_batch.new.reader c.in-Some-Ok.batch step

pub loop-batch-preserved-in-Some-Ok : goal.loop-batch-preserved-in-Some-Ok
loop-batch-preserved-in-Some-Ok c =
    let step = rw c.in-Some-Ok.field-0-is at c.in-Some-Ok.ensures in
    look_on c.args.text.now c.args.least _ _ c.loop-batch.reader c.next_batch.new.reader c.loop-batch.invariant _ c.raise_batches.new.self c.in-Some-Ok.batch step
    (λ front so_far. c.checked_with-checked.ensures c.args.least front so_far)
    (λ front are. subst (λ (l : List Batch). AreMarksOf (front ++ map view l) c.raise_batches.new.self) c.from_ref.ensures.value (c.in_ok-raise_batches-in-Some-Ok.ensures.ok front are))

pub returns-in-None-clause-looks : goal.returns-in-None-clause-looks
returns-in-None-clause-looks c =
    looked c.args.text.now c.args.least _ _ c.loop-batch.reader c.next_batch.new.reader c.loop-batch.invariant _ c.in-None.ensures c.end.ensures c.tail.ensures refl c.loop-batch.invariant.marks_are
