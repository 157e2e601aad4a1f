use Rattle.std.proofs.lemmas.Result.{err_from_is_err_and}
use Rattle.fjall_opening.proofs.Taking.{all_taken, may_next, take_on}
use Rattle.fjall_opening.proofs.replaying.Replay.replay_text.Goals as goal

pub returns-in_err-take-clause-only : goal.returns-in_err-take-clause-only
returns-in_err-take-clause-only c batches each text may =
    let p = err_from_is_err_and c.from_residual-in_err-take.result c.from_residual-in_err-take.ensures.1 in
    let found = rw c.in-Some.is at c.in_ok-batch.ensures in
    rw (p.1, p.2)
    (c.in_err-take.ensures.only
    (may_next c.args.self.now c.args.progress.now c.args.text.now c.batches.reader c.next_batch.new.self c.batches.progress c.in-Some.batch c.batches.invariant found.known found.left found.end
    batches (record { texts = text; each = each }) may))

pub returns-in_err-take-clause-risen : goal.returns-in_err-take-clause-risen
returns-in_err-take-clause-risen c faults =
    let p = err_from_is_err_and c.from_residual-in_err-take.result c.from_residual-in_err-take.ensures.1 in
    rw (p.1, p.2) (c.in_err-take.ensures.risen faults)

pub batches-preserved : goal.batches-preserved
batches-preserved c =
    let found = rw c.in-Some.is at c.in_ok-batch.ensures in
    let taken = c.in_ok-take.ensures in
    take_on c.args.self.now c.args.progress.now c.args.text.now c.batches.reader c.next_batch.new.self c.batches.progress c.in-Some.batch c.batches.invariant found.known found.left found.end
    c.take.new.progress taken.least taken.ok taken.ended

pub returns-clause-ok : goal.returns-clause-ok
returns-clause-ok c batches loaded front each text underway =
    let found = rw c.in_default.is at c.in_ok-batch.ensures in
    all_taken c.args.self.now c.args.progress.now c.args.text.now batches c.batches.reader c.batches.progress (c.batches.invariant.known batches (record { texts = text; each = each })) found.known loaded front underway
