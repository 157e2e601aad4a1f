use Rattle.std.proofs.Common.{List, map, ap, sym, ◌∙◌}
use Rattle.std.proofs.lemmas.List.{map_push}
use Rattle.fjall_journal.specs.Batches.{Written, shown, view}
use Rattle.fjall_journal.proofs.Wholes.{one_reading}
use Rattle.fjall_journal.proofs.Readings.{one_more, one_less, finished}
use Rattle.fjall_journal.proofs.contents.read_journal.Goals as goal

pub loop-batch-smaller-in-Continue-branch-2 : goal.loop-batch-smaller-in-Continue-branch-2
loop-batch-smaller-in-Continue-branch-2 c =
    let step = rw c.in-Some-Ok.field-0-is at c.in-Some-Ok.ensures in
    one_less c.loop-batch.reader c.next_batch.new.reader c.in-Some-Ok.batch step

pub loop-batch-preserved-in-Continue-branch-2 : goal.loop-batch-preserved-in-Continue-branch-2
loop-batch-preserved-in-Continue-branch-2 c =
    let step = rw c.in-Some-Ok.field-0-is at c.in-Some-Ok.ensures in
    rw (c.in_ok-push-in-Some-Ok.ensures.items, map_push view c.loop-batch.batches.items c.in-Some-Ok.batch)
    (one_more c.args.text.now (map view c.loop-batch.batches.items) c.loop-batch.reader c.next_batch.new.reader c.in-Some-Ok.batch c.loop-batch.invariant step)

pub returns-in-None-clause-only : goal.returns-in-None-clause-only
returns-in-None-clause-only c = λ bs end other.
    let here = (finished c.args.text.now (map view c.loop-batch.batches.items) c.loop-batch.reader c.next_batch.new.reader c.end.result c.tail.result c.loop-batch.invariant c.in-None.ensures c.end.ensures c.tail.ensures).0 in
    let one = one_reading c.args.text.now bs here.0 end c.end.result other here.2 in
    (ap (λ (v : List Written). map shown v) one.0 ∙ sym here.1, one.1)

pub returns-in-None-clause-whole : goal.returns-in-None-clause-whole
returns-in-None-clause-whole c = (finished c.args.text.now (map view c.loop-batch.batches.items) c.loop-batch.reader c.next_batch.new.reader c.end.result c.tail.result c.loop-batch.invariant c.in-None.ensures c.end.ensures c.tail.ensures).0

pub returns-in-None-clause-tail : goal.returns-in-None-clause-tail
returns-in-None-clause-tail c = (finished c.args.text.now (map view c.loop-batch.batches.items) c.loop-batch.reader c.next_batch.new.reader c.end.result c.tail.result c.loop-batch.invariant c.in-None.ensures c.end.ensures c.tail.ensures).1
