use Rattle.std.proofs.Common.{ℕ, List, ◌++◌, ◌∷◌, [], ◌∙◌, map, take, sym, ap, subst, arith}
use Rattle.std.proofs.lemmas.List.{map_more, take_all}
use Rattle.fjall_journal.specs.declared.batch.ReadBatchItem.{ReadBatchItem}
use Rattle.fjall_journal.specs.Batches.{view}
use Rattle.fjall_files.specs.Telling.{AreRaised}
use Rattle.fjall_files.proofs.Telling.{marks_more, raised_more}
use Rattle.fjall_files.proofs.watermarks.Watermarks.raise_batch.Goals as goal

pub loop-item-preserved : goal.loop-item-preserved
loop-item-preserved c =
    let items = c.deref-item-items.result.now in
    let so_far : List ℕ = map (λ item. item.keyspace_id) (take c.loop-item.item-index items) in
    let next = map_more (λ (item : ReadBatchItem). item.keyspace_id) items c.loop-item.item-index c.item-item.result c.loop-item-test.true in
    subst (λ l. AreRaised l c.args.batch.now.seqno c.args.self.now c.raise.new.self) (sym (next ∙ ap (λ (item : ReadBatchItem). so_far ++ item.keyspace_id ∷ []) (sym c.item-item.is)))
    (raised_more so_far c.item-item.result.keyspace_id c.args.batch.now.seqno c.args.self.now c.loop-item.self c.raise.new.self c.loop-item.invariant c.in_ok-raise.ensures.ok)

pub returns-clause-ok : goal.returns-clause-ok
returns-clause-ok c front are =
    let batch = c.args.batch.now in
    let clears = c.deref-keyspace_id-items.result.now in
    let all = take_all c.loop-keyspace_id.keyspace_id-index clears (omega (arith, c.loop-keyspace_id-test.false)) ∙ c.deref-keyspace_id-items.ensures.value in
    marks_more front (view batch) c.args.self.now c.loop-keyspace_id.self
    (subst (λ (l : List ℕ). AreRaised (map (λ item. item.keyspace_id) batch.items.items ++ l) batch.seqno c.args.self.now c.loop-keyspace_id.self) all c.loop-keyspace_id.invariant) are
