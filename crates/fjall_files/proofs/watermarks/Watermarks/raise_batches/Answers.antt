use Rattle.std.proofs.Common.{◌∷◌, [], ◌++◌, ◌∙◌, List, map, take, append_assoc, sym, ap, subst, arith}
use Rattle.std.proofs.lemmas.List.{append-nil, map_more, take_all}
use Rattle.fjall_journal.specs.declared.batch.Batch.{Batch}
use Rattle.fjall_journal.specs.Batches.{Shown, view}
use Rattle.fjall_files.specs.Telling.{AreMarksOf}
use Rattle.fjall_files.proofs.Telling.{fell_on, none_fell}
use Rattle.fjall_files.proofs.watermarks.Watermarks.raise_batches.Goals as goal

pub loop-batch-init : goal.loop-batch-init
loop-batch-init c = record {
  ok = λ front are. subst (λ (l : List Shown). AreMarksOf l c.args.self.now) (sym (append-nil front)) are;
  never_falls = none_fell c.args.self.now;
}

pub loop-batch-preserved : goal.loop-batch-preserved
loop-batch-preserved c =
    let batches = c.args.batches.now in
    let so_far : List Shown = map view (take c.loop-batch.batch-index batches) in
    let next = map_more view batches c.loop-batch.batch-index c.batch-item.result c.loop-batch-test.true ∙ ap (λ (b : Batch). so_far ++ view b ∷ []) (sym c.batch-item.is) in
    record {
      ok = λ front are.
          subst (λ (l : List Shown). AreMarksOf l c.raise_batch.new.self) (append_assoc front so_far (view c.batch-item.result ∷ []) ∙ ap (λ (l : List Shown). front ++ l) (sym next))
          (c.in_ok-raise_batch.ensures.ok (front ++ so_far) (c.loop-batch.invariant.ok front are));
      never_falls = fell_on c.args.self.now c.loop-batch.self c.raise_batch.new.self c.loop-batch.invariant.never_falls c.raise_batch.ensures.never_falls;
    }

pub returns-clause-ok : goal.returns-clause-ok
returns-clause-ok c front are =
    let all = take_all c.loop-batch.batch-index c.args.batches.now (omega (arith, c.loop-batch-test.false)) in
    subst (λ (l : List Batch). AreMarksOf (front ++ map view l) c.loop-batch.self) all (c.loop-batch.invariant.ok front are)
