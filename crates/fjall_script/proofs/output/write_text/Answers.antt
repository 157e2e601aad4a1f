use Rattle.std.proofs.Common.{◌≡◌, ap, ◌∙◌, refl}
use Rattle.std.proofs.lemmas.List.{take_rest}
use Rattle.fjall_lines.proofs.Bytes.{is_empty_is}
use Rattle.fjall_script.proofs.Writing.{on_err, on_ok, wrote_all, wrote_front, wrote_more, wrote_none, wrote_same}
use Rattle.fjall_script.proofs.output.write_text.Goals as goal
use Rattle.fjall_script.proofs.output.write_text.Goals.{in-Ok, in-Err, else-loop-test, then-loop-test+else-is_empty+in-Ok-eq0}

pub loop-init : goal.loop-init
loop-init g c = wrote_none _ _

pub returns-then-is_empty-clause-ok : goal.returns-then-is_empty-clause-ok
returns-then-is_empty-clause-ok g c =
    on_ok c.flush.result _ (wrote_all _ _ _ _ (wrote_same _ _ _ _ _ c.loop.invariant c.flush.ensures.bytes) ((is_empty_is c.loop.rest.now c.is_empty.result c.is_empty.ensures).0 c.if-is_empty.true))

pub returns-then-is_empty-clause-err : goal.returns-then-is_empty-clause-err
returns-then-is_empty-clause-err g c = on_err c.flush.result _ (wrote_front _ _ _ _ (wrote_same _ _ _ _ _ c.loop.invariant c.flush.ensures.bytes))

pub returns-in-Err-2-clause-err : goal.returns-in-Err-2-clause-err
returns-in-Err-2-clause-err g c = wrote_front _ _ _ _ (wrote_same _ _ _ _ _ c.loop.invariant c.in-Err-2.ensures.bytes)

pub loop-preserved : goal.loop-preserved
loop-preserved g c =
    elim c.match-write.branch [
      | in-Ok w ↦ wrote_more _ _ _ _ c.loop.rest.now c.match-write.rest.now w.in-Ok.count c.loop.invariant w.in-Ok.ensures.bytes (ap (λ l. l.now) w.rest-is ∙ take_rest c.loop.rest.now w.in-Ok.count)
      | in-Err w ↦
          let same : c.match-write.rest.now ≡ c.loop.rest.now = ap (λ l. l.now) w.rest-is in
          rw same (wrote_same _ _ _ _ _ c.loop.invariant w.in-Err.ensures.bytes)
    ]

pub returns-clause-err : goal.returns-clause-err
returns-clause-err g c =
    elim c.loop-test.branch [
      | else-loop-test w ↦ rw w.output-is (wrote_front _ _ _ _ c.loop.invariant)
      | then-loop-test+else-is_empty+in-Ok-eq0 w ↦
          rw w.output-is (wrote_front _ _ _ _ (wrote_more _ _ _ _ c.loop.rest.now _ w.in-Ok-eq0.field-0 c.loop.invariant (rw w.in-Ok-eq0.is at w.write.ensures.bytes) refl))
    ]
