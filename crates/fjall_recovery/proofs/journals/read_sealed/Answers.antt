use Rattle.std.proofs.Common.{◌∙◌, ◌+◌, ◌++◌, ◌∷◌, List, take, [], false, sym, ap, subst, arith}
use Rattle.std.proofs.lemmas.Result.{err_from_is_err_and}
use Rattle.fjall_base.specs.Disk.{standing, state_in}
use Rattle.fjall_journal.proofs.Writing.{took_none}
use Rattle.fjall_files.specs.Journals.{Sealed}
use Rattle.fjall_files.specs.Telling.{AreMarksOf}
use Rattle.fjall_recovery.specs.Refusals.{TailRefuses}
use Rattle.fjall_recovery.specs.Told.{AreSealedAs}
use Rattle.fjall_recovery.proofs.Telling.{sealed_as, turn_ids, turn_told}
use Rattle.fjall_recovery.proofs.Gathering.{turn_batch, turn_tail, turn_on, turn_found}
use Rattle.fjall_recovery.proofs.journals.read_sealed.Goals as goal

pub returns-in_err-tail-clause-cause : goal.returns-in_err-tail-clause-cause
returns-in_err-tail-clause-cause g c honest active =
    let p = err_from_is_err_and c.from_residual-in_err-tail.result c.from_residual-in_err-tail.ensures.1 in
    let so_far = c.loop-id.invariant in
    let same = ap standing (so_far.same honest).state in
    let look = c.in_ok-look.ensures.found honest in
    rw (p.1, p.2)
    (turn_batch (standing (state_in (g.D.Disk.meaning c.args.disk.now))) c.args.ids.now c.loop-id.id-index c.loop-id.journals.least active c.loop-id-test.true (so_far.cause honest active)
    _ _ look.batches _ c.in_err-tail.field-0.0 same look.read (c.in_err-tail.ensures.cause _ look.batches look.checked))

pub returns-in_err-check_sealed-clause-cause : goal.returns-in_err-check_sealed-clause-cause
returns-in_err-check_sealed-clause-cause g c honest active =
    let p = err_from_is_err_and c.from_residual-in_err-check_sealed.result c.from_residual-in_err-check_sealed.ensures.1 in
    let so_far = c.loop-id.invariant in
    let same = ap standing (so_far.same honest).state in
    let look = c.in_ok-look.ensures.found honest in
    rw (p.1, p.2)
    (turn_tail (standing (state_in (g.D.Disk.meaning c.args.disk.now))) c.args.ids.now c.loop-id.id-index c.loop-id.journals.least active c.loop-id-test.true (so_far.cause honest active)
    _ _ look.batches _ c.in_err-check_sealed.field-0.0 same look.read (c.in_ok-tail.ensures.sound _ look.batches look.checked).0
    (subst (λ t. TailRefuses false t c.in_err-check_sealed.field-0.0) c.in_ok-tail.ensures.tail c.in_err-check_sealed.ensures.cause))

pub loop-id-preserved : goal.loop-id-preserved
loop-id-preserved g c =
    let so_far = c.loop-id.invariant in
    let read = c.in_ok-look.ensures in
    let taken = c.in_ok-tail.ensures in
    let clean = sym taken.tail ∙ c.in_ok-check_sealed.ensures.ok in
    let journal : Sealed = c.in_ok-sealed.sealed in
    let pushed = c.in_ok-enqueue.ensures.ok ∙ ap (λ (l : List Sealed). l ++ journal ∷ []) taken.sealed in
    let faults = so_far.later in let more = read.later in
    record {
      found = λ honest.
          let look = read.found honest in
          let sound = taken.sound _ look.batches look.checked in
          turn_found (standing (state_in (g.D.Disk.meaning c.args.disk.now))) _ c.args.ids.now c.loop-id.id-index _ _ _ look.batches _ c.loop-id-test.true (ap standing (so_far.same honest).state) (so_far.found honest) look.read clean sound.0 sound.1;
      torn = taken.torn ∙ so_far.torn;
      told = λ honest.
          let look = read.found honest in
          subst (AreSealedAs (standing (state_in (g.D.Disk.meaning c.args.disk.now))) (take (c.loop-id.id-index + 1) c.args.ids.now)) (sym pushed)
          (turn_told (standing (state_in (g.D.Disk.meaning c.args.disk.now))) _ c.args.ids.now c.loop-id.id-index c.loop-id.journals.sealed journal look.batches _ _ c.loop-id-test.true (ap standing (so_far.same honest).state)
          (so_far.told honest) look.read clean (sealed_as _ look.batches _ journal _ _ c.in_ok-sealed.ensures.ok taken.end (subst (AreMarksOf look.batches) (sym taken.marks) look.marks)));
      ids = turn_ids c.args.ids.now c.loop-id.id-index c.loop-id.journals.sealed c.enqueue.new.self journal c.loop-id-test.true so_far.ids (ap (λ (s : Sealed). s.id) c.in_ok-sealed.ensures.ok) pushed;
      same = λ honest. took_none _ _ _ [] (so_far.same honest) (read.same honest);
      served = λ honest. read.served honest ∙ so_far.served honest;
      later = omega (arith, faults, more);
      cause = λ honest active error refused.
          let look = read.found honest in
          let sound = taken.sound _ look.batches look.checked in
          turn_on (standing (state_in (g.D.Disk.meaning c.args.disk.now))) c.args.ids.now c.loop-id.id-index c.loop-id.journals.least active c.loop-id-test.true (so_far.cause honest active)
          _ _ _ look.batches _ error (ap standing (so_far.same honest).state) look.read clean sound.0 sound.1 refused;
    }
