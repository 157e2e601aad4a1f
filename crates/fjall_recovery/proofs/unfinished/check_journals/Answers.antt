use Rattle.std.proofs.Common.{◌∙◌, [], ap, get_or, refl, subst, sym, arith}
use Rattle.std.proofs.lemmas.List.{take_all}
use Rattle.fjall_base.specs.Disk.{Image, standing, state_in}
use Rattle.fjall_journal.specs.Batches.{NoneAt}
use Rattle.fjall_journal.proofs.Writing.{took_none}
use Rattle.fjall_recovery.specs.Journals.{journal_text}
use Rattle.fjall_recovery.proofs.Beginnings.{AreNone, none_more, all_empty, not_empty, read_none, read_some}
use Rattle.fjall_recovery.proofs.unfinished.check_journals.Goals as goal

pub returns-then-look-gt0-clause-cause : goal.returns-then-look-gt0-clause-cause
returns-then-look-gt0-clause-cause g c honest are =
    let image : Image = standing (state_in (g.D.Disk.meaning c.args.disk.now)) in
    let same = ap standing (c.loop-id.invariant.same honest).state in
    let id = get_or c.args.ids.now c.loop-id.id-index 0 in (
      refl,
      not_empty image c.args.ids.now c.loop-id.id-index are c.loop-id-test.true
          (λ none. read_some _ _ _ _ (c.in_ok-look.ensures.found honest).read c.if-look-gt0.true (subst (λ (i : Image). NoneAt (journal_text i id)) (sym same) none)),
    )

pub loop-id-preserved : goal.loop-id-preserved
loop-id-preserved g c =
    let so_far = c.loop-id.invariant in
    let read = c.in_ok-look.ensures in
    let faults = so_far.later in let more = read.later in
    let start = c.if-look-gt0.false in
    record {
      empty = λ honest.
          let image : Image = standing (state_in (g.D.Disk.meaning c.args.disk.now)) in
          let same = ap standing (so_far.same honest).state in
          let id = get_or c.args.ids.now c.loop-id.id-index 0 in
          none_more image c.args.ids.now c.loop-id.id-index c.loop-id-test.true (so_far.empty honest) (subst (λ (i : Image). NoneAt (journal_text i id)) same (read_none _ _ _ _ (read.found honest).read (omega (arith, start))));
      same = λ honest. took_none _ _ _ [] (so_far.same honest) (read.same honest);
      served = λ honest. read.served honest ∙ so_far.served honest;
      later = omega (arith, faults, more);
    }

pub returns-clause-empty : goal.returns-clause-empty
returns-clause-empty g c honest are =
    let image : Image = standing (state_in (g.D.Disk.meaning c.args.disk.now)) in
    all_empty image c.args.ids.now are (subst (AreNone image) (take_all c.loop-id.id-index c.args.ids.now c.loop-id-test.false) (c.loop-id.invariant.empty honest))
