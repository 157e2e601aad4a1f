use Rattle.std.proofs.Common.{arith, inl, refl, subst, All, ◌∙◌}
use Rattle.std.proofs.lemmas.List.{take_all}
use Rattle.fjall_base.specs.Disk.{Meaning, state_in, standing}
use Rattle.fjall_files.proofs.Tidying.{stays_both, stays_start}
use Rattle.fjall_base.proofs.Moments.{started}
use Rattle.fjall_repair.specs.Amids.{StaysAmid}
use Rattle.fjall_repair.specs.Steps.{IsEnded, Stays, end_of, IsRightEnd}
use Rattle.fjall_repair.proofs.Items.{none_yet, item_has}
use Rattle.fjall_repair.proofs.MendServed.{can_end}
use Rattle.fjall_repair.proofs.Turns.{turn_moment, turn_may, turn_ended, turn_synced, turn_older, turn_elsewhere}
use Rattle.fjall_repair.proofs.TurnsAmid.{turn_amid, turn_stands, stays_first}
use Rattle.fjall_repair.proofs.mending.steps.end_files.Goals as goal

pub returns-in_err-end_file-clause-any_moment : goal.returns-in_err-end_file-clause-any_moment
returns-in_err-end_file-clause-any_moment g c honest contents right settled images =
    let m : _ → Meaning = g.D.Disk.meaning in
    turn_moment (m c.args.disk.now) (m c.loop-end.disk) (m c.end_file.new.disk) c.args.ends.now c.loop-end.end-index c.end-item.result c.end-item.is c.loop-end-test.true c.as_str.result.now c.as_str.ensures.value contents right settled
    (c.loop-end.invariant.moments honest contents right settled images) (c.in_err-end_file.ensures.any_moment honest)

pub loop-end-init : goal.loop-end-init
loop-end-init g c =
    let old : Meaning = g.D.Disk.meaning c.args.disk.now in
    record {
      moments = λ honest contents right settled images. started old (Stays (state_in old) contents) images;
      may = λ honest contents right q. inl refl;
      ended = λ honest contents right. none_yet (λ e. IsEnded (state_in old) (state_in old) (end_of e));
      synced = λ honest q was. was;
      older = λ honest q. refl;
      elsewhere = λ honest q apart. refl;
      amid = λ honest contents sound right settled base pending images. started old (StaysAmid (state_in old) base pending) images;
      stands = λ honest contents sound right settled. stays_first (state_in old) contents sound;
      kinds = λ honest. stays_start old;
      served = λ honest contents right. refl;
      later = omega arith;
    }

pub loop-end-preserved : goal.loop-end-preserved
loop-end-preserved g c =
    let m : _ → Meaning = g.D.Disk.meaning in
    let old = m c.args.disk.now in
    let mid = m c.loop-end.disk in
    let new = m c.end_file.new.disk in
    let inv = c.loop-end.invariant in
    let one = c.in_ok-end_file.ensures in
    let faults = inv.later in let more = one.cause.later in
    let ends = c.args.ends.now in
    let i = c.loop-end.end-index in
    let x = c.end-item.result in
    let at = c.end-item.is in
    let lt = c.loop-end-test.true in
    let file = c.as_str.result.now in
    let is = c.as_str.ensures.value in
    record {
      moments = λ honest contents right settled images. turn_moment old mid new ends i x at lt file is contents right settled (inv.moments honest contents right settled images) (one.any_moment honest);
      may = λ honest contents right. turn_may old mid new ends i x at lt file is (one.ended honest) (one.elsewhere honest) contents right (inv.may honest contents right);
      ended = λ honest contents right. turn_ended old mid new ends i x at lt file is (one.ended honest) (one.elsewhere honest) contents right (inv.may honest contents right) (inv.ended honest contents right);
      synced = λ honest q was. turn_synced old mid new ends i x at lt file is (one.ended honest) (one.elsewhere honest) q (inv.synced honest q was);
      older = λ honest. turn_older old mid new ends i x at lt file is (one.ended honest) (one.elsewhere honest) (inv.older honest);
      elsewhere = λ honest q apart. turn_elsewhere old mid new ends i x at lt file is (one.ended honest) (one.elsewhere honest) q apart (inv.elsewhere honest q apart);
      amid = λ honest contents sound right settled base pending images. turn_amid old mid new ends i x at lt file is contents sound right settled base pending (inv.amid honest contents sound right settled base pending images) (one.any_moment honest);
      stands = λ honest contents sound right settled. turn_stands old mid new ends i x at lt file is (one.ended honest) (one.elsewhere honest) contents right settled (inv.stands honest contents sound right settled);
      kinds = λ honest. stays_both old mid new (inv.kinds honest) (one.kinds honest);
      served = λ honest contents right. one.served honest (can_end (state_in old) (state_in mid) contents x file is (item_has (λ e. IsRightEnd (standing (state_in old)) contents (end_of e)) ends i x at lt right) (inv.may honest contents right)) ∙ inv.served honest contents right;
      later = omega (arith, faults, more);
    }

pub returns-clause-ended : goal.returns-clause-ended
returns-clause-ended g c honest contents right =
    let m : _ → Meaning = g.D.Disk.meaning in
    subst (All (λ e. IsEnded (state_in (m c.args.disk.now)) (state_in (m c.loop-end.disk)) (end_of e))) (take_all c.loop-end.end-index c.args.ends.now (omega (arith, c.loop-end-test.false)))
    (c.loop-end.invariant.ended honest contents right)

pub returns-in_err-end_file-clause-kinds : goal.returns-in_err-end_file-clause-kinds
returns-in_err-end_file-clause-kinds g c honest =
    let m : _ → Meaning = g.D.Disk.meaning in
    stays_both (m c.args.disk.now) (m c.loop-end.disk) (m c.end_file.new.disk) (c.loop-end.invariant.kinds honest) (c.in_err-end_file.ensures.kinds honest)

pub returns-in_err-end_file-clause-served : goal.returns-in_err-end_file-clause-served
returns-in_err-end_file-clause-served g c honest contents right =
    let old = state_in (g.D.Disk.meaning c.args.disk.now) in
    c.in_err-end_file.ensures.served honest (can_end old (state_in (g.D.Disk.meaning c.loop-end.disk)) contents c.end-item.result c.as_str.result.now c.as_str.ensures.value
    (item_has (λ e. IsRightEnd (standing old) contents (end_of e)) c.args.ends.now c.loop-end.end-index c.end-item.result c.end-item.is c.loop-end-test.true right) (c.loop-end.invariant.may honest contents right))
    ∙ c.loop-end.invariant.served honest contents right

pub returns-in_err-end_file-clause-amid : goal.returns-in_err-end_file-clause-amid
returns-in_err-end_file-clause-amid g c honest contents sound right settled base pending images =
    let m : _ → Meaning = g.D.Disk.meaning in
    turn_amid (m c.args.disk.now) (m c.loop-end.disk) (m c.end_file.new.disk) c.args.ends.now c.loop-end.end-index c.end-item.result c.end-item.is c.loop-end-test.true c.as_str.result.now c.as_str.ensures.value contents sound right settled base pending
    (c.loop-end.invariant.amid honest contents sound right settled base pending images) (c.in_err-end_file.ensures.any_moment honest)

pub returns-clause-stands : goal.returns-clause-stands
returns-clause-stands g c honest contents sound right settled = (c.loop-end.invariant.stands honest contents sound right settled).sound
