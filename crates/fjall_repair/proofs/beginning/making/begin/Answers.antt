use Rattle.std.proofs.Common.{sym, subst, ◌∙◌}
use Rattle.fjall_base.specs.Disk.{DiskEntry, Meaning, standing, state_in}
use Rattle.fjall_base.specs.declared.error.FormatVersion.TheVariants.{V3}
use Rattle.fjall_files.specs.Texts.{text_in}
use Rattle.fjall_files.specs.Marker.{header}
use Rattle.fjall_repair.specs.Plans.{IsFound}
use Rattle.fjall_repair.proofs.Begun.{before, comes_back_kept, then_done}
use Rattle.fjall_repair.proofs.Standing.{kept_more, making_of, unfinished_of}
use Rattle.fjall_repair.proofs.Backs.{has_some, kept_back, not_both}
use Rattle.fjall_files.proofs.Tidying.{stays_both as tidy_both, tidy_on}
use Rattle.fjall_repair.proofs.BeginServed.{homes_both}
use Rattle.fjall_repair.proofs.beginning.making.begin.Goals as goal

pub returns-in_err-prepare-clause-any_moment : goal.returns-in_err-prepare-clause-any_moment
returns-in_err-prepare-clause-any_moment g c honest fits back =
    let m : _ → Meaning = g.D.Disk.meaning in
    let kept = comes_back_kept (state_in (m c.args.disk.now)) back in
    before (m c.args.disk.now) (m c.prepare.new.disk) kept (c.in_err-prepare.ensures.goes honest fits)

pub returns-clause-any_moment : goal.returns-clause-any_moment
returns-clause-any_moment g c honest fits back =
    let m : _ → Meaning = g.D.Disk.meaning in
    let kept = comes_back_kept (state_in (m c.args.disk.now)) back in
    let done = c.in_ok-prepare.ensures in
    let mid = m c.prepare.new.disk in
    let found = subst (λ (e : DiskEntry). IsFound c.args.plan.now.marker (header V3) (text_in e)) (sym (done.marker honest fits)) fits.marker in
    then_done (m c.args.disk.now) mid (m c.mark.new.disk) (before (m c.args.disk.now) mid kept (done.goes honest fits))
    (c.mark.ensures.any_moment honest (c.deref.ensures.value ∙ fits.header_is) found (kept_more (state_in mid) ((done.goes honest fits).kept kept)) c.args.plan.now.sealed.items c.args.plan.now.active (done.awaits honest fits kept.now))

pub returns-clause-ok : goal.returns-clause-ok
returns-clause-ok g c honest fits unfinished =
    let done = c.in_ok-prepare.ensures in
    let found = subst (λ (e : DiskEntry). IsFound c.args.plan.now.marker (header V3) (text_in e)) (sym (done.marker honest fits)) fits.marker in
    c.mark.ensures.begun honest (c.deref.ensures.value ∙ fits.header_is) found c.args.plan.now.sealed.items c.args.plan.now.active (done.awaits honest fits (making_of (standing (state_in (g.D.Disk.meaning c.args.disk.now))) unfinished))

pub returns-in_err-prepare-clause-back : goal.returns-in_err-prepare-clause-back
returns-in_err-prepare-clause-back g c honest fits back begun =
    let m : _ → Meaning = g.D.Disk.meaning in
    kept_back (state_in (m c.prepare.new.disk)) ((c.in_err-prepare.ensures.goes honest fits).kept (comes_back_kept (state_in (m c.args.disk.now)) back))

pub returns-in_err-prepare-clause-journal : goal.returns-in_err-prepare-clause-journal
returns-in_err-prepare-clause-journal g c honest fits back contents sound none =
    let m : _ → Meaning = g.D.Disk.meaning in
    let image = standing (state_in (m c.prepare.new.disk)) in
    not_both image contents sound (unfinished_of image ((c.in_err-prepare.ensures.goes honest fits).kept (comes_back_kept (state_in (m c.args.disk.now)) back)).now)

pub returns-clause-back : goal.returns-clause-back
returns-clause-back g c honest fits back begun =
    let m : _ → Meaning = g.D.Disk.meaning in
    let kept = comes_back_kept (state_in (m c.args.disk.now)) back in
    let done = c.in_ok-prepare.ensures in
    let found = subst (λ (e : DiskEntry). IsFound c.args.plan.now.marker (header V3) (text_in e)) (sym (done.marker honest fits)) fits.marker in
    c.mark.ensures.back honest (c.deref.ensures.value ∙ fits.header_is) found ((done.goes honest fits).kept kept) begun

pub returns-clause-journal : goal.returns-clause-journal
returns-clause-journal g c honest fits back contents sound none =
    let m : _ → Meaning = g.D.Disk.meaning in
    let kept = comes_back_kept (state_in (m c.args.disk.now)) back in
    let at = c.mark.ensures.journal honest c.args.plan.now.sealed.items c.args.plan.now.active (c.in_ok-prepare.ensures.awaits honest fits kept.now) in
    has_some (standing (state_in (m c.mark.new.disk))) contents c.args.plan.now.active at.0 at.1 sound none

pub returns-clause-kinds : goal.returns-clause-kinds
returns-clause-kinds g c honest fits =
    let m : _ → Meaning = g.D.Disk.meaning in
    tidy_both (m c.args.disk.now) (m c.prepare.new.disk) (m c.mark.new.disk) (c.in_ok-prepare.ensures.kinds honest fits) (c.mark.ensures.kinds honest)

pub returns-clause-homes : goal.returns-clause-homes
returns-clause-homes g c honest fits =
    let m : _ → Meaning = g.D.Disk.meaning in
    homes_both (state_in (m c.args.disk.now)) (state_in (m c.prepare.new.disk)) (state_in (m c.mark.new.disk)) (c.in_ok-prepare.ensures.homes honest fits) (c.mark.ensures.homes honest)

pub returns-clause-served : goal.returns-clause-served
returns-clause-served g c honest tidy fits =
    let m : _ → Meaning = g.D.Disk.meaning in
    let done = c.in_ok-prepare.ensures in
    c.mark.ensures.served honest (tidy_on (m c.args.disk.now) (m c.prepare.new.disk) (done.kinds honest fits) tidy) (c.deref.ensures.value ∙ fits.header_is) (subst (λ (e : DiskEntry). IsFound c.args.plan.now.marker (header V3) (text_in e)) (sym (done.marker honest fits)) fits.marker)
    ∙ done.served honest tidy fits
