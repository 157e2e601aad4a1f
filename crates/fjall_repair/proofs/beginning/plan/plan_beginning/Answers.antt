use Rattle.std.proofs.Common.{◌∙◌, List, ℕ, ap, map}
use Rattle.fjall_base.specs.Disk.{standing, state_in}
use Rattle.fjall_files.specs.Names.{journal_name}
use Rattle.fjall_repair.proofs.Plannings.{active_is, plan_of}
use Rattle.fjall_repair.proofs.beginning.plan.plan_beginning.Goals as goal

abbrev planned : goal.returns-clause-plan
planned g c honest =
    let image = standing (state_in (g.D.Disk.meaning c.args.disk.now)) in
    let one = ap standing (c.in_ok-ids.ensures.same honest).state in
    let two = ap standing (c.in_ok-records.ensures.same honest).state in
    plan_of image _ _ _ c.in_ok-ids.ids.items c.deref-2.result.now c.deref-3.result.now one (two ∙ one) c.apart-sealed.ensures
    (c.in_ok-journals.ensures.names ∙ ap (λ (l : List ℕ). map journal_name l) c.deref.ensures.value) (c.in_ok-ids.ensures.ids honest)
    c.in_ok-first.ensures.text c.deref-2.ensures.value (c.in_ok-records.ensures.found honest) c.in_ok-header.ensures.header c.deref-3.ensures.value (c.in_ok-marker.ensures.found honest)

pub returns-clause-plan : goal.returns-clause-plan
returns-clause-plan g c honest = planned g c honest

pub returns-clause-active : goal.returns-clause-active
returns-clause-active g c honest =
    let image = standing (state_in (g.D.Disk.meaning c.args.disk.now)) in
    let fits = planned g c honest in
    active_is image c.apart-sealed.result.0.items _ fits.to_be
