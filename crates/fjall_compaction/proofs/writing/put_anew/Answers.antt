use Rattle.std.proofs.Common.{refl, ◌∙◌}
use Rattle.fjall_base.specs.Disk.{Meaning, state_in}
use Rattle.fjall_files.proofs.Made.{removing_within, within_both, within_none}
use Rattle.fjall_files.proofs.Tidying.{removing_tidy, stays_both, stays_by, stays_none}
use Rattle.fjall_files.proofs.Under.{under_self}
use Rattle.fjall_manifest.proofs.Removals.{missing_now}
use Rattle.fjall_compaction.proofs.Writings as Writings
use Rattle.fjall_compaction.proofs.writing.put_anew.Goals as goal

-- ---- what stands there wasn't taken away

pub returns-in_err-remove-clause-within : goal.returns-in_err-remove-clause-within
returns-in_err-remove-clause-within g c honest = within_none c.args.file.now _ _ (c.in_err-remove.ensures.err honest)

pub returns-in_err-remove-clause-served : goal.returns-in_err-remove-clause-served
returns-in_err-remove-clause-served g c honest can differ = (c.in_err-remove.ensures.judged honest).served can.kind

pub returns-in_err-remove-clause-kinds : goal.returns-in_err-remove-clause-kinds
returns-in_err-remove-clause-kinds g c honest fit = stays_none _ _ (c.in_err-remove.ensures.err honest)

-- ---- the whole call

pub returns-clause-within : goal.returns-clause-within
returns-clause-within g c honest =
    let m : _ → Meaning = g.D.Disk.meaning in
    let file = c.args.file.now in
    within_both file (m c.args.disk.now) (m c.remove.new.self) (m c.make_file.new.disk)
    (removing_within file file (m c.args.disk.now) (m c.remove.new.self) (under_self file) (c.in_ok-remove.ensures.ok honest)) (c.make_file.ensures.within honest file (under_self file))

pub returns-clause-made : goal.returns-clause-made
returns-clause-made g c honest =
    let m : _ → Meaning = g.D.Disk.meaning in
    c.make_file.ensures.made honest (missing_now c.args.file.now (m c.args.disk.now) (m c.remove.new.self) (state_in (m c.args.disk.now) c.args.file.now).now refl (c.in_ok-remove.ensures.ok honest))

pub returns-clause-served : goal.returns-clause-served
returns-clause-served g c honest can differ =
    let m : _ → Meaning = g.D.Disk.meaning in
    c.make_file.ensures.served honest (Writings.can_still (m c.args.disk.now) (m c.remove.new.self) c.args.file.now differ (c.in_ok-remove.ensures.ok honest) can)
    ∙ (c.in_ok-remove.ensures.judged honest).served can.kind

pub returns-clause-kinds : goal.returns-clause-kinds
returns-clause-kinds g c honest fit =
    let m : _ → Meaning = g.D.Disk.meaning in
    stays_both (m c.args.disk.now) (m c.remove.new.self) (m c.make_file.new.disk)
    (stays_by (m c.args.disk.now) (m c.remove.new.self) _ (c.in_ok-remove.ensures.ok honest) (removing_tidy c.args.file.now (state_in (m c.args.disk.now) c.args.file.now).now))
    (c.make_file.ensures.kinds honest fit)
