use Rattle.std.proofs.Common.{◌∙◌}
use Rattle.fjall_base.specs.Disk.{Meaning}
use Rattle.fjall_journal.proofs.Rotating.{can_make, free_before, made_in_part, persisted_in_part, rotated}
use Rattle.fjall_journal.proofs.writer.Writer.rotate.Goals as goal

pub returns-in_err-persist-clause-part : goal.returns-in_err-persist-clause-part
returns-in_err-persist-clause-part g c = λ h.
    let m : _ → Meaning = g.D.Disk.meaning in
    persisted_in_part c.from_residual.result (m c.args.disk.now) (m c.persist.new.disk) c.args.self.now c.persist.new.self c.args.next.now (c.in_err-persist.ensures.left h)

pub returns-clause-took : goal.returns-clause-took
returns-clause-took g c = λ h.
    let m : _ → Meaning = g.D.Disk.meaning in
    rotated c.make_safe.result (m c.args.disk.now) (m c.persist.new.disk) (m c.make_safe.new.disk) c.args.self.now c.args.next.now (c.in_ok-persist.ensures.took h) (c.make_safe.ensures.took h)

pub returns-clause-part : goal.returns-clause-part
returns-clause-part g c = λ h.
    let m : _ → Meaning = g.D.Disk.meaning in
    made_in_part c.make_safe.result (m c.args.disk.now) (m c.persist.new.disk) (m c.make_safe.new.disk) c.args.self.now c.persist.new.self c.args.next.now
    c.in_ok-persist.ensures.ok (c.in_ok-persist.ensures.took h) (c.make_safe.ensures.part h)

pub returns-clause-served : goal.returns-clause-served
returns-clause-served g c = λ h root some file none.
    let m : _ → Meaning = g.D.Disk.meaning in
    c.make_safe.ensures.served h (can_make (m c.args.disk.now) (m c.persist.new.disk) c.args.self.now c.args.next.now (c.in_ok-persist.ensures.took h) root some none)
    ∙ c.in_ok-persist.ensures.served h file

pub returns-clause-free : goal.returns-clause-free
returns-clause-free g c = λ h.
    let m : _ → Meaning = g.D.Disk.meaning in
    free_before c.make_safe.result (m c.args.disk.now) (m c.persist.new.disk) c.args.self.now c.args.next.now (c.in_ok-persist.ensures.took h) (c.make_safe.ensures.free h)
