use Rattle.std.proofs.Common.{◌∙◌, IsOkUnless, subst, sym}
use Rattle.fjall_base.specs.Disk.{state_in}
use Rattle.fjall_base.specs.declared.error.Error.TheVariants.{OutOfMemory}
use Rattle.fjall_journal.specs.Changes.{change_text, of_change}
use Rattle.fjall_changes.specs.Given.{meant}
use Rattle.fjall_changes.proofs.JournalFile.{writing_file}
use Rattle.fjall_changes.proofs.CommandAppends.{change_direct, command_apart, command_done, command_file, command_leaves, command_left, command_on, command_stays, command_took, stays_in, unwritten_apart, unwritten_leaves, unwritten_stays}
use Rattle.fjall_changes.proofs.journaling.append_change.Goals as goal

-- ---- the write was refused

pub returns-in_err-write_change-clause-any_moment : goal.returns-in_err-write_change-clause-any_moment
returns-in_err-write_change-clause-any_moment g c = λ h.
    unwritten_leaves c.in_err-write_change.field-0.0 c.args.journal.now (of_change (meant c.args.change) c.args.seqno) (g.D.Disk.meaning c.args.disk.now) (g.D.Disk.meaning c.write_change.new.disk) (c.in_err-write_change.ensures.part h)
    c.in_err-write_change.ensures.tried (change_direct (meant c.args.change))

pub returns-in_err-write_change-clause-elsewhere : goal.returns-in_err-write_change-clause-elsewhere
returns-in_err-write_change-clause-elsewhere g c = λ h.
    unwritten_apart c.in_err-write_change.field-0.0 c.args.journal.now (of_change (meant c.args.change) c.args.seqno) (g.D.Disk.meaning c.args.disk.now) (g.D.Disk.meaning c.write_change.new.disk) (c.in_err-write_change.ensures.part h)

pub returns-in_err-write_change-clause-kinds : goal.returns-in_err-write_change-clause-kinds
returns-in_err-write_change-clause-kinds g c = λ h.
    unwritten_stays c.in_err-write_change.field-0.0 c.args.journal.now (of_change (meant c.args.change) c.args.seqno) (g.D.Disk.meaning c.args.disk.now) (g.D.Disk.meaning c.write_change.new.disk) (c.in_err-write_change.ensures.part h)

-- ---- it was done

pub returns-clause-ok : goal.returns-clause-ok
returns-clause-ok g c =
    command_done c.persist_in.result c.args.mode c.args.journal.now c.write_change.new.journal c.persist_in.new.journal (change_text (meant c.args.change) c.args.seqno) c.in_ok-write_change.ensures.ok c.persist_in.ensures.ok

pub returns-clause-took : goal.returns-clause-took
returns-clause-took g c = λ h.
    command_took c.persist_in.result c.args.mode c.args.journal.now c.write_change.new.journal c.persist_in.new.journal (change_text (meant c.args.change) c.args.seqno) c.in_ok-write_change.ensures.ok
    (g.D.Disk.meaning c.args.disk.now) (g.D.Disk.meaning c.write_change.new.disk) (g.D.Disk.meaning c.persist_in.new.disk) (c.in_ok-write_change.ensures.took h) (c.persist_in.ensures.took h)

pub returns-clause-part : goal.returns-clause-part
returns-clause-part g c = λ h.
    command_left c.persist_in.result c.args.mode c.args.journal.now c.write_change.new.journal c.persist_in.new.journal (change_text (meant c.args.change) c.args.seqno) c.in_ok-write_change.ensures.ok
    (g.D.Disk.meaning c.args.disk.now) (g.D.Disk.meaning c.write_change.new.disk) (g.D.Disk.meaning c.persist_in.new.disk) (c.in_ok-write_change.ensures.took h) (c.persist_in.ensures.nothing h) (c.persist_in.ensures.left h)

pub returns-clause-served : goal.returns-clause-served
returns-clause-served g c = λ h j writing.
    let old = g.D.Disk.meaning c.args.disk.now in
    let mid = g.D.Disk.meaning c.write_change.new.disk in
    let still =
    command_file c.persist_in.result c.args.mode c.args.journal.now c.write_change.new.journal c.persist_in.new.journal (change_text (meant c.args.change) c.args.seqno) c.in_ok-write_change.ensures.ok
    old mid (g.D.Disk.meaning c.persist_in.new.disk) (c.in_ok-write_change.ensures.took h) j writing in
    c.persist_in.ensures.served h still ∙ c.in_ok-write_change.ensures.served h (writing_file (state_in old) c.args.journal.now j writing)

pub returns-clause-waits : goal.returns-clause-waits
returns-clause-waits g c = λ test.
    let stays = stays_in c.args.mode c.args.journal.now (of_change (meant c.args.change) c.args.seqno) test in
    (c.persist_in.ensures.unasked stays.0).1 ∙ c.in_ok-write_change.ensures.waits stays.1

pub returns-clause-faultless : goal.returns-clause-faultless
returns-clause-faultless g c = λ test.
    let stays = stays_in c.args.mode c.args.journal.now (of_change (meant c.args.change) c.args.seqno) test in
    subst (λ r. IsOkUnless r OutOfMemory) (sym (c.persist_in.ensures.unasked stays.0).0) tt

pub returns-clause-any_moment : goal.returns-clause-any_moment
returns-clause-any_moment g c = λ h.
    command_leaves c.persist_in.result c.args.mode c.args.journal.now c.persist_in.new.journal (of_change (meant c.args.change) c.args.seqno) (g.D.Disk.meaning c.args.disk.now) (g.D.Disk.meaning c.persist_in.new.disk)
    (returns-clause-took g c h) (returns-clause-part g c h) c.in_ok-write_change.ensures.written (change_direct (meant c.args.change))

pub returns-clause-lies : goal.returns-clause-lies
returns-clause-lies g c = λ h.
    command_on c.persist_in.result c.args.mode c.args.journal.now c.persist_in.new.journal (of_change (meant c.args.change) c.args.seqno) (g.D.Disk.meaning c.args.disk.now) (g.D.Disk.meaning c.persist_in.new.disk)
    (returns-clause-took g c h) c.in_ok-write_change.ensures.written (change_direct (meant c.args.change)) (returns-clause-ok g c)

pub returns-clause-elsewhere : goal.returns-clause-elsewhere
returns-clause-elsewhere g c = λ h.
    command_apart c.persist_in.result c.args.mode c.args.journal.now c.persist_in.new.journal (of_change (meant c.args.change) c.args.seqno) (g.D.Disk.meaning c.args.disk.now) (g.D.Disk.meaning c.persist_in.new.disk)
    (returns-clause-took g c h) (returns-clause-part g c h)

pub returns-clause-kinds : goal.returns-clause-kinds
returns-clause-kinds g c = λ h.
    command_stays c.persist_in.result c.args.mode c.args.journal.now c.persist_in.new.journal (of_change (meant c.args.change) c.args.seqno) (g.D.Disk.meaning c.args.disk.now) (g.D.Disk.meaning c.persist_in.new.disk)
    (returns-clause-took g c h) (returns-clause-part g c h)
