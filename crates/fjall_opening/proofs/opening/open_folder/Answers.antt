use Rattle.std.proofs.Common.{None, Some, Option, sym, subst, ◌∙◌}
use Rattle.std.specs.Prelude.{IfOk}
use Rattle.std.proofs.lemmas.Result.{err_from_is_err_and}
use Rattle.fjall_base.specs.Disk.{DiskState, Image, LeavesOnly, Meaning, standing, state_in}
use Rattle.fjall_base.proofs.Moments.{stays}
use Rattle.fjall_recovery.specs.Folders.{Contents, IsFinished, ReadsFolder, ImageStandsFor, IsOpenable, IsSound}
use Rattle.fjall_recovery.proofs.Strict.{due_once_in, opens_untorn}
use Rattle.fjall_recovery.specs.Held.{Holds, store_of_folder}
use Rattle.fjall_recovery.specs.Refusals.{HasTornTail, IsTornTail}
use Rattle.fjall_recovery.proofs.Shown.{shows_alike}
use Rattle.fjall_repair.specs.Making.{ComesBackUnfinished}
use Rattle.fjall_opening.specs.Opened.{ComesBack, HasNoJournal, OpensFolder}
use Rattle.fjall_opening.proofs.Openings.{begun_from, finished_is, held_is_due, held_up, holds_on, opened_from, run_on, stands_now, swept_on, unfinished_is, unopened}
use Rattle.fjall_files.specs.Tidy.{IsTidy}
use Rattle.fjall_files.proofs.Tidying.{stays_both, stays_none as tidy_none}
use Rattle.fjall_opening.proofs.Amid.{amid_now, amid_on}
use Rattle.fjall_opening.proofs.opening.open_folder.Goals as goal

pub returns-in_err-found-clause-any_moment : goal.returns-in_err-found-clause-any_moment
returns-in_err-found-clause-any_moment g c honest folder holds back =
    let m : _ → Meaning = g.D.Disk.meaning in
    stays (m c.args.disk.now) (m c.args.disk.now) (m c.read_folder.new.disk) _ (stands_now (m c.args.disk.now) folder holds) (c.in_err-found.ensures.same honest)

pub returns-in_err-found-clause-due : goal.returns-in_err-found-clause-due
returns-in_err-found-clause-due g c honest =
    let m : _ → Meaning = g.D.Disk.meaning in
    let p = err_from_is_err_and c.from_residual.result c.from_residual.ensures.1 in
    rw (p.1, p.2) (unopened c.args.mode (m c.args.disk.now) (m c.read_folder.new.disk) c.in_err-found.field-0.0 (c.in_err-found.ensures.cause honest) (c.in_err-found.ensures.same honest))

pub returns-in-Some-clause-opened : goal.returns-in-Some-clause-opened
returns-in-Some-clause-opened g c honest folder holds =
    let m : _ → Meaning = g.D.Disk.meaning in
    let image : Image = standing (state_in (m c.args.disk.now)) in
    let read : ReadsFolder image (Some c.in-Some.found) = subst (ReadsFolder image) c.in-Some.is (c.in_ok-found.ensures.found honest) in
    let same = c.in_ok-found.ensures.same honest in
    let is = finished_is image read.1.0 folder read.1.1 holds.now in
    subst (λ (f : Option Contents). IfOk c.open_finished.result (OpensFolder (m c.open_finished.new.disk) f)) (sym is.1)
    (c.open_finished.ensures.opened honest is.0 (subst (λ (s : DiskState). IsFinished (standing s) c.in-Some.found) (sym same.state) read.0) (shows_alike c.in-Some.found image read.1.0 is.0 read.1.1 is.2.openable read.1.2)
    (holds_on (m c.args.disk.now) (m c.read_folder.new.disk) same (Some is.0) (subst (λ (f : Option Contents). Holds (state_in (m c.args.disk.now)) f) is.1 holds)))

pub returns-in-Some-clause-found : goal.returns-in-Some-clause-found
returns-in-Some-clause-found g c honest =
    let m : _ → Meaning = g.D.Disk.meaning in
    let image : Image = standing (state_in (m c.args.disk.now)) in
    let read : ReadsFolder image (Some c.in-Some.found) = subst (ReadsFolder image) c.in-Some.is (c.in_ok-found.ensures.found honest) in
    let same = c.in_ok-found.ensures.same honest in
    let finished = subst (λ (s : DiskState). IsFinished (standing s) c.in-Some.found) (sym same.state) read.0 in
    opened_from (m c.args.disk.now) (m c.read_folder.new.disk) (m c.open_finished.new.disk) read.1.0 c.open_finished.result same.state read.1.1
    (c.open_finished.ensures.from honest read.1.0 finished read.1.2 (subst (λ (s : DiskState). IsOpenable (standing s) read.1.0) (sym same.state) read.1.1))
    (c.open_finished.ensures.number honest read.1.0 finished read.1.2)

pub returns-in-Some-clause-writes : goal.returns-in-Some-clause-writes
returns-in-Some-clause-writes g c honest =
    let image : Image = standing (state_in (g.D.Disk.meaning c.args.disk.now)) in
    let read : ReadsFolder image (Some c.in-Some.found) = subst (ReadsFolder image) c.in-Some.is (c.in_ok-found.ensures.found honest) in
    let same = c.in_ok-found.ensures.same honest in
    c.open_finished.ensures.writes honest (subst (λ (s : DiskState). IsFinished (standing s) c.in-Some.found) (sym same.state) read.0)

pub returns-in-Some-clause-any_moment : goal.returns-in-Some-clause-any_moment
returns-in-Some-clause-any_moment g c honest folder holds back =
    let m : _ → Meaning = g.D.Disk.meaning in
    let image : Image = standing (state_in (m c.args.disk.now)) in
    let read : ReadsFolder image (Some c.in-Some.found) = subst (ReadsFolder image) c.in-Some.is (c.in_ok-found.ensures.found honest) in
    let same = c.in_ok-found.ensures.same honest in
    let is = finished_is image read.1.0 folder read.1.1 holds.now in
    subst (λ (f : Option Contents). LeavesOnly (m c.args.disk.now) (m c.open_finished.new.disk) (λ image. ImageStandsFor image (store_of_folder f))) (sym is.1)
    (run_on (m c.args.disk.now) (m c.read_folder.new.disk) same (m c.open_finished.new.disk) _
    (c.open_finished.ensures.any_moment honest is.0 (subst (λ (s : DiskState). IsFinished (standing s) c.in-Some.found) (sym same.state) read.0) (shows_alike c.in-Some.found image read.1.0 is.0 read.1.1 is.2.openable read.1.2)
    (holds_on (m c.args.disk.now) (m c.read_folder.new.disk) same (Some is.0) (subst (λ (f : Option Contents). Holds (state_in (m c.args.disk.now)) f) is.1 holds))))

pub returns-in-Some-clause-due : goal.returns-in-Some-clause-due
returns-in-Some-clause-due g c honest =
    let m : _ → Meaning = g.D.Disk.meaning in
    let image : Image = standing (state_in (m c.args.disk.now)) in
    let read : ReadsFolder image (Some c.in-Some.found) = subst (ReadsFolder image) c.in-Some.is (c.in_ok-found.ensures.found honest) in
    let same = c.in_ok-found.ensures.same honest in
    held_up c.args.mode (m c.args.disk.now) (m c.read_folder.new.disk) (m c.open_finished.new.disk) c.open_finished.result (Some read.1.0, read.1.1) same
    (c.open_finished.ensures.due honest read.1.0 (subst (λ (s : DiskState). IsFinished (standing s) c.in-Some.found) (sym same.state) read.0) read.1.2)

pub returns-in-None-clause-opened : goal.returns-in-None-clause-opened
returns-in-None-clause-opened g c honest folder holds =
    let m : _ → Meaning = g.D.Disk.meaning in
    let image : Image = standing (state_in (m c.args.disk.now)) in
    let read : ReadsFolder image None = subst (ReadsFolder image) c.in-None.is (c.in_ok-found.ensures.found honest) in
    let same = c.in_ok-found.ensures.same honest in
    let is = unfinished_is image folder read holds.now in
    subst (λ (f : Option Contents). IfOk c.open_unfinished.result (OpensFolder (m c.open_unfinished.new.disk) f)) (sym is)
    (c.open_unfinished.ensures.opened honest (holds_on (m c.args.disk.now) (m c.read_folder.new.disk) same None (subst (λ (f : Option Contents). Holds (state_in (m c.args.disk.now)) f) is holds)))

pub returns-in-None-clause-found : goal.returns-in-None-clause-found
returns-in-None-clause-found g c honest =
    let m : _ → Meaning = g.D.Disk.meaning in
    let image : Image = standing (state_in (m c.args.disk.now)) in
    let read : ReadsFolder image None = subst (ReadsFolder image) c.in-None.is (c.in_ok-found.ensures.found honest) in
    begun_from (m c.args.disk.now) (m c.open_unfinished.new.disk) c.open_unfinished.result read c.open_unfinished.ensures.keyspaces c.open_unfinished.ensures.trees c.open_unfinished.ensures.number

pub returns-in-None-clause-any_moment : goal.returns-in-None-clause-any_moment
returns-in-None-clause-any_moment g c honest folder holds back =
    let m : _ → Meaning = g.D.Disk.meaning in
    let image : Image = standing (state_in (m c.args.disk.now)) in
    let read : ReadsFolder image None = subst (ReadsFolder image) c.in-None.is (c.in_ok-found.ensures.found honest) in
    let same = c.in_ok-found.ensures.same honest in
    let is = unfinished_is image folder read holds.now in
    let comes : ComesBackUnfinished (state_in (m c.args.disk.now)) = subst (λ (f : Option Contents). ComesBack (state_in (m c.args.disk.now)) f) is back in
    subst (λ (f : Option Contents). LeavesOnly (m c.args.disk.now) (m c.open_unfinished.new.disk) (λ image. ImageStandsFor image (store_of_folder f))) (sym is)
    (run_on (m c.args.disk.now) (m c.read_folder.new.disk) same (m c.open_unfinished.new.disk) _
    (c.open_unfinished.ensures.any_moment honest (holds_on (m c.args.disk.now) (m c.read_folder.new.disk) same None (subst (λ (f : Option Contents). Holds (state_in (m c.args.disk.now)) f) is holds))
    (subst (λ (s : DiskState). ComesBackUnfinished s) (sym same.state) comes)))

pub returns-in-None-clause-due : goal.returns-in-None-clause-due
returns-in-None-clause-due g c honest =
    let m : _ → Meaning = g.D.Disk.meaning in
    let image : Image = standing (state_in (m c.args.disk.now)) in
    let read : ReadsFolder image None = subst (ReadsFolder image) c.in-None.is (c.in_ok-found.ensures.found honest) in
    let same = c.in_ok-found.ensures.same honest in
    held_up c.args.mode (m c.args.disk.now) (m c.read_folder.new.disk) (m c.open_unfinished.new.disk) c.open_unfinished.result (None, read) same
    (c.open_unfinished.ensures.due honest (subst (λ (s : DiskState). ReadsFolder (standing s) None) (sym same.state) read))

pub returns-in-Some-clause-swept : goal.returns-in-Some-clause-swept
returns-in-Some-clause-swept g c honest =
    let m : _ → Meaning = g.D.Disk.meaning in
    let image : Image = standing (state_in (m c.args.disk.now)) in
    let read : ReadsFolder image (Some c.in-Some.found) = subst (ReadsFolder image) c.in-Some.is (c.in_ok-found.ensures.found honest) in
    let same = c.in_ok-found.ensures.same honest in
    swept_on (state_in (m c.args.disk.now)) (state_in (m c.read_folder.new.disk)) (state_in (m c.open_finished.new.disk)) c.open_finished.result same.state
    (c.open_finished.ensures.swept honest (subst (λ (s : DiskState). IsFinished (standing s) c.in-Some.found) (sym same.state) read.0))

pub returns-in-None-clause-swept : goal.returns-in-None-clause-swept
returns-in-None-clause-swept g c honest =
    let m : _ → Meaning = g.D.Disk.meaning in
    swept_on (state_in (m c.args.disk.now)) (state_in (m c.read_folder.new.disk)) (state_in (m c.open_unfinished.new.disk)) c.open_unfinished.result (c.in_ok-found.ensures.same honest).state (c.open_unfinished.ensures.swept honest)

pub returns-in_err-found-clause-kinds : goal.returns-in_err-found-clause-kinds
returns-in_err-found-clause-kinds g c honest = tidy_none _ _ (c.in_err-found.ensures.same honest)

pub returns-in_err-found-clause-served : goal.returns-in_err-found-clause-served
returns-in_err-found-clause-served g c honest tidy = c.in_err-found.ensures.served honest

pub returns-in-Some-clause-kinds : goal.returns-in-Some-clause-kinds
returns-in-Some-clause-kinds g c honest =
    let m : _ → Meaning = g.D.Disk.meaning in
    let image : Image = standing (state_in (m c.args.disk.now)) in
    let read : ReadsFolder image (Some c.in-Some.found) = subst (ReadsFolder image) c.in-Some.is (c.in_ok-found.ensures.found honest) in
    let same = c.in_ok-found.ensures.same honest in
    stays_both (m c.args.disk.now) (m c.read_folder.new.disk) (m c.open_finished.new.disk) (tidy_none _ _ same)
    (c.open_finished.ensures.kinds honest (subst (λ (s : DiskState). IsFinished (standing s) c.in-Some.found) (sym same.state) read.0))

pub returns-in-Some-clause-served : goal.returns-in-Some-clause-served
returns-in-Some-clause-served g c honest tidy =
    let m : _ → Meaning = g.D.Disk.meaning in
    let image : Image = standing (state_in (m c.args.disk.now)) in
    let read : ReadsFolder image (Some c.in-Some.found) = subst (ReadsFolder image) c.in-Some.is (c.in_ok-found.ensures.found honest) in
    let same = c.in_ok-found.ensures.same honest in
    c.open_finished.ensures.served honest (subst IsTidy (sym same.state) tidy) read.1.0 (subst (λ (s : DiskState). IsFinished (standing s) c.in-Some.found) (sym same.state) read.0) read.1.2
    (subst (λ (s : DiskState). IsOpenable (standing s) read.1.0) (sym same.state) read.1.1)
    ∙ c.in_ok-found.ensures.served honest

pub returns-in-None-clause-kinds : goal.returns-in-None-clause-kinds
returns-in-None-clause-kinds g c honest =
    let m : _ → Meaning = g.D.Disk.meaning in
    stays_both (m c.args.disk.now) (m c.read_folder.new.disk) (m c.open_unfinished.new.disk) (tidy_none _ _ (c.in_ok-found.ensures.same honest)) (c.open_unfinished.ensures.kinds honest)

pub returns-in-None-clause-served : goal.returns-in-None-clause-served
returns-in-None-clause-served g c honest tidy =
    c.open_unfinished.ensures.served honest (subst IsTidy (sym (c.in_ok-found.ensures.same honest).state) tidy) ∙ c.in_ok-found.ensures.served honest

pub returns-in_err-found-clause-amid : goal.returns-in_err-found-clause-amid
returns-in_err-found-clause-amid g c honest base pending holds =
    let m : _ → Meaning = g.D.Disk.meaning in
    stays (m c.args.disk.now) (m c.args.disk.now) (m c.read_folder.new.disk) _ (amid_now (m c.args.disk.now) base pending holds) (c.in_err-found.ensures.same honest)

pub returns-in-Some-clause-amid : goal.returns-in-Some-clause-amid
returns-in-Some-clause-amid g c honest base pending holds =
    let m : _ → Meaning = g.D.Disk.meaning in
    let image : Image = standing (state_in (m c.args.disk.now)) in
    let read : ReadsFolder image (Some c.in-Some.found) = subst (ReadsFolder image) c.in-Some.is (c.in_ok-found.ensures.found honest) in
    let same = c.in_ok-found.ensures.same honest in
    run_on (m c.args.disk.now) (m c.read_folder.new.disk) same (m c.open_finished.new.disk) _
    (c.open_finished.ensures.amid honest read.1.0 (subst (λ (s : DiskState). IsFinished (standing s) c.in-Some.found) (sym same.state) read.0) read.1.2
    (subst (λ (s : DiskState). IsOpenable (standing s) read.1.0) (sym same.state) read.1.1) base pending (amid_on (m c.args.disk.now) (m c.read_folder.new.disk) same base pending holds))

pub returns-in-Some-clause-opens : goal.returns-in-Some-clause-opens
returns-in-Some-clause-opens g c honest folder stands base pending holds =
    let m : _ → Meaning = g.D.Disk.meaning in
    let image : Image = standing (state_in (m c.args.disk.now)) in
    let read : ReadsFolder image (Some c.in-Some.found) = subst (ReadsFolder image) c.in-Some.is (c.in_ok-found.ensures.found honest) in
    let same = c.in_ok-found.ensures.same honest in
    let is = finished_is image read.1.0 folder read.1.1 stands in
    subst (λ (f : Option Contents). IfOk c.open_finished.result (OpensFolder (m c.open_finished.new.disk) f)) (sym is.1)
    (c.open_finished.ensures.opens honest is.0 (subst (λ (s : DiskState). IsFinished (standing s) c.in-Some.found) (sym same.state) read.0) (shows_alike c.in-Some.found image read.1.0 is.0 read.1.1 is.2.openable read.1.2)
    (subst (λ (s : DiskState). IsSound (standing s) is.0) (sym same.state) is.2) base pending (amid_on (m c.args.disk.now) (m c.read_folder.new.disk) same base pending holds))

pub returns-in-None-clause-amid : goal.returns-in-None-clause-amid
returns-in-None-clause-amid g c honest base pending holds =
    let m : _ → Meaning = g.D.Disk.meaning in
    let image : Image = standing (state_in (m c.args.disk.now)) in
    let read : ReadsFolder image None = subst (ReadsFolder image) c.in-None.is (c.in_ok-found.ensures.found honest) in
    let same = c.in_ok-found.ensures.same honest in
    run_on (m c.args.disk.now) (m c.read_folder.new.disk) same (m c.open_unfinished.new.disk) _
    (c.open_unfinished.ensures.amid honest (subst (λ (s : DiskState). ReadsFolder (standing s) None) (sym same.state) read) base pending (amid_on (m c.args.disk.now) (m c.read_folder.new.disk) same base pending holds))

pub returns-in-None-clause-opens : goal.returns-in-None-clause-opens
returns-in-None-clause-opens g c honest folder stands base pending holds =
    let m : _ → Meaning = g.D.Disk.meaning in
    let image : Image = standing (state_in (m c.args.disk.now)) in
    let read : ReadsFolder image None = subst (ReadsFolder image) c.in-None.is (c.in_ok-found.ensures.found honest) in
    let same = c.in_ok-found.ensures.same honest in
    let is = unfinished_is image folder read stands in
    subst (λ (f : Option Contents). IfOk c.open_unfinished.result (OpensFolder (m c.open_unfinished.new.disk) f)) (sym is)
    (c.open_unfinished.ensures.opens honest (subst (λ (s : DiskState). ReadsFolder (standing s) None) (sym same.state) read))

pub returns-in_err-found-clause-held : goal.returns-in_err-found-clause-held
returns-in_err-found-clause-held g c honest base pending holds = amid_on _ _ (c.in_err-found.ensures.same honest) base pending holds

pub returns-in-Some-clause-held : goal.returns-in-Some-clause-held
returns-in-Some-clause-held g c honest base pending holds =
    let m : _ → Meaning = g.D.Disk.meaning in
    let image : Image = standing (state_in (m c.args.disk.now)) in
    let read : ReadsFolder image (Some c.in-Some.found) = subst (ReadsFolder image) c.in-Some.is (c.in_ok-found.ensures.found honest) in
    let same = c.in_ok-found.ensures.same honest in
    c.open_finished.ensures.held honest read.1.0 (subst (λ (s : DiskState). IsFinished (standing s) c.in-Some.found) (sym same.state) read.0) read.1.2
    (subst (λ (s : DiskState). IsOpenable (standing s) read.1.0) (sym same.state) read.1.1) base pending (amid_on (m c.args.disk.now) (m c.read_folder.new.disk) same base pending holds)

pub returns-in-None-clause-held : goal.returns-in-None-clause-held
returns-in-None-clause-held g c honest base pending holds =
    let m : _ → Meaning = g.D.Disk.meaning in
    let image : Image = standing (state_in (m c.args.disk.now)) in
    let read : ReadsFolder image None = subst (ReadsFolder image) c.in-None.is (c.in_ok-found.ensures.found honest) in
    let same = c.in_ok-found.ensures.same honest in
    c.open_unfinished.ensures.held honest (subst (λ (s : DiskState). ReadsFolder (standing s) None) (sym same.state) read) base pending (amid_on (m c.args.disk.now) (m c.read_folder.new.disk) same base pending holds)

pub returns-in_err-found-clause-refuses : goal.returns-in_err-found-clause-refuses
returns-in_err-found-clause-refuses g c honest error refused =
    let image : Image = standing (state_in (g.D.Disk.meaning c.args.disk.now)) in
    let p = err_from_is_err_and c.from_residual.result c.from_residual.ensures.1 in
    rw (p.1, p.2) (due_once_in c.args.mode image error c.in_err-found.field-0.0 refused (c.in_err-found.ensures.cause honest))

pub returns-in-Some-clause-refuses : goal.returns-in-Some-clause-refuses
returns-in-Some-clause-refuses g c honest error refused =
    let image : Image = standing (state_in (g.D.Disk.meaning c.args.disk.now)) in
    let read : ReadsFolder image (Some c.in-Some.found) = subst (ReadsFolder image) c.in-Some.is (c.in_ok-found.ensures.found honest) in
    absurd (opens_untorn c.args.mode image (Some read.1.0) error read.1.1 (c.in_ok-found.ensures.untorn honest) refused)

pub returns-in-None-clause-refuses : goal.returns-in-None-clause-refuses
returns-in-None-clause-refuses g c honest error refused =
    let image : Image = standing (state_in (g.D.Disk.meaning c.args.disk.now)) in
    let read : ReadsFolder image None = subst (ReadsFolder image) c.in-None.is (c.in_ok-found.ensures.found honest) in
    absurd (opens_untorn c.args.mode image None error read (c.in_ok-found.ensures.untorn honest) refused)

pub returns-in-Some-clause-fresh : goal.returns-in-Some-clause-fresh
returns-in-Some-clause-fresh g c honest none =
    let m : _ → Meaning = g.D.Disk.meaning in
    let image : Image = standing (state_in (m c.args.disk.now)) in
    let read : ReadsFolder image (Some c.in-Some.found) = subst (ReadsFolder image) c.in-Some.is (c.in_ok-found.ensures.found honest) in
    let same = sym (c.in_ok-found.ensures.same honest).state in
    c.open_finished.ensures.fresh honest (subst (λ (s : DiskState). IsFinished (standing s) c.in-Some.found) same read.0) (subst (λ (s : DiskState). HasNoJournal (standing s)) same none)

pub returns-in-None-clause-fresh : goal.returns-in-None-clause-fresh
returns-in-None-clause-fresh g c honest none =
    c.open_unfinished.ensures.fresh honest (subst (λ (s : DiskState). HasNoJournal (standing s)) (sym (c.in_ok-found.ensures.same honest).state) none)

pub returns-in_err-found-clause-opens_or_torn : goal.returns-in_err-found-clause-opens_or_torn
returns-in_err-found-clause-opens_or_torn g c honest folder opens =
    let p = err_from_is_err_and c.from_residual.result c.from_residual.ensures.1 in
    rw (p.1, p.2) (c.in_err-found.ensures.openable honest folder opens)

pub returns-in-Some-clause-opens_or_torn : goal.returns-in-Some-clause-opens_or_torn
returns-in-Some-clause-opens_or_torn g c honest folder opens =
    let m : _ → Meaning = g.D.Disk.meaning in
    let image : Image = standing (state_in (m c.args.disk.now)) in
    let read : ReadsFolder image (Some c.in-Some.found) = subst (ReadsFolder image) c.in-Some.is (c.in_ok-found.ensures.found honest) in
    let same = c.in_ok-found.ensures.same honest in
    held_is_due (IsTornTail c.args.mode (HasTornTail image)) (m c.read_folder.new.disk) (m c.open_finished.new.disk) c.open_finished.result
    (c.open_finished.ensures.due honest read.1.0 (subst (λ (s : DiskState). IsFinished (standing s) c.in-Some.found) (sym same.state) read.0) read.1.2)

pub returns-in-None-clause-opens_or_torn : goal.returns-in-None-clause-opens_or_torn
returns-in-None-clause-opens_or_torn g c honest folder opens =
    let m : _ → Meaning = g.D.Disk.meaning in
    let image : Image = standing (state_in (m c.args.disk.now)) in
    let read : ReadsFolder image None = subst (ReadsFolder image) c.in-None.is (c.in_ok-found.ensures.found honest) in
    let same = c.in_ok-found.ensures.same honest in
    held_is_due (IsTornTail c.args.mode (HasTornTail image)) (m c.read_folder.new.disk) (m c.open_unfinished.new.disk) c.open_unfinished.result
    (c.open_unfinished.ensures.due honest (subst (λ (s : DiskState). ReadsFolder (standing s) None) (sym same.state) read))
