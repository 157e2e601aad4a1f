use Rattle.std.proofs.Common.{◌+◌, ◌++◌, ℕ, [], ◌∷◌, ◌∙◌, ap, subst}
use Rattle.fjall_base.specs.Disk.{LeavesOnly, state_in}
use Rattle.fjall_journal.specs.Changes.{change_text, of_change}
use Rattle.fjall_journal.specs.Writer.{BatchTook}
use Rattle.fjall_trees.specs.Views.{forest_of}
use Rattle.fjall_changes.specs.Given.{meant}
use Rattle.fjall_changes.specs.Journaling.{ForFollowing, LeavesRoot}
use Rattle.fjall_history.specs.Tickets.{Tracked}
use Rattle.fjall_machine.specs.Machine.{changed}
use Rattle.fjall_machine.specs.Remembered.{IsLawful, Remembered, with_change}
use Rattle.fjall_machine.proofs.Lawful.{alike, change_is_lawful}
use Rattle.fjall_machine.proofs.Writing.{untouched_leaves}
use Rattle.fjall_state.proofs.engine_state.EngineState.change.Goals as goal

pub invariant_of-self-2 : goal.invariant_of-self-2
invariant_of-self-2 g c =
    let old = c.args.self.now in
    let change = meant c.args.change in
    let is = subst IsLawful c.self.view_is c.self.invariant in
    alike (with_change change old) _ (change_is_lawful change old is c.requires.numbered c.requires.fits) (ap (λ (m : Remembered). m.keyspaces) c.self.view_is)
    (c.in_ok-marks.ensures.ok ∙ ap (λ n. changed n change (forest_of c.self.inside.trees)) c.seqno-seqno.ensures.visible ∙ ap (λ (m : Remembered). changed m.next change m.trees) c.self.view_is)
    (ap (λ (t : Tracked). t.visible) c.publish.ensures ∙ ap (λ (m : Remembered). m.next + 1) c.self.view_is) (ap (λ (t : Tracked). t.tickets) c.publish.ensures ∙ ap (λ (m : Remembered). m.tickets) c.self.view_is)
    (ap (λ (m : Remembered). m.records) c.self.view_is) (ap (λ (m : Remembered). m.next_job) c.self.view_is)

pub returns-in_err-make_places-clause-any_moment : goal.returns-in_err-make_places-clause-any_moment
returns-in_err-make_places-clause-any_moment g c = λ h j writing can. untouched_leaves (g.D.Disk.meaning c.args.disk.now) j (of_change (meant c.args.change) c.args.self.now.next ∷ []) writing.root

pub returns-in_err-marks-clause-any_moment : goal.returns-in_err-marks-clause-any_moment
returns-in_err-marks-clause-any_moment g c = λ h j writing can. untouched_leaves (g.D.Disk.meaning c.args.disk.now) j (of_change (meant c.args.change) c.args.self.now.next ∷ []) writing.root

pub returns-in-Err-clause-part : goal.returns-in-Err-clause-part
returns-in-Err-clause-part g c = λ h.
    let number = c.seqno-seqno.ensures.visible ∙ ap (λ (m : Remembered). m.next) c.self.view_is in
    subst (λ (n : ℕ). BatchTook c.args.mode (g.D.Disk.meaning c.args.disk.now) (g.D.Disk.meaning c.append_change.new.disk) c.args.journal.now (change_text (meant c.args.change) n)) number (c.in-Err.ensures.part h)

pub returns-in-Err-clause-any_moment : goal.returns-in-Err-clause-any_moment
returns-in-Err-clause-any_moment g c = λ h.
    let old = g.D.Disk.meaning c.args.disk.now in
    let new = g.D.Disk.meaning c.append_change.new.disk in
    let number = c.seqno-seqno.ensures.visible ∙ ap (λ (m : Remembered). m.next) c.self.view_is in
    subst (λ (n : ℕ). ForFollowing old c.args.journal.now n (λ j. LeavesOnly old new (LeavesRoot (state_in old) j (j.later ++ of_change (meant c.args.change) n ∷ [])))) number (c.in-Err.ensures.any_moment h)

pub returns-clause-any_moment : goal.returns-clause-any_moment
returns-clause-any_moment g c = λ h.
    let old = g.D.Disk.meaning c.args.disk.now in
    let new = g.D.Disk.meaning c.append_change.new.disk in
    let number = c.seqno-seqno.ensures.visible ∙ ap (λ (m : Remembered). m.next) c.self.view_is in
    subst (λ (n : ℕ). ForFollowing old c.args.journal.now n (λ j. LeavesOnly old new (LeavesRoot (state_in old) j (j.later ++ of_change (meant c.args.change) n ∷ [])))) number (c.in_default.ensures.any_moment h)
