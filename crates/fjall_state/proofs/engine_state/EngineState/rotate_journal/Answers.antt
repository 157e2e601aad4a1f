use Rattle.std.proofs.Common.{◌≡◌, ◌∙◌, ◌+◌, ℕ, ap, subst, sym}
use Rattle.fjall_base.specs.Disk.{IsNoFolder, state_in}
use Rattle.fjall_files.specs.Names.{journal_name}
use Rattle.fjall_journal.specs.Rotations.{RotationTook}
use Rattle.fjall_changes.specs.Rotations.{ForRotating}
use Rattle.fjall_machine.specs.Remembered.{Remembered}
use Rattle.fjall_machine.proofs.Writing.{untouched_rotation}
use Rattle.fjall_state.proofs.engine_state.EngineState.rotate_journal.Goals as goal

pub returns-in_err-watermarks-clause-any_moment : goal.returns-in_err-watermarks-clause-any_moment
returns-in_err-watermarks-clause-any_moment g c = λ h j writing is. untouched_rotation (g.D.Disk.meaning c.args.disk.now) j writing.root

pub returns-in-Err-clause-served : goal.returns-in-Err-clause-served
returns-in-Err-clause-served g c = λ h.
    let old = g.D.Disk.meaning c.args.disk.now in
    let new = g.D.Disk.meaning c.rotate_journal-turned.new.disk in
    subst (λ (n : ℕ). ForRotating old c.args.journal.now n (λ j. IsNoFolder (state_in old (journal_name (n + 1))).now → new.misuses ≡ old.misuses)) (ap (λ (m : Remembered). m.journals.active) c.self.view_is)
    (c.in-Err.ensures.served h)

pub returns-in-Err-clause-part : goal.returns-in-Err-clause-part
returns-in-Err-clause-part g c = λ h.
    let old = g.D.Disk.meaning c.args.disk.now in
    let new = g.D.Disk.meaning c.rotate_journal-turned.new.disk in
    subst (λ (n : ℕ). RotationTook old new c.args.journal.now c.rotate_journal-turned.new.journal (journal_name (n + 1))) (ap (λ (m : Remembered). m.journals.active) c.self.view_is) (c.in-Err.ensures.part h)

pub returns-in-Err-clause-any_moment : goal.returns-in-Err-clause-any_moment
returns-in-Err-clause-any_moment g c = λ h j writing is. c.in-Err.ensures.any_moment h j writing (is ∙ sym (ap (λ (m : Remembered). m.journals.active) c.self.view_is))

pub returns-in-Err-clause-elsewhere : goal.returns-in-Err-clause-elsewhere
returns-in-Err-clause-elsewhere g c = λ h j writing is. c.in-Err.ensures.elsewhere h j writing (is ∙ sym (ap (λ (m : Remembered). m.journals.active) c.self.view_is))

pub returns-clause-served : goal.returns-clause-served
returns-clause-served g c = λ h.
    let old = g.D.Disk.meaning c.args.disk.now in
    let new = g.D.Disk.meaning c.rotate_journal-turned.new.disk in
    subst (λ (n : ℕ). ForRotating old c.args.journal.now n (λ j. IsNoFolder (state_in old (journal_name (n + 1))).now → new.misuses ≡ old.misuses)) (ap (λ (m : Remembered). m.journals.active) c.self.view_is)
    (c.in_default.ensures.served h)

pub returns-clause-any_moment : goal.returns-clause-any_moment
returns-clause-any_moment g c = λ h j writing is. c.in_default.ensures.any_moment h j writing (is ∙ sym (ap (λ (m : Remembered). m.journals.active) c.self.view_is))

pub returns-clause-lies : goal.returns-clause-lies
returns-clause-lies g c = λ h j writing is. c.in_default.ensures.lies h j writing (is ∙ sym (ap (λ (m : Remembered). m.journals.active) c.self.view_is))

pub returns-clause-elsewhere : goal.returns-clause-elsewhere
returns-clause-elsewhere g c = λ h j writing is. c.in_default.ensures.elsewhere h j writing (is ∙ sym (ap (λ (m : Remembered). m.journals.active) c.self.view_is))
