use Rattle.std.proofs.Common.{ℕ, List, sym, subst, ◌∙◌}
use Rattle.fjall_base.specs.Store.{fold, kept}
use Rattle.fjall_base.specs.Disk.{Image, Meaning, standing, state_in}
use Rattle.fjall_base.specs.declared.error.Error.TheVariants.{JournalRecovery}
use Rattle.fjall_base.specs.declared.error.JournalRecoveryError.TheVariants.{TornTail}
use Rattle.fjall_table.specs.Blocks.{Entry}
use Rattle.fjall_recovery.proofs.Strict.{named_torn, refuses_torn}
use Rattle.fjall_repair.specs.Sweeps.{IsSwept}
use Rattle.fjall_machine.specs.Remembered.{AreBeside, Remembered}
use Rattle.fjall_engine.specs.Openings.{StandsWhenOpened, OpensAs, OpensFolder, OpensAfterCrash}
use Rattle.fjall_engine.specs.Standing.{store_with_tables}
use Rattle.fjall_engine.proofs.DeviceFaults.{risen_blames}
use Rattle.fjall_engine.proofs.Opening.{held_of, keeps, opens_as, opens_beside, opens_on}
use Rattle.fjall_engine.proofs.Reopening.{opens_amid}
use Rattle.fjall_engine.proofs.WildCrashes.{left_wildly, refused_by_name}
use Rattle.fjall_engine.proofs.engine.Engine.open.Goals as goal

pub returns-in-Ok-clause-opened : goal.returns-in-Ok-clause-opened
returns-in-Ok-clause-opened g c honest =
    let m : _ → Meaning = g.D.Disk.meaning in
    let old = m c.args.disk in
    let new = m c.open_folder.new.disk in
    let o = c.in-Ok.opened in
    subst (λ (memory : Remembered). OpensFolder old (held_of new o memory)) (sym (c.set_kept_bound.ensures ∙ c.new-memory.ensures)) (opens_on old new o c.in-Ok.ensures.lawful (c.in-Ok.ensures.writes honest) (c.in-Ok.ensures.found honest))

pub returns-in-Ok-clause-safe : goal.returns-in-Ok-clause-safe
returns-in-Ok-clause-safe g c honest store (folder, holds, back, same) =
    let m : _ → Meaning = g.D.Disk.meaning in
    let o = c.in-Ok.opened in
    let is = c.in-Ok.ensures.opened honest folder holds in
    subst (λ (memory : Remembered). OpensAs (held_of (m c.open_folder.new.disk) o memory) store) (sym (c.set_kept_bound.ensures ∙ c.new-memory.ensures)) (opens_as (m c.open_folder.new.disk) folder o is store c.in-Ok.ensures.lawful same)

pub returns-in-Ok-clause-any_moment : goal.returns-in-Ok-clause-any_moment
returns-in-Ok-clause-any_moment g c honest = let m : _ → Meaning = g.D.Disk.meaning in keeps (m c.args.disk) (m c.open_folder.new.disk) (c.open_folder.ensures.any_moment honest)

pub returns-in-Ok-clause-stands : goal.returns-in-Ok-clause-stands
returns-in-Ok-clause-stands g c =
    let m : _ → Meaning = g.D.Disk.meaning in
    let new = m c.open_folder.new.disk in
    let o = c.in-Ok.opened in
    subst (λ (memory : Remembered). (entries : ℕ → List (List Entry)) → AreBeside memory entries → (damaged : List ℕ)
    → StandsWhenOpened (held_of new o memory) (store_with_tables entries (held_of new o memory)) entries damaged memory.next) (sym (c.set_kept_bound.ensures ∙ c.new-memory.ensures)) (opens_beside new o c.in-Ok.ensures.lawful)

pub returns-in-Err-clause-any_moment_err : goal.returns-in-Err-clause-any_moment_err
returns-in-Err-clause-any_moment_err g c honest = let m : _ → Meaning = g.D.Disk.meaning in keeps (m c.args.disk) (m c.open_folder.new.disk) (c.open_folder.ensures.any_moment honest)

pub returns-in-Ok-clause-swept : goal.returns-in-Ok-clause-swept
returns-in-Ok-clause-swept g c honest =
    let m : _ → Meaning = g.D.Disk.meaning in
    subst (λ (memory : Remembered). IsSwept (state_in (m c.args.disk)) (state_in (m c.open_folder.new.disk)) c.in-Ok.opened.catalog memory.keyspaces.living) (sym (c.set_kept_bound.ensures ∙ c.new-memory.ensures)) (c.in-Ok.ensures.swept honest)

pub returns-in-Ok-clause-amid : goal.returns-in-Ok-clause-amid
returns-in-Ok-clause-amid g c honest base pending holds =
    let m : _ → Meaning = g.D.Disk.meaning in
    let old = m c.args.disk in
    let new = m c.open_folder.new.disk in
    let o = c.in-Ok.opened in
    subst (λ (memory : Remembered). OpensAfterCrash old (held_of new o memory) base pending) (sym (c.set_kept_bound.ensures ∙ c.new-memory.ensures))
    (opens_amid old new o base pending holds (c.open_folder.ensures.kinds honest) (c.in-Ok.ensures.swept honest) (λ folder is. c.in-Ok.ensures.opens honest folder is base pending holds)
    (c.open_folder.ensures.amid honest base pending holds) c.in-Ok.ensures.lawful)

pub returns-in-Err-clause-amid_err : goal.returns-in-Err-clause-amid_err
returns-in-Err-clause-amid_err g c honest base pending holds =
    let m : _ → Meaning = g.D.Disk.meaning in
    let old = m c.args.disk in
    let new = m c.open_folder.new.disk in
    record {
      holds = c.open_folder.ensures.held honest base pending holds;
      any_moment = c.open_folder.ensures.amid honest base pending holds;
      kinds = c.open_folder.ensures.kinds honest;
    }

-- ---- what it put at names, and which calls the disk could serve

pub returns-in-Ok-clause-kinds : goal.returns-in-Ok-clause-kinds
returns-in-Ok-clause-kinds g c honest = c.open_folder.ensures.kinds honest

pub returns-in-Ok-clause-served : goal.returns-in-Ok-clause-served
returns-in-Ok-clause-served g c honest tidy = c.open_folder.ensures.served honest tidy

pub returns-in-Err-clause-kinds_err : goal.returns-in-Err-clause-kinds_err
returns-in-Err-clause-kinds_err g c honest = c.open_folder.ensures.kinds honest

pub returns-in-Err-clause-device : goal.returns-in-Err-clause-device
returns-in-Err-clause-device g c honest tidy = let m : _ → Meaning = g.D.Disk.meaning in risen_blames c.in-Err.error (m c.args.disk) (m c.open_folder.new.disk) c.in-Err.ensures.risen (c.open_folder.ensures.served honest tidy)

-- ---- the mode that refuses a torn tail

pub returns-in-Ok-clause-torn : goal.returns-in-Ok-clause-torn
returns-in-Ok-clause-torn g c honest strict torn =
    let image : Image = standing (state_in (g.D.Disk.meaning c.args.disk)) in
    c.in-Ok.ensures.refuses honest (JournalRecovery TornTail) (refuses_torn c.args.config.journal_recovery_mode image strict torn)

pub returns-in-Err-clause-torn : goal.returns-in-Err-clause-torn
returns-in-Err-clause-torn g c honest strict torn =
    let image : Image = standing (state_in (g.D.Disk.meaning c.args.disk)) in
    named_torn c.in-Err.error (c.in-Err.ensures.refuses honest (JournalRecovery TornTail) (refuses_torn c.args.config.journal_recovery_mode image strict torn))

-- ---- wild crashes

pub returns-in-Ok-clause-any_bytes : goal.returns-in-Ok-clause-any_bytes
returns-in-Ok-clause-any_bytes g c honest base least all left =
    let found = returns-in-Ok-clause-opened g c honest in
    let is = left_wildly (state_in (g.D.Disk.meaning c.args.disk)) base least all left found.folder found.is in
    record { front = is.0; holds = is.1; within = is.2; opens = returns-in-Ok-clause-safe g c honest (kept (fold base is.0)) is.3 }

pub returns-in-Err-clause-by_name : goal.returns-in-Err-clause-by_name
returns-in-Err-clause-by_name g c honest =
    let m : _ → Meaning = g.D.Disk.meaning in
    refused_by_name c.args.config.journal_recovery_mode (m c.args.disk) (m c.open_folder.new.disk) c.in-Err.error (c.in-Err.ensures.due honest)
    (λ folder opens. c.in-Err.ensures.opens_or_torn honest folder opens)
