use Rattle.std.proofs.Common.{◌≡◌, Some, map, refl, sym, subst, ap, All, ◌∙◌}
use Rattle.fjall_journal.specs.Writer.{Journal}
use Rattle.std.specs.Prelude.{string_bytes}
use Rattle.std.proofs.lemmas.Result.{err_from_is_err_and}
use Rattle.fjall_base.specs.Disk.{DiskState, Image, Meaning, standing, state_in}
use Rattle.fjall_base.proofs.Moments.{stays}
use Rattle.fjall_meta.specs.Keyspaces.{AreKeyspaces, Keyspaces}
use Rattle.fjall_manifest.specs.declared.catalog.Catalog.{Catalog}
use Rattle.fjall_recovery.specs.Folders.{IsFinished, IsOpenable, IsSound}
use Rattle.fjall_repair.specs.Mended.{IsMendingOf}
use Rattle.fjall_repair.specs.Sweeps.{BringsNoTable, FindsTables, IsSwept, HasAll}
use Rattle.fjall_opening.proofs.Agreeing.{home_named, tree_named}
use Rattle.fjall_repair.proofs.Planned.{is_swept, lives_small}
use Rattle.fjall_opening.proofs.Openings.{held_early, holds_on, number_is, numbers, opens_of, run_on, stands_now}
use Rattle.fjall_opening.proofs.OpenedTrees.{kept_on, makes_sound, reads_from, takes_contents}
use Rattle.fjall_files.specs.Tidy.{IsTidy}
use Rattle.fjall_files.proofs.Tidying.{stays_both, stays_none as tidy_none}
use Rattle.fjall_opening.proofs.Amid.{amid_now, amid_on}
use Rattle.fjall_opening.specs.Readings.{names_read}
use Rattle.fjall_repair.specs.Steps.{active_of, opened}
use Rattle.fjall_repair.proofs.MendOpened.{active_small}
use Rattle.fjall_opening.proofs.Counting.{active_contents, none_read, tell_as, told_contents}
use Rattle.fjall_opening.proofs.opening.open_finished.Goals as goal

pub returns-in_err-opened-clause-any_moment : goal.returns-in_err-opened-clause-any_moment
returns-in_err-opened-clause-any_moment g c honest contents read shows holds =
    let m : _ → Meaning = g.D.Disk.meaning in
    stays (m c.args.disk.now) (m c.args.disk.now) (m c.ready_to_mend.new.disk) _ (stands_now (m c.args.disk.now) (Some contents) holds) (c.in_err-opened.ensures.same honest)

pub returns-in_err-opened-clause-due : goal.returns-in_err-opened-clause-due
returns-in_err-opened-clause-due g c honest contents read shows =
    let m : _ → Meaning = g.D.Disk.meaning in
    let p = err_from_is_err_and c.from_residual.result c.from_residual.ensures.1 in
    rw (p.1, p.2) (held_early (m c.args.disk.now) (m c.ready_to_mend.new.disk) c.in_err-opened.field-0.0 (c.in_err-opened.ensures.due honest read) (c.in_err-opened.ensures.same honest))

pub returns-in_err-mend_and_sweep-clause-any_moment : goal.returns-in_err-mend_and_sweep-clause-any_moment
returns-in_err-mend_and_sweep-clause-any_moment g c honest contents read shows holds =
    let m : _ → Meaning = g.D.Disk.meaning in
    let found = c.args.found in
    let ready = c.in_ok-opened.field-0 in
    let same = c.in_ok-opened.ensures.same honest in
    run_on (m c.args.disk.now) (m c.ready_to_mend.new.disk) same (m c.mend_and_sweep.new.disk) _
    (c.in_err-mend_and_sweep.ensures.any_moment honest found contents (subst (λ (s : DiskState). IsFinished (standing s) found) (sym same.state) read) shows
    (holds_on (m c.args.disk.now) (m c.ready_to_mend.new.disk) same (Some contents) holds)
    (subst (λ (s : DiskState). IsMendingOf (standing s) found ready.mending) (sym same.state) (c.in_ok-opened.ensures.mending _ read)) (c.in_ok-opened.ensures.sweep honest _ read))

pub returns-clause-opened : goal.returns-clause-opened
returns-clause-opened g c honest contents read shows holds =
    let m : _ → Meaning = g.D.Disk.meaning in
    let found = c.args.found in
    let ready = c.in_ok-opened.field-0 in
    let image : Image = standing (state_in (m c.args.disk.now)) in
    let same = c.in_ok-opened.ensures.same honest in
    let repaired = c.in_ok-mend_and_sweep.ensures.ok honest found contents (subst (λ (s : DiskState). IsFinished (standing s) found) (sym same.state) read) shows
    (holds_on (m c.args.disk.now) (m c.ready_to_mend.new.disk) same (Some contents) holds)
    (subst (λ (s : DiskState). IsMendingOf (standing s) found ready.mending) (sym same.state) (c.in_ok-opened.ensures.mending _ read)) (c.in_ok-opened.ensures.sweep honest _ read)
    (subst (λ (s : DiskState). FindsTables s (names_read found) (map string_bytes ready.sweep.tables.items)) (sym same.state) (c.in_ok-opened.ensures.finds honest _ read).tables) in
    let takes = c.in_ok-opened.ensures.opened honest read in
    let kept = kept_on (m c.args.disk.now) (m c.ready_to_mend.new.disk) (m c.mend_and_sweep.new.disk) contents.homes same.state
    (c.in_ok-mend_and_sweep.ensures.spared honest found contents (subst (λ (s : DiskState). IsFinished (standing s) found) (sym same.state) read) shows
    (subst (λ (s : DiskState). IsOpenable (standing s) contents) (sym same.state) holds.now.openable)
    (subst (λ (s : DiskState). IsMendingOf (standing s) found ready.mending) (sym same.state) (c.in_ok-opened.ensures.mending _ read)) (c.in_ok-opened.ensures.sweep honest _ read)) in
    let made = makes_sound (m c.args.disk.now) (m c.mend_and_sweep.new.disk) found contents (string_bytes ready.mending.active) ready.opened read shows holds.now.openable takes kept holds.now.versions in
    let told = told_contents image found contents read shows holds.now.openable in
    opens_of (m c.mend_and_sweep.new.disk) contents (opened contents.journals) (string_bytes ready.mending.active) found.journals.end repaired (Some contents) takes.loaded ready.opened
    (takes_contents found contents ready.opened (string_bytes ready.mending.active) takes.loaded shows takes.takes) (tell_as (opened contents.journals) found ready.opened takes.journals told)
    (takes.journals.active_is ∙ active_contents found contents shows) made refl
    (number_is image found read contents ready.opened.number shows (c.in_ok-opened.ensures.number (numbers image found read))) refl

pub returns-clause-swept : goal.returns-clause-swept
returns-clause-swept g c honest read =
    let m : _ → Meaning = g.D.Disk.meaning in
    let found = c.args.found in
    let ready = c.in_ok-opened.field-0 in
    let old : DiskState = state_in (m c.args.disk.now) in
    let new : DiskState = state_in (m c.mend_and_sweep.new.disk) in
    let mid : DiskState = state_in (m c.ready_to_mend.new.disk) in
    let same : mid ≡ old = (c.in_ok-opened.ensures.same honest).state in
    let mending = subst (λ (s : DiskState). IsMendingOf (standing s) found ready.mending) (sym same) (c.in_ok-opened.ensures.mending _ read) in
    let brings = subst (λ (s : DiskState). BringsNoTable s new) same (c.in_ok-mend_and_sweep.ensures.tables honest found mending) in
    let takes = (c.in_ok-opened.ensures.opened honest read).takes in
    let keyspaces = takes.keyspaces in
    let are = subst AreKeyspaces keyspaces c.in_ok-opened.ensures.lawful.keyspaces in
    subst (λ (s : Keyspaces). IsSwept old new ready.opened.catalog s.living) (sym keyspaces)
    (subst (λ (last : Catalog). IsSwept old new last found.catalog.keyspaces.living) (sym takes.last_is)
    (is_swept old new found.catalog.catalog found.catalog.keyspaces.living (names_read found) found.folder_ids.items ready.sweep (c.in_ok-opened.ensures.finds honest _ read) read.folder_ids (c.in_ok-mend_and_sweep.ensures.gone honest)
    (lives_small found.catalog.keyspaces are) brings
    (tree_named (standing old) found read) (home_named (standing old) found read)))

pub returns-clause-from : goal.returns-clause-from
returns-clause-from g c honest contents read shows openable =
    let m : _ → Meaning = g.D.Disk.meaning in
    let found = c.args.found in
    let ready = c.in_ok-opened.field-0 in
    let same = c.in_ok-opened.ensures.same honest in
    let kept = kept_on (m c.args.disk.now) (m c.ready_to_mend.new.disk) (m c.mend_and_sweep.new.disk) contents.homes same.state
    (c.in_ok-mend_and_sweep.ensures.spared honest found contents (subst (λ (s : DiskState). IsFinished (standing s) found) (sym same.state) read) shows
    (subst (λ (s : DiskState). IsOpenable (standing s) contents) (sym same.state) openable)
    (subst (λ (s : DiskState). IsMendingOf (standing s) found ready.mending) (sym same.state) (c.in_ok-opened.ensures.mending _ read)) (c.in_ok-opened.ensures.sweep honest _ read)) in
    reads_from (m c.args.disk.now) (m c.mend_and_sweep.new.disk) found contents (string_bytes ready.mending.active) ready.opened read shows openable (c.in_ok-opened.ensures.opened honest read) kept

pub returns-clause-writes : goal.returns-clause-writes
returns-clause-writes g c honest read =
    let m : _ → Meaning = g.D.Disk.meaning in
    let found = c.args.found in
    let image : Image = standing (state_in (m c.args.disk.now)) in
    let takes = (c.in_ok-opened.ensures.opened honest read).takes in
    let planned = c.in_ok-opened.ensures.mending image read in
    (active_of found.journal_ids.items, active_small image found.journal_ids.items read.journal_ids, ap (λ (w : Journal). w.name) takes.journal ∙ planned.2.active)

pub returns-clause-number : goal.returns-clause-number
returns-clause-number g c honest contents read shows =
    let image : Image = standing (state_in (g.D.Disk.meaning c.args.disk.now)) in
    number_is image c.args.found read contents c.in_ok-opened.field-0.opened.number shows (c.in_ok-opened.ensures.number (numbers image c.args.found read))

pub returns-clause-any_moment : goal.returns-clause-any_moment
returns-clause-any_moment g c honest contents read shows holds =
    let m : _ → Meaning = g.D.Disk.meaning in
    let found = c.args.found in
    let ready = c.in_ok-opened.field-0 in
    let same = c.in_ok-opened.ensures.same honest in
    run_on (m c.args.disk.now) (m c.ready_to_mend.new.disk) same (m c.mend_and_sweep.new.disk) _
    (c.in_ok-mend_and_sweep.ensures.any_moment honest found contents (subst (λ (s : DiskState). IsFinished (standing s) found) (sym same.state) read) shows
    (holds_on (m c.args.disk.now) (m c.ready_to_mend.new.disk) same (Some contents) holds)
    (subst (λ (s : DiskState). IsMendingOf (standing s) found ready.mending) (sym same.state) (c.in_ok-opened.ensures.mending _ read)) (c.in_ok-opened.ensures.sweep honest _ read))

pub returns-in_err-opened-clause-kinds : goal.returns-in_err-opened-clause-kinds
returns-in_err-opened-clause-kinds g c honest read = tidy_none _ _ (c.in_err-opened.ensures.same honest)

pub returns-in_err-opened-clause-served : goal.returns-in_err-opened-clause-served
returns-in_err-opened-clause-served g c honest tidy contents read shows sound = c.in_err-opened.ensures.served honest

pub returns-in_err-mend_and_sweep-clause-kinds : goal.returns-in_err-mend_and_sweep-clause-kinds
returns-in_err-mend_and_sweep-clause-kinds g c honest read =
    let m : _ → Meaning = g.D.Disk.meaning in
    let found = c.args.found in
    let ready = c.in_ok-opened.field-0 in
    let same = c.in_ok-opened.ensures.same honest in
    stays_both (m c.args.disk.now) (m c.ready_to_mend.new.disk) (m c.mend_and_sweep.new.disk) (tidy_none _ _ same)
    (c.in_err-mend_and_sweep.ensures.kinds honest found (subst (λ (s : DiskState). IsFinished (standing s) found) (sym same.state) read)
    (subst (λ (s : DiskState). IsMendingOf (standing s) found ready.mending) (sym same.state) (c.in_ok-opened.ensures.mending _ read)))

pub returns-in_err-mend_and_sweep-clause-served : goal.returns-in_err-mend_and_sweep-clause-served
returns-in_err-mend_and_sweep-clause-served g c honest tidy contents read shows sound =
    let found = c.args.found in
    let ready = c.in_ok-opened.field-0 in
    let same = c.in_ok-opened.ensures.same honest in
    c.in_err-mend_and_sweep.ensures.served honest (subst IsTidy (sym same.state) tidy) found contents (subst (λ (s : DiskState). IsFinished (standing s) found) (sym same.state) read) shows
    (subst (λ (s : DiskState). IsOpenable (standing s) contents) (sym same.state) sound) (subst (λ (s : DiskState). IsMendingOf (standing s) found ready.mending) (sym same.state) (c.in_ok-opened.ensures.mending _ read))
    (c.in_ok-opened.ensures.sweep honest _ read)
    (subst (λ (s : DiskState). All (HasAll s) ready.sweep.homes.items) (sym same.state) (c.in_ok-opened.ensures.finds honest _ read).each)
    ∙ c.in_ok-opened.ensures.served honest

pub returns-clause-kinds : goal.returns-clause-kinds
returns-clause-kinds g c honest read =
    let m : _ → Meaning = g.D.Disk.meaning in
    let found = c.args.found in
    let ready = c.in_ok-opened.field-0 in
    let same = c.in_ok-opened.ensures.same honest in
    stays_both (m c.args.disk.now) (m c.ready_to_mend.new.disk) (m c.mend_and_sweep.new.disk) (tidy_none _ _ same)
    (c.in_ok-mend_and_sweep.ensures.kinds honest found (subst (λ (s : DiskState). IsFinished (standing s) found) (sym same.state) read)
    (subst (λ (s : DiskState). IsMendingOf (standing s) found ready.mending) (sym same.state) (c.in_ok-opened.ensures.mending _ read)))

pub returns-clause-served : goal.returns-clause-served
returns-clause-served g c honest tidy contents read shows sound =
    let found = c.args.found in
    let ready = c.in_ok-opened.field-0 in
    let same = c.in_ok-opened.ensures.same honest in
    c.in_ok-mend_and_sweep.ensures.served honest (subst IsTidy (sym same.state) tidy) found contents (subst (λ (s : DiskState). IsFinished (standing s) found) (sym same.state) read) shows
    (subst (λ (s : DiskState). IsOpenable (standing s) contents) (sym same.state) sound) (subst (λ (s : DiskState). IsMendingOf (standing s) found ready.mending) (sym same.state) (c.in_ok-opened.ensures.mending _ read))
    (c.in_ok-opened.ensures.sweep honest _ read)
    (subst (λ (s : DiskState). All (HasAll s) ready.sweep.homes.items) (sym same.state) (c.in_ok-opened.ensures.finds honest _ read).each)
    ∙ c.in_ok-opened.ensures.served honest

pub returns-in_err-opened-clause-amid : goal.returns-in_err-opened-clause-amid
returns-in_err-opened-clause-amid g c honest contents read shows sound base pending holds =
    let m : _ → Meaning = g.D.Disk.meaning in
    stays (m c.args.disk.now) (m c.args.disk.now) (m c.ready_to_mend.new.disk) _ (amid_now (m c.args.disk.now) base pending holds) (c.in_err-opened.ensures.same honest)

pub returns-in_err-opened-clause-held : goal.returns-in_err-opened-clause-held
returns-in_err-opened-clause-held g c honest contents read shows sound base pending holds = amid_on _ _ (c.in_err-opened.ensures.same honest) base pending holds

pub returns-in_err-mend_and_sweep-clause-amid : goal.returns-in_err-mend_and_sweep-clause-amid
returns-in_err-mend_and_sweep-clause-amid g c honest contents read shows sound base pending holds =
    let m : _ → Meaning = g.D.Disk.meaning in
    let found = c.args.found in
    let ready = c.in_ok-opened.field-0 in
    let same = c.in_ok-opened.ensures.same honest in
    run_on (m c.args.disk.now) (m c.ready_to_mend.new.disk) same (m c.mend_and_sweep.new.disk) _
    (c.in_err-mend_and_sweep.ensures.amid honest found contents (subst (λ (s : DiskState). IsFinished (standing s) found) (sym same.state) read) shows
    (subst (λ (s : DiskState). IsOpenable (standing s) contents) (sym same.state) sound)
    (subst (λ (s : DiskState). IsMendingOf (standing s) found ready.mending) (sym same.state) (c.in_ok-opened.ensures.mending _ read)) (c.in_ok-opened.ensures.sweep honest _ read)
    base pending (amid_on (m c.args.disk.now) (m c.ready_to_mend.new.disk) same base pending holds))

pub returns-in_err-mend_and_sweep-clause-held : goal.returns-in_err-mend_and_sweep-clause-held
returns-in_err-mend_and_sweep-clause-held g c honest contents read shows sound base pending holds =
    let m : _ → Meaning = g.D.Disk.meaning in
    let found = c.args.found in
    let ready = c.in_ok-opened.field-0 in
    let same = c.in_ok-opened.ensures.same honest in
    (c.in_err-mend_and_sweep.ensures.held honest found contents (subst (λ (s : DiskState). IsFinished (standing s) found) (sym same.state) read) shows
    (subst (λ (s : DiskState). IsOpenable (standing s) contents) (sym same.state) sound)
    (subst (λ (s : DiskState). IsMendingOf (standing s) found ready.mending) (sym same.state) (c.in_ok-opened.ensures.mending _ read)) (c.in_ok-opened.ensures.sweep honest _ read)
    base pending (amid_on (m c.args.disk.now) (m c.ready_to_mend.new.disk) same base pending holds))

pub returns-clause-amid : goal.returns-clause-amid
returns-clause-amid g c honest contents read shows sound base pending holds =
    let m : _ → Meaning = g.D.Disk.meaning in
    let found = c.args.found in
    let ready = c.in_ok-opened.field-0 in
    let same = c.in_ok-opened.ensures.same honest in
    run_on (m c.args.disk.now) (m c.ready_to_mend.new.disk) same (m c.mend_and_sweep.new.disk) _
    (c.in_ok-mend_and_sweep.ensures.amid honest found contents (subst (λ (s : DiskState). IsFinished (standing s) found) (sym same.state) read) shows
    (subst (λ (s : DiskState). IsOpenable (standing s) contents) (sym same.state) sound)
    (subst (λ (s : DiskState). IsMendingOf (standing s) found ready.mending) (sym same.state) (c.in_ok-opened.ensures.mending _ read)) (c.in_ok-opened.ensures.sweep honest _ read)
    base pending (amid_on (m c.args.disk.now) (m c.ready_to_mend.new.disk) same base pending holds))

pub returns-clause-held : goal.returns-clause-held
returns-clause-held g c honest contents read shows sound base pending holds =
    let m : _ → Meaning = g.D.Disk.meaning in
    let found = c.args.found in
    let ready = c.in_ok-opened.field-0 in
    let same = c.in_ok-opened.ensures.same honest in
    (c.in_ok-mend_and_sweep.ensures.held honest found contents (subst (λ (s : DiskState). IsFinished (standing s) found) (sym same.state) read) shows
    (subst (λ (s : DiskState). IsOpenable (standing s) contents) (sym same.state) sound)
    (subst (λ (s : DiskState). IsMendingOf (standing s) found ready.mending) (sym same.state) (c.in_ok-opened.ensures.mending _ read)) (c.in_ok-opened.ensures.sweep honest _ read)
    base pending (amid_on (m c.args.disk.now) (m c.ready_to_mend.new.disk) same base pending holds))

pub returns-clause-opens : goal.returns-clause-opens
returns-clause-opens g c honest contents read shows sound base pending holds =
    let m : _ → Meaning = g.D.Disk.meaning in
    let found = c.args.found in
    let ready = c.in_ok-opened.field-0 in
    let image : Image = standing (state_in (m c.args.disk.now)) in
    let same = c.in_ok-opened.ensures.same honest in
    let repaired = c.in_ok-mend_and_sweep.ensures.repaired honest found contents (subst (λ (s : DiskState). IsFinished (standing s) found) (sym same.state) read) shows
    (subst (λ (s : DiskState). IsSound (standing s) contents) (sym same.state) sound)
    (subst (λ (s : DiskState). IsMendingOf (standing s) found ready.mending) (sym same.state) (c.in_ok-opened.ensures.mending _ read)) (c.in_ok-opened.ensures.sweep honest _ read)
    base pending (amid_on (m c.args.disk.now) (m c.ready_to_mend.new.disk) same base pending holds)
    (subst (λ (s : DiskState). FindsTables s (names_read found) (map string_bytes ready.sweep.tables.items)) (sym same.state) (c.in_ok-opened.ensures.finds honest _ read).tables) in
    let takes = c.in_ok-opened.ensures.opened honest read in
    let kept = kept_on (m c.args.disk.now) (m c.ready_to_mend.new.disk) (m c.mend_and_sweep.new.disk) contents.homes same.state
    (c.in_ok-mend_and_sweep.ensures.spared honest found contents (subst (λ (s : DiskState). IsFinished (standing s) found) (sym same.state) read) shows
    (subst (λ (s : DiskState). IsOpenable (standing s) contents) (sym same.state) sound.openable)
    (subst (λ (s : DiskState). IsMendingOf (standing s) found ready.mending) (sym same.state) (c.in_ok-opened.ensures.mending _ read)) (c.in_ok-opened.ensures.sweep honest _ read)) in
    let made = makes_sound (m c.args.disk.now) (m c.mend_and_sweep.new.disk) found contents (string_bytes ready.mending.active) ready.opened read shows sound.openable takes kept sound.versions in
    let told = told_contents image found contents read shows sound.openable in
    opens_of (m c.mend_and_sweep.new.disk) contents (opened contents.journals) (string_bytes ready.mending.active) found.journals.end repaired (Some contents) takes.loaded ready.opened
    (takes_contents found contents ready.opened (string_bytes ready.mending.active) takes.loaded shows takes.takes) (tell_as (opened contents.journals) found ready.opened takes.journals told)
    (takes.journals.active_is ∙ active_contents found contents shows) made refl
    (number_is image found read contents ready.opened.number shows (c.in_ok-opened.ensures.number (numbers image found read))) refl

pub returns-clause-fresh : goal.returns-clause-fresh
returns-clause-fresh g c honest read none =
    none_read (standing (state_in (g.D.Disk.meaning c.args.disk.now))) c.args.found c.in_ok-opened.field-0.opened read c.requires none (c.in_ok-opened.ensures.opened honest read).journals
