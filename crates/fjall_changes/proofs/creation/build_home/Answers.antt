use Rattle.std.proofs.Common.{codes, [], ◌∷◌, ◌∙◌, subst, inr, ap, sym}
use Rattle.fjall_base.specs.Disk.{File, Folder, Meaning, Name, SyncFolder, Took, state_in, IsNoFolder, folder_of}
use Rattle.fjall_files.proofs.Fitting.{folder_of-current, fits_current, fits_folder}
use Rattle.fjall_files.proofs.Made.{within_both}
use Rattle.fjall_files.specs.Names.{keyspace_folder}
use Rattle.fjall_recovery.proofs.Listed.{in_keyspaces}
use Rattle.fjall_changes.proofs.ServableCreations.{can_make_home, keyspaces_there}
use Rattle.fjall_manifest.proofs.Outside.{within_keyspaces}
use Rattle.fjall_changes.proofs.KeptHomes.{settled_others, still_others, within_others}
use Rattle.fjall_changes.proofs.UnnamedHomes as Building
use Rattle.fjall_files.specs.Tidy.{FitsAt}
use Rattle.fjall_files.proofs.Tidying.{stays_both, stays_by, stays_none, stays_settling}
use Rattle.fjall_changes.proofs.creation.build_home.Goals as goal

-- ---- the folder or its file wasn't written

pub returns-in_err-write_home-clause-within : goal.returns-in_err-write_home-clause-within
returns-in_err-write_home-clause-within g c honest old s id number is =
    within_keyspaces id _ _ (Building.within_as id c.as_str-folder.result.now c.as_str.result.now (c.as_str-folder.ensures.value ∙ is.folder) (c.as_str.ensures.value ∙ is.current) _ _ (c.in_err-write_home.ensures.within honest))

pub returns-in_err-write_home-clause-any_moment : goal.returns-in_err-write_home-clause-any_moment
returns-in_err-write_home-clause-any_moment g c honest records t old s id number lies unused is =
    let run = Building.within_as id c.as_str-folder.result.now c.as_str.result.now (c.as_str-folder.ensures.value ∙ is.folder) (c.as_str.ensures.value ∙ is.current) _ _ (c.in_err-write_home.ensures.within honest) in
    (Building.first_on id records t unused _ _ lies run).run

pub returns-in_err-write_home-clause-lies : goal.returns-in_err-write_home-clause-lies
returns-in_err-write_home-clause-lies g c honest records t old s id number lies unused is =
    let run = Building.within_as id c.as_str-folder.result.now c.as_str.result.now (c.as_str-folder.ensures.value ∙ is.folder) (c.as_str.ensures.value ∙ is.current) _ _ (c.in_err-write_home.ensures.within honest) in
    (Building.first_on id records t unused _ _ lies run).lies

-- ---- the folder wasn't synced

pub returns-in_err-sync_folder-clause-within : goal.returns-in_err-sync_folder-clause-within
returns-in_err-sync_folder-clause-within g c honest old s id number is =
    let run = Building.within_as id c.as_str-folder.result.now c.as_str.result.now (c.as_str-folder.ensures.value ∙ is.folder) (c.as_str.ensures.value ∙ is.current) _ _ (c.in_ok-write_home.ensures.within honest) in
    Building.stopped_within id _ _ _ run (c.in_err-sync_folder.ensures.err honest)

pub returns-in_err-sync_folder-clause-any_moment : goal.returns-in_err-sync_folder-clause-any_moment
returns-in_err-sync_folder-clause-any_moment g c honest records t old s id number lies unused is =
    let run = Building.within_as id c.as_str-folder.result.now c.as_str.result.now (c.as_str-folder.ensures.value ∙ is.folder) (c.as_str.ensures.value ∙ is.current) _ _ (c.in_ok-write_home.ensures.within honest) in
    (Building.stopped id records t unused _ _ _ lies run (c.in_err-sync_folder.ensures.err honest)).run

pub returns-in_err-sync_folder-clause-lies : goal.returns-in_err-sync_folder-clause-lies
returns-in_err-sync_folder-clause-lies g c honest records t old s id number lies unused is =
    let run = Building.within_as id c.as_str-folder.result.now c.as_str.result.now (c.as_str-folder.ensures.value ∙ is.folder) (c.as_str.ensures.value ∙ is.current) _ _ (c.in_ok-write_home.ensures.within honest) in
    (Building.stopped id records t unused _ _ _ lies run (c.in_err-sync_folder.ensures.err honest)).lies

-- ---- the whole call

pub returns-clause-within : goal.returns-clause-within
returns-clause-within g c honest old s id number is =
    let at = c.as_str-folder.ensures.value ∙ is.folder in
    let run = Building.within_as id c.as_str-folder.result.now c.as_str.result.now at (c.as_str.ensures.value ∙ is.current) _ _ (c.in_ok-write_home.ensures.within honest) in
    let synced = Building.synced_as id c.as_str-folder.result.now at _ _ (c.in_ok-sync_folder.ensures.ok honest) in
    Building.ended_within id _ _ _ _ c.sync_folder-2.result run synced (c.sync_folder-2.ensures.ok honest) (c.sync_folder-2.ensures.err honest)

pub returns-clause-any_moment : goal.returns-clause-any_moment
returns-clause-any_moment g c honest records t old s id number lies unused is =
    let at = c.as_str-folder.ensures.value ∙ is.folder in
    let run = Building.within_as id c.as_str-folder.result.now c.as_str.result.now at (c.as_str.ensures.value ∙ is.current) _ _ (c.in_ok-write_home.ensures.within honest) in
    let synced = Building.synced_as id c.as_str-folder.result.now at _ _ (c.in_ok-sync_folder.ensures.ok honest) in
    (Building.ended id records t unused _ _ _ _ c.sync_folder-2.result lies run synced (c.sync_folder-2.ensures.ok honest) (c.sync_folder-2.ensures.err honest)).run

pub returns-clause-lies : goal.returns-clause-lies
returns-clause-lies g c honest records t old s id number lies unused is =
    let at = c.as_str-folder.ensures.value ∙ is.folder in
    let run = Building.within_as id c.as_str-folder.result.now c.as_str.result.now at (c.as_str.ensures.value ∙ is.current) _ _ (c.in_ok-write_home.ensures.within honest) in
    let synced = Building.synced_as id c.as_str-folder.result.now at _ _ (c.in_ok-sync_folder.ensures.ok honest) in
    (Building.ended id records t unused _ _ _ _ c.sync_folder-2.result lies run synced (c.sync_folder-2.ensures.ok honest) (c.sync_folder-2.ensures.err honest)).lies

pub returns-clause-home : goal.returns-clause-home
returns-clause-home g c honest old s id number small is =
    let m : _ → Meaning = g.D.Disk.meaning in
    let folder = c.as_str-folder.result.now in
    let at = c.as_str-folder.ensures.value ∙ is.folder in
    let made = Building.made_as id folder c.as_str.result.now at (c.as_str.ensures.value ∙ is.current) (state_in (m c.write_home.new.disk)) c.deref.result.now (c.in_ok-write_home.ensures.made honest) in
    Building.home_safe id number (m c.write_home.new.disk) (m c.sync_folder.new.self) (m c.sync_folder-2.new.self) c.deref.result.now c.sync_folder-2.result small
    (Building.number_small old s number c.args.creation.now.update is.update) (c.deref.ensures.value ∙ is.record_text) made
    (subst (λ (n : Name). Took (m c.write_home.new.disk) (m c.sync_folder.new.self) (SyncFolder n ∷ [])) at (c.in_ok-sync_folder.ensures.ok honest)) (c.sync_folder-2.ensures.ok honest)

-- ---- which calls a disk can serve

pub returns-in_err-write_home-clause-served : goal.returns-in_err-write_home-clause-served
returns-in_err-write_home-clause-served g c honest records t old s id number small lies is room =
    let m : _ → Meaning = g.D.Disk.meaning in
    let at = c.as_str-folder.ensures.value ∙ is.folder in
    let at_current = c.as_str.ensures.value ∙ is.current in
    let inside = ap (λ (n : Name). folder_of n) at_current ∙ folder_of-current id ∙ sym at in
    let can = can_make_home id c.as_str-folder.result.now at (in_keyspaces id small) (state_in (m c.args.disk.now)) records t lies room in
    let kind = subst (λ (n : Name). IsNoFolder (state_in (m c.args.disk.now) n).now) (sym at_current) room.current in
    c.in_err-write_home.ensures.served honest inside can kind

pub returns-in_err-sync_folder-clause-served : goal.returns-in_err-sync_folder-clause-served
returns-in_err-sync_folder-clause-served g c honest records t old s id number small lies is room =
    let m : _ → Meaning = g.D.Disk.meaning in
    let at = c.as_str-folder.ensures.value ∙ is.folder in
    let at_current = c.as_str.ensures.value ∙ is.current in
    let inside = ap (λ (n : Name). folder_of n) at_current ∙ folder_of-current id ∙ sym at in
    let can = can_make_home id c.as_str-folder.result.now at (in_keyspaces id small) (state_in (m c.args.disk.now)) records t lies room in
    let kind = subst (λ (n : Name). IsNoFolder (state_in (m c.args.disk.now) n).now) (sym at_current) room.current in
    (c.in_err-sync_folder.ensures.judged honest).served (inr (c.in_ok-write_home.ensures.made honest inside).folder_now) ∙ c.in_ok-write_home.ensures.served honest inside can kind

pub returns-clause-served : goal.returns-clause-served
returns-clause-served g c honest records t old s id number small lies is room =
    let m : _ → Meaning = g.D.Disk.meaning in
    let at = c.as_str-folder.ensures.value ∙ is.folder in
    let at_current = c.as_str.ensures.value ∙ is.current in
    let inside = ap (λ (n : Name). folder_of n) at_current ∙ folder_of-current id ∙ sym at in
    let can = can_make_home id c.as_str-folder.result.now at (in_keyspaces id small) (state_in (m c.args.disk.now)) records t lies room in
    let kind = subst (λ (n : Name). IsNoFolder (state_in (m c.args.disk.now) n).now) (sym at_current) room.current in
    let run = Building.within_as id c.as_str-folder.result.now c.as_str.result.now at at_current _ _ (c.in_ok-write_home.ensures.within honest) in
    let synced = Building.synced_as id c.as_str-folder.result.now at _ _ (c.in_ok-sync_folder.ensures.ok honest) in
    let both = within_both (keyspace_folder id) (m c.args.disk.now) (m c.write_home.new.disk) (m c.sync_folder.new.self) run synced in
    (c.sync_folder-2.ensures.judged honest).served (keyspaces_there id (m c.args.disk.now) (m c.sync_folder.new.self) records t lies both)
    ∙ (c.in_ok-sync_folder.ensures.judged honest).served (inr (c.in_ok-write_home.ensures.made honest inside).folder_now) ∙ c.in_ok-write_home.ensures.served honest inside can kind

-- ---- what it puts at names

pub returns-in_err-write_home-clause-kinds : goal.returns-in_err-write_home-clause-kinds
returns-in_err-write_home-clause-kinds g c honest old s id number small is =
    let folder = subst (λ (n : Name). FitsAt n Folder) (sym (c.as_str-folder.ensures.value ∙ is.folder)) (fits_folder id small) in
    let file = subst (λ (n : Name). FitsAt n (File [] [])) (sym (c.as_str.ensures.value ∙ is.current)) (fits_current id small [] []) in
    c.in_err-write_home.ensures.kinds honest folder file

pub returns-in_err-sync_folder-clause-kinds : goal.returns-in_err-sync_folder-clause-kinds
returns-in_err-sync_folder-clause-kinds g c honest old s id number small is =
    let m : _ → Meaning = g.D.Disk.meaning in
    let folder = subst (λ (n : Name). FitsAt n Folder) (sym (c.as_str-folder.ensures.value ∙ is.folder)) (fits_folder id small) in
    let file = subst (λ (n : Name). FitsAt n (File [] [])) (sym (c.as_str.ensures.value ∙ is.current)) (fits_current id small [] []) in
    stays_both (m c.args.disk.now) (m c.write_home.new.disk) (m c.sync_folder.new.self) (c.in_ok-write_home.ensures.kinds honest folder file) (stays_none _ _ (c.in_err-sync_folder.ensures.err honest))

pub returns-clause-kinds : goal.returns-clause-kinds
returns-clause-kinds g c honest old s id number small is =
    let m : _ → Meaning = g.D.Disk.meaning in
    let folder = subst (λ (n : Name). FitsAt n Folder) (sym (c.as_str-folder.ensures.value ∙ is.folder)) (fits_folder id small) in
    let file = subst (λ (n : Name). FitsAt n (File [] [])) (sym (c.as_str.ensures.value ∙ is.current)) (fits_current id small [] []) in
    stays_both (m c.args.disk.now) (m c.sync_folder.new.self) (m c.sync_folder-2.new.self)
    (stays_both (m c.args.disk.now) (m c.write_home.new.disk) (m c.sync_folder.new.self) (c.in_ok-write_home.ensures.kinds honest folder file)
    (stays_by _ _ (SyncFolder c.as_str-folder.result.now ∷ []) (c.in_ok-sync_folder.ensures.ok honest) (tt, tt)))
    (stays_settling _ _ _ c.sync_folder-2.result (c.sync_folder-2.ensures.ok honest) (c.sync_folder-2.ensures.err honest))

-- ---- all other homes

pub returns-in_err-write_home-clause-others : goal.returns-in_err-write_home-clause-others
returns-in_err-write_home-clause-others g c honest old s id number small is =
    within_others id _ _ small (Building.within_as id c.as_str-folder.result.now c.as_str.result.now (c.as_str-folder.ensures.value ∙ is.folder) (c.as_str.ensures.value ∙ is.current) _ _ (c.in_err-write_home.ensures.within honest))

pub returns-in_err-sync_folder-clause-others : goal.returns-in_err-sync_folder-clause-others
returns-in_err-sync_folder-clause-others g c honest old s id number small is =
    let run = Building.within_as id c.as_str-folder.result.now c.as_str.result.now (c.as_str-folder.ensures.value ∙ is.folder) (c.as_str.ensures.value ∙ is.current) _ _ (c.in_ok-write_home.ensures.within honest) in
    let m : _ → Meaning = g.D.Disk.meaning in
    still_others id (m c.args.disk.now) (m c.write_home.new.disk) (m c.sync_folder.new.self) (within_others id (m c.args.disk.now) (m c.write_home.new.disk) small run) (c.in_err-sync_folder.ensures.err honest)

pub returns-clause-others : goal.returns-clause-others
returns-clause-others g c honest old s id number small is =
    let m : _ → Meaning = g.D.Disk.meaning in
    let at = c.as_str-folder.ensures.value ∙ is.folder in
    let run = Building.within_as id c.as_str-folder.result.now c.as_str.result.now at (c.as_str.ensures.value ∙ is.current) _ _ (c.in_ok-write_home.ensures.within honest) in
    let synced = Building.synced_as id c.as_str-folder.result.now at _ _ (c.in_ok-sync_folder.ensures.ok honest) in
    let both = within_both (keyspace_folder id) (m c.args.disk.now) (m c.write_home.new.disk) (m c.sync_folder.new.self) run synced in
    settled_others id (codes "keyspaces") (m c.args.disk.now) (m c.sync_folder.new.self) (m c.sync_folder-2.new.self) c.sync_folder-2.result (within_others id _ _ small both) (c.sync_folder-2.ensures.ok honest) (c.sync_folder-2.ensures.err honest)
