use Rattle.std.proofs.Common.{◌≡◌, Ok, false, codes, refl, ◌∙◌, ap}
use Rattle.fjall_base.specs.Disk.{DiskState, Folder, Meaning, Name, Place, state_in}
use Rattle.fjall_files.proofs.Made.{within_both, within_none}
use Rattle.fjall_files.specs.Names.{current_name}
use Rattle.fjall_manifest.proofs.CatalogNaming.{folder_zero}
use Rattle.fjall_repair.proofs.Moments.{goes_both, goes_none}
use Rattle.fjall_repair.proofs.Named.{keyspaces_no_table}
use Rattle.fjall_repair.proofs.Trees.{folder_other, goes_folder, inner_no_table, inner_records, inner_stands, keyspaces_stands, on_ok_as, on_ok_of, outer_records, records_along, within_folder}
use Rattle.fjall_files.proofs.Tidying.{stays_both as tidy_both, stays_making, stays_none as tidy_none, tidy_on}
use Rattle.fjall_files.proofs.Fitting.{fits_keyspaces}
use Rattle.fjall_repair.proofs.BeginServed.{can_make_keyspaces, can_make_tree, homes_both, homes_made, keyspaces_no_home, making_folder, tree_fits, tree_no_home}
use Rattle.fjall_repair.proofs.beginning.tree.make_folders.Goals as goal

pub returns-in_err-make_folder-clause-goes : goal.returns-in_err-make_folder-clause-goes
returns-in_err-make_folder-clause-goes g c honest = goes_none false _ _ (c.in_err-make_folder.ensures.err honest)

pub returns-in_err-make_folder-clause-within : goal.returns-in_err-make_folder-clause-within
returns-in_err-make_folder-clause-within g c honest = within_none (codes "keyspaces") _ _ (c.in_err-make_folder.ensures.err honest)

pub returns-in_err-make_folder-clause-records : goal.returns-in_err-make_folder-clause-records
returns-in_err-make_folder-clause-records g c honest = let m : _ → Meaning = g.D.Disk.meaning in records_along (m c.args.disk.now) (m c.make_folder.new.self) (ap (λ (s : DiskState). s (current_name 0)) (c.in_err-make_folder.ensures.err honest).state)

pub returns-clause-goes : goal.returns-clause-goes
returns-clause-goes g c honest =
    let m : _ → Meaning = g.D.Disk.meaning in
    goes_both false (m c.args.disk.now) (m c.make_folder.new.self) (m c.make_folder-2.new.self)
    (goes_folder (codes "keyspaces") _ _ (Ok tt) (c.in_ok-make_folder.ensures.ok honest) tt false keyspaces_no_table keyspaces_stands)
    (goes_folder (codes "keyspaces/0") _ _ c.make_folder-2.result (c.make_folder-2.ensures.ok honest) (c.make_folder-2.ensures.err honest) false inner_no_table inner_stands)

pub returns-clause-within : goal.returns-clause-within
returns-clause-within g c honest =
    let m : _ → Meaning = g.D.Disk.meaning in
    within_both (codes "keyspaces") (m c.args.disk.now) (m c.make_folder.new.self) (m c.make_folder-2.new.self)
    (within_folder (codes "keyspaces") _ _ (Ok tt) (c.in_ok-make_folder.ensures.ok honest) tt (codes "keyspaces") refl)
    (within_folder (codes "keyspaces/0") _ _ c.make_folder-2.result (c.make_folder-2.ensures.ok honest) (c.make_folder-2.ensures.err honest) (codes "keyspaces") refl)

pub returns-clause-outer : goal.returns-clause-outer
returns-clause-outer g c honest =
    on_ok_of c.make_folder-2.result _
    (ap (λ (p : Place). p.now) (folder_other (codes "keyspaces/0") _ _ c.make_folder-2.result (c.make_folder-2.ensures.ok honest) (c.make_folder-2.ensures.err honest) (codes "keyspaces") refl) ∙ c.in_ok-make_folder.ensures.folder honest)

pub returns-clause-inner : goal.returns-clause-inner
returns-clause-inner g c honest =
    let new = state_in (g.D.Disk.meaning c.make_folder-2.new.self) in
    on_ok_as c.make_folder-2.result ((new (codes "keyspaces/0")).now ≡ Folder) _ (λ is. ap (λ (n : Name). (new n).now) folder_zero ∙ is) (c.make_folder-2.ensures.folder honest)

pub returns-clause-records : goal.returns-clause-records
returns-clause-records g c honest =
    let m : _ → Meaning = g.D.Disk.meaning in
    records_along (m c.args.disk.now) (m c.make_folder-2.new.self) (inner_records _ _ c.make_folder-2.result (c.make_folder-2.ensures.ok honest) (c.make_folder-2.ensures.err honest) ∙ outer_records _ _ (Ok tt) (c.in_ok-make_folder.ensures.ok honest) tt)

pub returns-in_err-make_folder-clause-kinds : goal.returns-in_err-make_folder-clause-kinds
returns-in_err-make_folder-clause-kinds g c honest = tidy_none _ _ (c.in_err-make_folder.ensures.err honest)

pub returns-in_err-make_folder-clause-homes : goal.returns-in_err-make_folder-clause-homes
returns-in_err-make_folder-clause-homes g c honest id some small = ap (λ (s : DiskState). (s (current_name id)).now) (c.in_err-make_folder.ensures.err honest).state

pub returns-in_err-make_folder-clause-served : goal.returns-in_err-make_folder-clause-served
returns-in_err-make_folder-clause-served g c honest tidy = (c.in_err-make_folder.ensures.judged honest).served (can_make_keyspaces (state_in (g.D.Disk.meaning c.args.disk.now)) tidy)

pub returns-clause-kinds : goal.returns-clause-kinds
returns-clause-kinds g c honest =
    let m : _ → Meaning = g.D.Disk.meaning in
    tidy_both (m c.args.disk.now) (m c.make_folder.new.self) (m c.make_folder-2.new.self)
    (stays_making _ _ (codes "keyspaces") Folder _ fits_keyspaces (c.in_ok-make_folder.ensures.ok honest))
    (making_folder (codes "keyspaces/0") _ _ _ c.make_folder-2.result tree_fits (c.make_folder-2.ensures.ok honest) (c.make_folder-2.ensures.err honest))

pub returns-clause-homes : goal.returns-clause-homes
returns-clause-homes g c honest =
    let m : _ → Meaning = g.D.Disk.meaning in
    homes_both (state_in (m c.args.disk.now)) (state_in (m c.make_folder.new.self)) (state_in (m c.make_folder-2.new.self))
    (homes_made (codes "keyspaces") Folder _ (m c.args.disk.now) (m c.make_folder.new.self) (Ok tt) keyspaces_no_home (c.in_ok-make_folder.ensures.ok honest) tt)
    (homes_made (codes "keyspaces/0") Folder _ (m c.make_folder.new.self) (m c.make_folder-2.new.self) c.make_folder-2.result tree_no_home (c.make_folder-2.ensures.ok honest) (c.make_folder-2.ensures.err honest))

pub returns-clause-served : goal.returns-clause-served
returns-clause-served g c honest tidy =
    let m : _ → Meaning = g.D.Disk.meaning in
    let on = tidy_on (m c.args.disk.now) (m c.make_folder.new.self) (stays_making _ _ (codes "keyspaces") Folder _ fits_keyspaces (c.in_ok-make_folder.ensures.ok honest)) tidy in
    (c.make_folder-2.ensures.judged honest).served (can_make_tree (state_in (m c.make_folder.new.self)) on (c.in_ok-make_folder.ensures.folder honest))
    ∙ (c.in_ok-make_folder.ensures.judged honest).served (can_make_keyspaces (state_in (m c.args.disk.now)) tidy)
