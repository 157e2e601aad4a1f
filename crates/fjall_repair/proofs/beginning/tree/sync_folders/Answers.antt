use Rattle.std.proofs.Common.{◌≡◌, Ok, inr, codes, false, refl, ap, subst, ◌∙◌}
use Rattle.fjall_base.specs.Disk.{DiskState, Folder, Meaning, Name, state_in}
use Rattle.fjall_files.specs.Names.{current_name}
use Rattle.fjall_files.proofs.Made.{within_both, within_none}
use Rattle.fjall_repair.proofs.Moments.{goes_both, goes_none, goes_settled}
use Rattle.fjall_repair.proofs.Trees.{first_tree, settled_under}
use Rattle.fjall_files.proofs.Tidying.{stays_both as tidy_both, stays_none as tidy_none, stays_settling}
use Rattle.fjall_manifest.proofs.CatalogNaming.{folder_zero}
use Rattle.fjall_repair.proofs.BeginServed.{homes_both, homes_settled, outer_settled}
use Rattle.fjall_repair.proofs.beginning.tree.sync_folders.Goals as goal

pub returns-in_err-sync_folder-clause-goes : goal.returns-in_err-sync_folder-clause-goes
returns-in_err-sync_folder-clause-goes g c honest = goes_none false _ _ (c.in_err-sync_folder.ensures.err honest)

pub returns-in_err-sync_folder-clause-within : goal.returns-in_err-sync_folder-clause-within
returns-in_err-sync_folder-clause-within g c honest = within_none (codes "keyspaces") _ _ (c.in_err-sync_folder.ensures.err honest)

pub returns-clause-goes : goal.returns-clause-goes
returns-clause-goes g c honest =
    let m : _ → Meaning = g.D.Disk.meaning in
    goes_both false (m c.args.disk.now) (m c.sync_folder.new.self) (m c.sync_folder-2.new.self)
    (goes_settled false _ _ (codes "keyspaces/0") (Ok tt) (c.in_ok-sync_folder.ensures.ok honest) tt)
    (goes_settled false _ _ (codes "keyspaces") c.sync_folder-2.result (c.sync_folder-2.ensures.ok honest) (c.sync_folder-2.ensures.err honest))

pub returns-clause-within : goal.returns-clause-within
returns-clause-within g c honest =
    let m : _ → Meaning = g.D.Disk.meaning in
    within_both (codes "keyspaces") (m c.args.disk.now) (m c.sync_folder.new.self) (m c.sync_folder-2.new.self)
    (settled_under (codes "keyspaces") (codes "keyspaces/0") _ _ (Ok tt) refl (c.in_ok-sync_folder.ensures.ok honest) tt)
    (settled_under (codes "keyspaces") (codes "keyspaces") _ _ c.sync_folder-2.result refl (c.sync_folder-2.ensures.ok honest) (c.sync_folder-2.ensures.err honest))

pub returns-clause-settled : goal.returns-clause-settled
returns-clause-settled g c honest outer inner current =
    let m : _ → Meaning = g.D.Disk.meaning in
    first_tree (m c.args.disk.now) (m c.sync_folder.new.self) (m c.sync_folder-2.new.self) c.sync_folder-2.result (c.in_ok-sync_folder.ensures.ok honest) (c.sync_folder-2.ensures.ok honest) outer inner current

pub returns-in_err-sync_folder-clause-kinds : goal.returns-in_err-sync_folder-clause-kinds
returns-in_err-sync_folder-clause-kinds g c honest = tidy_none _ _ (c.in_err-sync_folder.ensures.err honest)

pub returns-in_err-sync_folder-clause-homes : goal.returns-in_err-sync_folder-clause-homes
returns-in_err-sync_folder-clause-homes g c honest id some small = ap (λ (s : DiskState). (s (current_name id)).now) (c.in_err-sync_folder.ensures.err honest).state

pub returns-in_err-sync_folder-clause-served : goal.returns-in_err-sync_folder-clause-served
returns-in_err-sync_folder-clause-served g c honest outer inner =
    (c.in_err-sync_folder.ensures.judged honest).served (inr (subst (λ (n : Name). (state_in (g.D.Disk.meaning c.args.disk.now) n).now ≡ Folder) folder_zero inner))

pub returns-clause-kinds : goal.returns-clause-kinds
returns-clause-kinds g c honest =
    let m : _ → Meaning = g.D.Disk.meaning in
    tidy_both (m c.args.disk.now) (m c.sync_folder.new.self) (m c.sync_folder-2.new.self)
    (stays_settling _ _ (codes "keyspaces/0") (Ok tt) (c.in_ok-sync_folder.ensures.ok honest) tt)
    (stays_settling _ _ (codes "keyspaces") c.sync_folder-2.result (c.sync_folder-2.ensures.ok honest) (c.sync_folder-2.ensures.err honest))

pub returns-clause-homes : goal.returns-clause-homes
returns-clause-homes g c honest =
    let m : _ → Meaning = g.D.Disk.meaning in
    homes_both (state_in (m c.args.disk.now)) (state_in (m c.sync_folder.new.self)) (state_in (m c.sync_folder-2.new.self))
    (homes_settled (codes "keyspaces/0") (m c.args.disk.now) (m c.sync_folder.new.self) (Ok tt) (c.in_ok-sync_folder.ensures.ok honest) tt)
    (homes_settled (codes "keyspaces") (m c.sync_folder.new.self) (m c.sync_folder-2.new.self) c.sync_folder-2.result (c.sync_folder-2.ensures.ok honest) (c.sync_folder-2.ensures.err honest))

pub returns-clause-served : goal.returns-clause-served
returns-clause-served g c honest outer inner =
    let m : _ → Meaning = g.D.Disk.meaning in
    (c.sync_folder-2.ensures.judged honest).served (inr (outer_settled (m c.args.disk.now) (m c.sync_folder.new.self) (codes "keyspaces/0") (c.in_ok-sync_folder.ensures.ok honest) outer))
    ∙ (c.in_ok-sync_folder.ensures.judged honest).served (inr (subst (λ (n : Name). (state_in (m c.args.disk.now) n).now ≡ Folder) folder_zero inner))
