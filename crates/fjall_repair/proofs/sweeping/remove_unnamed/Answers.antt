use Rattle.std.proofs.Common.{◌∷◌, [], All, map, subst, sym, ◌∙◌}
use Rattle.std.specs.List.{Contains}
use Rattle.std.specs.Prelude.{string_bytes}
use Rattle.fjall_base.specs.Disk.{IsNoFolder, Meaning, state_in}
use Rattle.fjall_repair.specs.Sweeps.{NamesAreGone, RemovesNames}
use Rattle.fjall_repair.proofs.Removals as Removals
use Rattle.fjall_files.proofs.Tidying.{stays_both, stays_removing, tidy_on}
use Rattle.fjall_repair.proofs.SweepServed.{files_no_folders, home_removable}
use Rattle.fjall_repair.proofs.sweeping.remove_unnamed.Goals as goal

pub returns-in_err-remove_all-clause-removes : goal.returns-in_err-remove_all-clause-removes
returns-in_err-remove_all-clause-removes g c honest =
    let m : _ → Meaning = g.D.Disk.meaning in
    let home = c.args.home.now in
    Removals.removes_first (map string_bytes home.files.items) (string_bytes home.folder ∷ []) (m c.args.disk.now) (m c.remove_all.new.disk) (m c.remove_all.new.disk)
    (subst (λ l. RemovesNames (Contains (map string_bytes l)) (m c.args.disk.now) (m c.remove_all.new.disk)) c.deref.ensures.value (c.in_err-remove_all.ensures.removes honest))

pub returns-clause-removes : goal.returns-clause-removes
returns-clause-removes g c honest =
    let m : _ → Meaning = g.D.Disk.meaning in
    let home = c.args.home.now in
    Removals.removes_both (map string_bytes home.files.items) (string_bytes home.folder ∷ []) (m c.args.disk.now) (m c.remove_all.new.disk) (m c.remove_folder.new.self)
    (subst (λ l. RemovesNames (Contains (map string_bytes l)) (m c.args.disk.now) (m c.remove_all.new.disk)) c.deref.ensures.value (c.in_ok-remove_all.ensures.removes honest))
    (Removals.folder_removed (m c.remove_all.new.disk) (m c.remove_folder.new.self) (string_bytes home.folder) c.as_str.result.now c.as_str.ensures.value c.remove_folder.result (c.remove_folder.ensures.ok honest) (c.remove_folder.ensures.err honest))

pub returns-clause-gone : goal.returns-clause-gone
returns-clause-gone g c honest =
    let m : _ → Meaning = g.D.Disk.meaning in
    let home = c.args.home.now in
    Removals.gone_both (map string_bytes home.files.items) (string_bytes home.folder ∷ []) (m c.args.disk.now) (m c.remove_all.new.disk) (m c.remove_folder.new.self) c.remove_folder.result
    (subst (λ l. NamesAreGone (state_in (m c.remove_all.new.disk)) (map string_bytes l)) c.deref.ensures.value (c.in_ok-remove_all.ensures.gone honest))
    (Removals.folder_removed (m c.remove_all.new.disk) (m c.remove_folder.new.self) (string_bytes home.folder) c.as_str.result.now c.as_str.ensures.value c.remove_folder.result (c.remove_folder.ensures.ok honest) (c.remove_folder.ensures.err honest))
    (Removals.folder_gone (m c.remove_all.new.disk) (m c.remove_folder.new.self) (string_bytes home.folder) c.as_str.result.now c.as_str.ensures.value c.remove_folder.result (c.remove_folder.ensures.kind honest) (c.remove_folder.ensures.ok honest))

pub returns-clause-kinds : goal.returns-clause-kinds
returns-clause-kinds g c honest =
    let m : _ → Meaning = g.D.Disk.meaning in
    stays_both (m c.args.disk.now) (m c.remove_all.new.disk) (m c.remove_folder.new.self) (c.in_ok-remove_all.ensures.kinds honest)
    (stays_removing _ _ c.as_str.result.now _ c.remove_folder.result (c.remove_folder.ensures.ok honest) (c.remove_folder.ensures.err honest))

pub returns-in_err-remove_all-clause-served : goal.returns-in_err-remove_all-clause-served
returns-in_err-remove_all-clause-served g c honest tidy living unnamed all =
    let state = state_in (g.D.Disk.meaning c.args.disk.now) in
    c.in_err-remove_all.ensures.served honest (subst (All (λ file. IsNoFolder (state (string_bytes file)).now)) (sym c.deref.ensures.value) (files_no_folders living c.args.home.now unnamed state tidy))

pub returns-clause-served : goal.returns-clause-served
returns-clause-served g c honest tidy living unnamed all =
    let m : _ → Meaning = g.D.Disk.meaning in
    let home = c.args.home.now in
    let state = state_in (m c.args.disk.now) in
    let mid = m c.remove_all.new.disk in
    (c.remove_folder.ensures.judged honest).served (home_removable living home unnamed _ (m c.args.disk.now) mid (c.in_ok-remove_all.ensures.removes honest) (tidy_on (m c.args.disk.now) mid (c.in_ok-remove_all.ensures.kinds honest) tidy) all
    (subst (λ l. NamesAreGone (state_in mid) (map string_bytes l)) c.deref.ensures.value (c.in_ok-remove_all.ensures.gone honest)) c.as_str.result.now c.as_str.ensures.value)
    ∙ c.in_ok-remove_all.ensures.served honest (subst (All (λ file. IsNoFolder (state (string_bytes file)).now)) (sym c.deref.ensures.value) (files_no_folders living home unnamed state tidy))
