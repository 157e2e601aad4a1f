use Rattle.std.proofs.Common.{All, Global, OnOk, String, get_or, map, subst, sym, ◌∙◌}
use Rattle.std.specs.List.{Contains, flat_map}
use Rattle.std.specs.Prelude.{string_bytes}
use Rattle.fjall_base.specs.Disk.{IsNoFolder, Meaning, state_in}
use Rattle.fjall_repair.specs.Sweeps.{HasAll, IsUnnamedHome, NamesAreGone, RemovesNames, home_names}
use Rattle.fjall_repair.proofs.Planned.{spare_run, swept, within_run}
use Rattle.fjall_repair.proofs.Removals as Removals
use Rattle.fjall_repair.proofs.Spared.{spared, spared_run}
use Rattle.fjall_files.proofs.Tidying.{stays_both, tidy_on}
use Rattle.fjall_repair.proofs.SweepServed.{have_all_still, table_no_folder}
use Rattle.fjall_repair.proofs.sweeping.sweep.Goals as goal

pub returns-in_err-remove_all-clause-removes : goal.returns-in_err-remove_all-clause-removes
returns-in_err-remove_all-clause-removes g c honest =
    let m : _ → Meaning = g.D.Disk.meaning in
    let plan = c.args.plan.now in
    Removals.removes_first (map string_bytes plan.tables.items) (flat_map home_names plan.homes.items) (m c.args.disk.now) (m c.remove_all.new.disk) (m c.remove_all.new.disk)
    (subst (λ l. RemovesNames (Contains (map string_bytes l)) (m c.args.disk.now) (m c.remove_all.new.disk)) c.deref.ensures.value (c.in_err-remove_all.ensures.removes honest))

pub returns-in_err-remove_all-clause-within : goal.returns-in_err-remove_all-clause-within
returns-in_err-remove_all-clause-within g c honest t is = within_run _ _ c.args.plan.now _ _ is (returns-in_err-remove_all-clause-removes g c honest)

pub returns-in_err-remove_all-clause-any_moment : goal.returns-in_err-remove_all-clause-any_moment
returns-in_err-remove_all-clause-any_moment g c honest records t is rests =
    spared_run records t _ _ (spare_run _ records t rests c.args.plan.now _ _ is (returns-in_err-remove_all-clause-removes g c honest)) rests

pub returns-in_err-remove_all-clause-rests : goal.returns-in_err-remove_all-clause-rests
returns-in_err-remove_all-clause-rests g c honest records t is rests =
    spared records t _ _ (spare_run _ records t rests c.args.plan.now _ _ is (returns-in_err-remove_all-clause-removes g c honest)) rests

pub returns-clause-removes : goal.returns-clause-removes
returns-clause-removes g c honest =
    let m : _ → Meaning = g.D.Disk.meaning in
    let plan = c.args.plan.now in
    Removals.removes_both (map string_bytes plan.tables.items) (flat_map home_names plan.homes.items) (m c.args.disk.now) (m c.remove_all.new.disk) (m c.remove_homes.new.disk)
    (subst (λ l. RemovesNames (Contains (map string_bytes l)) (m c.args.disk.now) (m c.remove_all.new.disk)) c.deref.ensures.value (c.in_ok-remove_all.ensures.removes honest))
    (subst (λ l. RemovesNames (Contains (flat_map home_names l)) (m c.remove_all.new.disk) (m c.remove_homes.new.disk)) c.deref-2.ensures.value (c.remove_homes.ensures.removes honest))

pub returns-clause-gone : goal.returns-clause-gone
returns-clause-gone g c honest =
    let m : _ → Meaning = g.D.Disk.meaning in
    let plan = c.args.plan.now in
    Removals.gone_both (map string_bytes plan.tables.items) (flat_map home_names plan.homes.items) (m c.args.disk.now) (m c.remove_all.new.disk) (m c.remove_homes.new.disk) c.remove_homes.result
    (subst (λ l. NamesAreGone (state_in (m c.remove_all.new.disk)) (map string_bytes l)) c.deref.ensures.value (c.in_ok-remove_all.ensures.gone honest))
    (subst (λ l. RemovesNames (Contains (flat_map home_names l)) (m c.remove_all.new.disk) (m c.remove_homes.new.disk)) c.deref-2.ensures.value (c.remove_homes.ensures.removes honest))
    (subst (λ l. OnOk c.remove_homes.result (NamesAreGone (state_in (m c.remove_homes.new.disk)) (flat_map home_names l))) c.deref-2.ensures.value (c.remove_homes.ensures.gone honest))

pub returns-clause-within : goal.returns-clause-within
returns-clause-within g c honest t is = within_run _ _ c.args.plan.now _ _ is (returns-clause-removes g c honest)

pub returns-clause-any_moment : goal.returns-clause-any_moment
returns-clause-any_moment g c honest records t is rests =
    spared_run records t _ _ (spare_run _ records t rests c.args.plan.now _ _ is (returns-clause-removes g c honest)) rests

pub returns-clause-rests : goal.returns-clause-rests
returns-clause-rests g c honest records t is rests =
    spared records t _ _ (spare_run _ records t rests c.args.plan.now _ _ is (returns-clause-removes g c honest)) rests

pub returns-clause-ok : goal.returns-clause-ok
returns-clause-ok g c honest records t is rests finds =
    swept _ _ records t c.args.plan.now c.remove_homes.result rests finds is (returns-clause-removes g c honest) (returns-clause-gone g c honest)

pub returns-clause-kinds : goal.returns-clause-kinds
returns-clause-kinds g c honest =
    let m : _ → Meaning = g.D.Disk.meaning in
    stays_both (m c.args.disk.now) (m c.remove_all.new.disk) (m c.remove_homes.new.disk) (c.in_ok-remove_all.ensures.kinds honest) (c.remove_homes.ensures.kinds honest)

pub returns-in_err-remove_all-clause-served : goal.returns-in_err-remove_all-clause-served
returns-in_err-remove_all-clause-served g c honest tidy names living is all =
    let state = state_in (g.D.Disk.meaning c.args.disk.now) in
    c.in_err-remove_all.ensures.served honest (subst (All (λ (name : String Global). IsNoFolder (state (string_bytes name)).now)) (sym c.deref.ensures.value) (λ k d lt. table_no_folder state tidy names living (string_bytes (get_or c.args.plan.now.tables.items k d)) (is.tables k d lt)))

pub returns-clause-served : goal.returns-clause-served
returns-clause-served g c honest tidy names living is all =
    let m : _ → Meaning = g.D.Disk.meaning in
    let state = state_in (m c.args.disk.now) in
    let mid = m c.remove_all.new.disk in
    let homes = c.args.plan.now.homes.items in
    c.remove_homes.ensures.served honest (tidy_on (m c.args.disk.now) mid (c.in_ok-remove_all.ensures.kinds honest) tidy) living (subst (All (IsUnnamedHome living)) (sym c.deref-2.ensures.value) is.homes)
    (subst (All (HasAll (state_in mid))) (sym c.deref-2.ensures.value) (have_all_still _ (m c.args.disk.now) mid (c.in_ok-remove_all.ensures.removes honest) homes all))
    ∙ c.in_ok-remove_all.ensures.served honest (subst (All (λ (name : String Global). IsNoFolder (state (string_bytes name)).now)) (sym c.deref.ensures.value) (λ k d lt. table_no_folder state tidy names living (string_bytes (get_or c.args.plan.now.tables.items k d)) (is.tables k d lt)))
