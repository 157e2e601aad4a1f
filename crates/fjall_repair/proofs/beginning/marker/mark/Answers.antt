use Rattle.std.proofs.Common.{◌≡◌, List, ℕ, [], ◌∷◌, codes, true, inl, refl, sym, subst, ◌∙◌, ap}
use Rattle.fjall_base.specs.Disk.{File, Meaning, SyncFolder, Took, state_in, Place}
use Rattle.fjall_base.proofs.Moments.{weaken}
use Rattle.fjall_base.specs.declared.error.FormatVersion.TheVariants.{V3}
use Rattle.fjall_files.specs.Marker.{header}
use Rattle.fjall_meta.specs.Keyspaces.{no_keyspaces}
use Rattle.fjall_meta.specs.Replays.{bare}
use Rattle.fjall_recovery.specs.Folders.{ImageStandsFor}
use Rattle.fjall_repair.specs.Making.{CanHold}
use Rattle.fjall_repair.specs.Plans.{IsFound}
use Rattle.fjall_repair.proofs.Holding.{marker_holds}
use Rattle.fjall_repair.proofs.Marking.{IsMarking, begun, marking_moments, settled_moments, stands_for, stays_tables, tables_kept}
use Rattle.fjall_repair.proofs.Trees.{on_ok_as}
use Rattle.fjall_repair.proofs.Backs.{active_there, marking_back, older_stands, settled_older, settled_elsewhere}
use Rattle.fjall_base.proofs.States.{differs}
use Rattle.fjall_files.specs.Texts.{text_in}
use Rattle.fjall_repair.proofs.Moments.{elsewhere, goes_settled}
use Rattle.fjall_repair.proofs.Standing.{kept_more}
use Rattle.fjall_files.proofs.Tidying.{stays_both as tidy_both, stays_settling}
use Rattle.fjall_files.proofs.Fitting.{fits_version}
use Rattle.fjall_files.proofs.Serving.{can_make_marker}
use Rattle.fjall_repair.proofs.BeginServed.{homes_at, homes_both, homes_settled, marker_no_home, marker_some}
use Rattle.fjall_repair.proofs.beginning.marker.mark.Goals as goal

pub returns-in_err-complete_file-clause-any_moment : goal.returns-in_err-complete_file-clause-any_moment
returns-in_err-complete_file-clause-any_moment g c honest is found kept sealed active awaits =
    let m : _ → Meaning = g.D.Disk.meaning in
    let old = m c.args.disk.now in
    let new = m c.complete_file.new.disk in
    let can = subst (λ (l : List ℕ). CanHold true (codes "version") l) (sym is) marker_holds in
    let here = subst (λ (l : List ℕ). IsFound c.args.found l (text_in (state_in old (codes "version")).now)) (sym is) found in
    weaken old new (IsMarking (state_in old)) (λ image. ImageStandsFor image (bare no_keyspaces))
    (marking_moments old kept new (c.in_err-complete_file.ensures.goes honest true can here) (c.in_err-complete_file.ensures.stays honest))
    (λ image marking. stands_for (state_in old) sealed active image awaits marking)

pub returns-in_err-complete_file-clause-tables : goal.returns-in_err-complete_file-clause-tables
returns-in_err-complete_file-clause-tables g c honest =
    let m : _ → Meaning = g.D.Disk.meaning in
    stays_tables (m c.args.disk.now) (m c.complete_file.new.disk) (c.in_err-complete_file.ensures.stays honest)

pub returns-clause-any_moment : goal.returns-clause-any_moment
returns-clause-any_moment g c honest is found kept sealed active awaits =
    let m : _ → Meaning = g.D.Disk.meaning in
    let old = m c.args.disk.now in
    let mid = m c.complete_file.new.disk in
    let new = m c.sync_folder.new.self in
    let can = subst (λ (l : List ℕ). CanHold true (codes "version") l) (sym is) marker_holds in
    let here = subst (λ (l : List ℕ). IsFound c.args.found l (text_in (state_in old (codes "version")).now)) (sym is) found in
    weaken old new (IsMarking (state_in old)) (λ image. ImageStandsFor image (bare no_keyspaces))
    (settled_moments old kept mid new c.sync_folder.result (c.in_ok-complete_file.ensures.goes honest true can here) (c.in_ok-complete_file.ensures.stays honest) (c.sync_folder.ensures.ok honest) (c.sync_folder.ensures.err honest))
    (λ image marking. stands_for (state_in old) sealed active image awaits marking)

pub returns-clause-tables : goal.returns-clause-tables
returns-clause-tables g c honest =
    let m : _ → Meaning = g.D.Disk.meaning in
    tables_kept (m c.args.disk.now) (m c.complete_file.new.disk) (m c.sync_folder.new.self) c.sync_folder.result (c.in_ok-complete_file.ensures.stays honest) (c.sync_folder.ensures.ok honest) (c.sync_folder.ensures.err honest)

pub returns-clause-begun : goal.returns-clause-begun
returns-clause-begun g c honest is found sealed active awaits =
    let m : _ → Meaning = g.D.Disk.meaning in
    let old = m c.args.disk.now in
    let mid = m c.complete_file.new.disk in
    let new = m c.sync_folder.new.self in
    let here = subst (λ (l : List ℕ). IsFound c.args.found l (text_in (state_in old (codes "version")).now)) (sym is) found in
    let filled : (state_in mid (codes "version")).now ≡ File (header V3) [] = c.in_ok-complete_file.ensures.filled honest here ∙ ap (λ (l : List ℕ). File l []) is in
    on_ok_as c.sync_folder.result (Took mid new (SyncFolder [] ∷ [])) _
    (λ took. begun old mid new sealed active awaits (c.in_ok-complete_file.ensures.stays honest) filled took) (c.sync_folder.ensures.ok honest)

pub returns-in_err-complete_file-clause-back : goal.returns-in_err-complete_file-clause-back
returns-in_err-complete_file-clause-back g c honest is found kept begun =
    let m : _ → Meaning = g.D.Disk.meaning in
    let old = m c.args.disk.now in
    let new = m c.complete_file.new.disk in
    let can = subst (λ (l : List ℕ). CanHold true (codes "version") l) (sym is) marker_holds in
    let here = subst (λ (l : List ℕ). IsFound c.args.found l (text_in (state_in old (codes "version")).now)) (sym is) found in
    marking_back (state_in new) ((c.in_err-complete_file.ensures.goes honest true can here).kept (kept_more (state_in old) kept)) (older_stands (state_in old) (state_in new) kept (c.in_err-complete_file.ensures.older honest)) begun

pub returns-clause-back : goal.returns-clause-back
returns-clause-back g c honest is found kept begun =
    let m : _ → Meaning = g.D.Disk.meaning in
    let old = m c.args.disk.now in
    let mid = m c.complete_file.new.disk in
    let new = m c.sync_folder.new.self in
    let can = subst (λ (l : List ℕ). CanHold true (codes "version") l) (sym is) marker_holds in
    let here = subst (λ (l : List ℕ). IsFound c.args.found l (text_in (state_in old (codes "version")).now)) (sym is) found in
    let one = (c.in_ok-complete_file.ensures.goes honest true can here).kept (kept_more (state_in old) kept) in
    let two = (goes_settled true mid new [] c.sync_folder.result (c.sync_folder.ensures.ok honest) (c.sync_folder.ensures.err honest)).kept one in
    marking_back (state_in new) two
    (settled_older mid new c.sync_folder.result (c.sync_folder.ensures.ok honest) (c.sync_folder.ensures.err honest) (older_stands (state_in old) (state_in mid) kept (c.in_ok-complete_file.ensures.older honest))) begun

pub returns-in_err-complete_file-clause-journal : goal.returns-in_err-complete_file-clause-journal
returns-in_err-complete_file-clause-journal g c honest sealed active awaits =
    let m : _ → Meaning = g.D.Disk.meaning in
    let old = m c.args.disk.now in
    let new = m c.complete_file.new.disk in
    active_there (state_in old) (state_in new) sealed active awaits (λ q not. ap (λ (p : Place). p.now) (elsewhere (codes "version") old new q (differs q (codes "version") not) (c.in_err-complete_file.ensures.stays honest)))

pub returns-clause-journal : goal.returns-clause-journal
returns-clause-journal g c honest sealed active awaits =
    let m : _ → Meaning = g.D.Disk.meaning in
    let old = m c.args.disk.now in
    let mid = m c.complete_file.new.disk in
    let new = m c.sync_folder.new.self in
    active_there (state_in old) (state_in new) sealed active awaits (λ q not. settled_elsewhere mid new c.sync_folder.result (c.sync_folder.ensures.ok honest) (c.sync_folder.ensures.err honest) q
    ∙ ap (λ (p : Place). p.now) (elsewhere (codes "version") old mid q (differs q (codes "version") not) (c.in_ok-complete_file.ensures.stays honest)))

pub returns-in_err-complete_file-clause-kinds : goal.returns-in_err-complete_file-clause-kinds
returns-in_err-complete_file-clause-kinds g c honest = c.in_err-complete_file.ensures.kinds honest (fits_version [] [])

pub returns-in_err-complete_file-clause-homes : goal.returns-in_err-complete_file-clause-homes
returns-in_err-complete_file-clause-homes g c honest =
    let m : _ → Meaning = g.D.Disk.meaning in
    homes_at (codes "version") (m c.args.disk.now) (m c.complete_file.new.disk) marker_no_home (c.in_err-complete_file.ensures.stays honest)

pub returns-in_err-complete_file-clause-served : goal.returns-in_err-complete_file-clause-served
returns-in_err-complete_file-clause-served g c honest tidy is found =
    c.in_err-complete_file.ensures.served honest (can_make_marker (state_in (g.D.Disk.meaning c.args.disk.now)) tidy) (marker_some c.args.header.now is)
    (subst (λ (l : List ℕ). IsFound c.args.found l (text_in (state_in (g.D.Disk.meaning c.args.disk.now) (codes "version")).now)) (sym is) found)

pub returns-clause-kinds : goal.returns-clause-kinds
returns-clause-kinds g c honest =
    let m : _ → Meaning = g.D.Disk.meaning in
    tidy_both (m c.args.disk.now) (m c.complete_file.new.disk) (m c.sync_folder.new.self) (c.in_ok-complete_file.ensures.kinds honest (fits_version [] []))
    (stays_settling _ _ [] c.sync_folder.result (c.sync_folder.ensures.ok honest) (c.sync_folder.ensures.err honest))

pub returns-clause-homes : goal.returns-clause-homes
returns-clause-homes g c honest =
    let m : _ → Meaning = g.D.Disk.meaning in
    homes_both (state_in (m c.args.disk.now)) (state_in (m c.complete_file.new.disk)) (state_in (m c.sync_folder.new.self))
    (homes_at (codes "version") (m c.args.disk.now) (m c.complete_file.new.disk) marker_no_home (c.in_ok-complete_file.ensures.stays honest))
    (homes_settled [] (m c.complete_file.new.disk) (m c.sync_folder.new.self) c.sync_folder.result (c.sync_folder.ensures.ok honest) (c.sync_folder.ensures.err honest))

pub returns-clause-served : goal.returns-clause-served
returns-clause-served g c honest tidy is found =
    (c.sync_folder.ensures.judged honest).served (inl refl)
    ∙ c.in_ok-complete_file.ensures.served honest (can_make_marker (state_in (g.D.Disk.meaning c.args.disk.now)) tidy) (marker_some c.args.header.now is)
    (subst (λ (l : List ℕ). IsFound c.args.found l (text_in (state_in (g.D.Disk.meaning c.args.disk.now) (codes "version")).now)) (sym is) found)
