use Rattle.std.proofs.Common.{[], ◌∷◌, ◌∙◌, ap, lit<, inr, refl}
use Rattle.std.specs.List.{Contains}
use Rattle.fjall_base.specs.Disk.{Meaning, state_in}
use Rattle.fjall_base.proofs.Moments.{runs_on}
use Rattle.fjall_files.specs.Names.{journal_name, table_name}
use Rattle.fjall_manifest.specs.Catalog.{fields, first_catalog}
use Rattle.fjall_meta.specs.Keyspaces.{no_keyspaces}
use Rattle.fjall_meta.specs.Replays.{bare}
use Rattle.fjall_recovery.proofs.Holding.{tree_of}
use Rattle.fjall_recovery.specs.Places.{LiesInTree}
use Rattle.fjall_opening.specs.Opened.{IsRepaired, nothing}
use Rattle.fjall_repair.specs.Sweeps.{no_names, planned}
use Rattle.fjall_repair.proofs.Removals.{stays_missing}
use Rattle.fjall_opening.proofs.Repairing.{finds_still, no_end, nothing_planned, on_ok_then, repaired, stands, root_kept}
use Rattle.fjall_files.proofs.Tidying.{stays_both, tidy_on}
use Rattle.fjall_repair.proofs.SweepServed.{have_all_on}
use Rattle.fjall_opening.proofs.Amid.{held_begun, held_swept, run_amid}
use Rattle.fjall_repair.specs.Plans.{journals_begun}
use Rattle.fjall_opening.proofs.repair.begin_and_sweep.Goals as goal

pub returns-clause-any_moment : goal.returns-clause-any_moment
returns-clause-any_moment g c honest holds back making is =
    let m : _ → Meaning = g.D.Disk.meaning in
    let begun = c.in_ok-begin.ensures.ok honest making holds.now in
    runs_on (m c.args.disk.now) (m c.begin.new.disk) (m c.sweep.new.disk) _ (c.in_ok-begin.ensures.any_moment honest making back)
    (stands nothing (m c.begin.new.disk) (m c.sweep.new.disk) c.args.plan.now _ begun.j begun.root begun.later begun.batches begun.tree (nothing_planned c.args.plan.now is) (c.sweep.ensures.removes honest))

pub returns-clause-ok : goal.returns-clause-ok
returns-clause-ok g c honest holds making is finds =
    let m : _ → Meaning = g.D.Disk.meaning in
    let active = c.args.making.now.active in
    let begun = c.in_ok-begin.ensures.ok honest making holds.now in
    let still = finds_still (state_in (m c.args.disk.now)) (state_in (m c.begin.new.disk)) no_names _ (λ n small. c.in_ok-begin.ensures.tables honest making 0 n (lit< tt) small) finds in
    on_ok_then c.sweep.result (LiesInTree (state_in (m c.sweep.new.disk)) (fields first_catalog ∷ []) (tree_of nothing)) (IsRepaired (state_in (m c.sweep.new.disk)) nothing (journals_begun c.args.making.now) (journal_name active) 0)
    (repaired nothing (m c.begin.new.disk) (m c.sweep.new.disk) c.args.plan.now (fields first_catalog ∷ []) begun.j begun.root begun.later begun.batches begun.tree (nothing_planned c.args.plan.now is) (c.sweep.ensures.removes honest) (journal_name active) 0 (journals_begun c.args.making.now) (ap journal_name begun.active_is) (no_end begun.j begun.batches) begun.journals)
    (c.sweep.ensures.ok honest (fields first_catalog ∷ []) (tree_of nothing) (nothing_planned c.args.plan.now is) begun.tree still)

pub returns-clause-kinds : goal.returns-clause-kinds
returns-clause-kinds g c honest making =
    let m : _ → Meaning = g.D.Disk.meaning in
    stays_both (m c.args.disk.now) (m c.begin.new.disk) (m c.sweep.new.disk) (c.in_ok-begin.ensures.kinds honest making) (c.sweep.ensures.kinds honest)

pub returns-in_err-begin-clause-served : goal.returns-in_err-begin-clause-served
returns-in_err-begin-clause-served g c honest tidy making is all = c.in_err-begin.ensures.served honest tidy making

pub returns-clause-served : goal.returns-clause-served
returns-clause-served g c honest tidy making is all =
    let m : _ → Meaning = g.D.Disk.meaning in
    let begun = c.in_ok-begin.ensures in
    let on = tidy_on (m c.args.disk.now) (m c.begin.new.disk) (begun.kinds honest making) tidy in
    c.sweep.ensures.served honest on no_names [] is (have_all_on [] c.args.plan.now.homes.items (state_in (m c.args.disk.now)) (state_in (m c.begin.new.disk)) on (record {
      current = λ id some small dead. begun.homes honest making id some small;
      tables = begun.tables honest making;
    }) is.homes all)
    ∙ begun.served honest tidy making

pub returns-in_err-begin-clause-amid : goal.returns-in_err-begin-clause-amid
returns-in_err-begin-clause-amid g c honest unfinished making is base pending holds =
    let m : _ → Meaning = g.D.Disk.meaning in
    run_amid (m c.args.disk.now) (m c.args.disk.now) (m c.begin.new.disk) (bare no_keyspaces) base pending holds (inr (unfinished, refl)) (c.in_err-begin.ensures.any_moment honest making (holds.back unfinished))

pub returns-clause-amid : goal.returns-clause-amid
returns-clause-amid g c honest unfinished making is base pending holds =
    let m : _ → Meaning = g.D.Disk.meaning in
    let begun = c.in_ok-begin.ensures.ok honest making unfinished in
    run_amid (m c.args.disk.now) (m c.args.disk.now) (m c.sweep.new.disk) (bare no_keyspaces) base pending holds (inr (unfinished, refl))
    (runs_on (m c.args.disk.now) (m c.begin.new.disk) (m c.sweep.new.disk) _ (c.in_ok-begin.ensures.any_moment honest making (holds.back unfinished))
    (stands nothing (m c.begin.new.disk) (m c.sweep.new.disk) c.args.plan.now _ begun.j begun.root begun.later begun.batches begun.tree (nothing_planned c.args.plan.now is) (c.sweep.ensures.removes honest)))

pub returns-clause-repaired : goal.returns-clause-repaired
returns-clause-repaired g c honest unfinished making is finds =
    let m : _ → Meaning = g.D.Disk.meaning in
    let active = c.args.making.now.active in
    let begun = c.in_ok-begin.ensures.ok honest making unfinished in
    let still = finds_still (state_in (m c.args.disk.now)) (state_in (m c.begin.new.disk)) no_names _ (λ n small. c.in_ok-begin.ensures.tables honest making 0 n (lit< tt) small) finds in
    on_ok_then c.sweep.result (LiesInTree (state_in (m c.sweep.new.disk)) (fields first_catalog ∷ []) (tree_of nothing)) (IsRepaired (state_in (m c.sweep.new.disk)) nothing (journals_begun c.args.making.now) (journal_name active) 0)
    (repaired nothing (m c.begin.new.disk) (m c.sweep.new.disk) c.args.plan.now (fields first_catalog ∷ []) begun.j begun.root begun.later begun.batches begun.tree (nothing_planned c.args.plan.now is) (c.sweep.ensures.removes honest) (journal_name active) 0 (journals_begun c.args.making.now) (ap journal_name begun.active_is) (no_end begun.j begun.batches) begun.journals)
    (c.sweep.ensures.ok honest (fields first_catalog ∷ []) (tree_of nothing) (nothing_planned c.args.plan.now is) begun.tree still)

pub returns-in_err-begin-clause-held : goal.returns-in_err-begin-clause-held
returns-in_err-begin-clause-held g c honest unfinished making is base pending holds =
    let m : _ → Meaning = g.D.Disk.meaning in
    let back = holds.back unfinished in
    held_begun (m c.args.disk.now) (m c.begin.new.disk) base pending (g.met.D.Disk.housed c.begin.new.disk honest)
    (run_amid (m c.args.disk.now) (m c.args.disk.now) (m c.begin.new.disk) (bare no_keyspaces) base pending holds (inr (unfinished, refl)) (c.in_err-begin.ensures.any_moment honest making back))
    (c.in_err-begin.ensures.back honest making back) (c.in_err-begin.ensures.journal honest making back)

pub returns-clause-held : goal.returns-clause-held
returns-clause-held g c honest unfinished making is base pending holds =
    let m : _ → Meaning = g.D.Disk.meaning in
    let begun = c.in_ok-begin.ensures.ok honest making unfinished in
    held_swept (m c.args.disk.now) (m c.begin.new.disk) (m c.sweep.new.disk) base pending (g.met.D.Disk.housed c.sweep.new.disk honest)
    (run_amid (m c.args.disk.now) (m c.args.disk.now) (m c.sweep.new.disk) (bare no_keyspaces) base pending holds (inr (unfinished, refl))
    (runs_on (m c.args.disk.now) (m c.begin.new.disk) (m c.sweep.new.disk) _ (c.in_ok-begin.ensures.any_moment honest making (holds.back unfinished))
    (stands nothing (m c.begin.new.disk) (m c.sweep.new.disk) c.args.plan.now _ begun.j begun.root begun.later begun.batches begun.tree (nothing_planned c.args.plan.now is) (c.sweep.ensures.removes honest))))
    begun.j (root_kept nothing (m c.begin.new.disk) (m c.sweep.new.disk) c.args.plan.now _ begun.j begun.root begun.later begun.batches begun.tree (nothing_planned c.args.plan.now is) (c.sweep.ensures.removes honest))

pub returns-in_err-begin-clause-tables : goal.returns-in_err-begin-clause-tables
returns-in_err-begin-clause-tables g c honest making id n fits small missing = c.in_err-begin.ensures.tables honest making id n fits small ∙ missing

pub returns-clause-tables : goal.returns-clause-tables
returns-clause-tables g c honest making id n fits small missing =
    let m : _ → Meaning = g.D.Disk.meaning in
    stays_missing (Contains (planned c.args.plan.now)) (m c.begin.new.disk) (m c.sweep.new.disk) (table_name id n) (c.sweep.ensures.removes honest) (c.in_ok-begin.ensures.tables honest making id n fits small ∙ missing)
