use Rattle.std.proofs.Common.{◌∙◌, inl, refl, get_or}
use Rattle.std.specs.List.{Contains}
use Rattle.fjall_base.specs.Disk.{Meaning, state_in, standing}
use Rattle.fjall_base.proofs.Moments.{runs_on}
use Rattle.std.specs.Prelude.{string_bytes}
use Rattle.fjall_recovery.specs.Folders.{store_of_contents}
use Rattle.fjall_files.specs.Calls.{seen}
use Rattle.fjall_files.specs.Names.{table_name}
use Rattle.fjall_recovery.proofs.Holding.{tree_of}
use Rattle.fjall_recovery.specs.Places.{LiesInTree}
use Rattle.fjall_opening.specs.Opened.{IsRepaired}
use Rattle.fjall_repair.specs.Sweeps.{names_in, planned}
use Rattle.fjall_repair.proofs.Removals.{stays_missing}
use Rattle.fjall_opening.proofs.Keeping.{keeps_named}
use Rattle.fjall_opening.proofs.Repairing.{finds_of, finds_still, on_ok_then, plan_of, repaired, root_kept, sound_amid, stands}
use Rattle.fjall_files.proofs.Tidying.{stays_both, tidy_on}
use Rattle.fjall_repair.proofs.SweepServed.{have_all_on}
use Rattle.fjall_opening.proofs.Amid.{held_swept, run_amid}
use Rattle.fjall_repair.specs.Steps.{opened}
use Rattle.fjall_opening.proofs.repair.mend_and_sweep.Goals as goal

pub returns-in_err-mend-clause-any_moment : goal.returns-in_err-mend-clause-any_moment
returns-in_err-mend-clause-any_moment g c honest found contents read shows holds mending is = c.in_err-mend.ensures.any_moment honest found contents read shows mending holds

pub returns-clause-any_moment : goal.returns-clause-any_moment
returns-clause-any_moment g c honest found contents read shows holds mending is =
    let m : _ → Meaning = g.D.Disk.meaning in
    let mended = c.in_ok-mend.ensures.ok honest found contents read shows mending holds in
    let plan = plan_of (seen (m c.args.disk.now)) found contents c.args.plan.now read shows is in
    runs_on (m c.args.disk.now) (m c.mend.new.disk) (m c.sweep.new.disk) _ (c.in_ok-mend.ensures.any_moment honest found contents read shows mending holds)
    (stands contents (m c.mend.new.disk) (m c.sweep.new.disk) c.args.plan.now mended.records mended.j mended.root mended.later mended.batches mended.tree plan (c.sweep.ensures.removes honest))

pub returns-clause-ok : goal.returns-clause-ok
returns-clause-ok g c honest found contents read shows holds mending is finds =
    let m : _ → Meaning = g.D.Disk.meaning in
    let active = string_bytes c.args.mending.now.active in
    let mended = c.in_ok-mend.ensures.ok honest found contents read shows mending holds in
    let plan = plan_of (seen (m c.args.disk.now)) found contents c.args.plan.now read shows is in
    let still = finds_still (state_in (m c.args.disk.now)) (state_in (m c.mend.new.disk)) (names_in (tree_of contents)) _ (λ n small. c.in_ok-mend.ensures.tables honest _ found mending 0 n) (finds_of (state_in (m c.args.disk.now)) found contents _ shows finds) in
    on_ok_then c.sweep.result (LiesInTree (state_in (m c.sweep.new.disk)) mended.records (tree_of contents)) (IsRepaired (state_in (m c.sweep.new.disk)) contents (opened contents.journals) active found.journals.end)
    (repaired contents (m c.mend.new.disk) (m c.sweep.new.disk) c.args.plan.now mended.records mended.j mended.root mended.later mended.batches mended.tree plan (c.sweep.ensures.removes honest) active found.journals.end (opened contents.journals) mended.active_is mended.end mended.journals)
    (c.sweep.ensures.ok honest mended.records (tree_of contents) plan mended.tree still)

pub returns-clause-kinds : goal.returns-clause-kinds
returns-clause-kinds g c honest found read mending =
    let m : _ → Meaning = g.D.Disk.meaning in
    stays_both (m c.args.disk.now) (m c.mend.new.disk) (m c.sweep.new.disk) (c.in_ok-mend.ensures.kinds honest found read mending) (c.sweep.ensures.kinds honest)

pub returns-in_err-mend-clause-served : goal.returns-in_err-mend-clause-served
returns-in_err-mend-clause-served g c honest tidy found contents read shows sound mending is all = c.in_err-mend.ensures.served honest tidy found contents read shows sound mending

pub returns-clause-served : goal.returns-clause-served
returns-clause-served g c honest tidy found contents read shows sound mending is all =
    let m : _ → Meaning = g.D.Disk.meaning in
    let mended = c.in_ok-mend.ensures in
    let living = found.catalog.keyspaces.living in
    let on = tidy_on (m c.args.disk.now) (m c.mend.new.disk) (mended.kinds honest found read mending) tidy in
    c.sweep.ensures.served honest on _ living is (have_all_on living c.args.plan.now.homes.items (state_in (m c.args.disk.now)) (state_in (m c.mend.new.disk)) on (record {
      current = mended.homes honest (standing (state_in (m c.args.disk.now))) found read mending;
      tables = λ id n fits small. mended.tables honest (standing (state_in (m c.args.disk.now))) found mending id n;
    }) is.homes all)
    ∙ mended.served honest tidy found contents read shows sound mending

pub returns-in_err-mend-clause-amid : goal.returns-in_err-mend-clause-amid
returns-in_err-mend-clause-amid g c honest found contents read shows openable mending is base pending holds = c.in_err-mend.ensures.amid honest found contents read shows openable mending base pending holds

pub returns-in_err-mend-clause-held : goal.returns-in_err-mend-clause-held
returns-in_err-mend-clause-held g c honest found contents read shows openable mending is base pending holds = c.in_err-mend.ensures.held honest found contents read shows openable mending base pending holds

pub returns-clause-amid : goal.returns-clause-amid
returns-clause-amid g c honest found contents read shows openable mending is base pending holds =
    let m : _ → Meaning = g.D.Disk.meaning in
    let (sound, is_sound, tells) = sound_amid (seen (m c.args.disk.now)) found contents base pending shows openable holds.now in
    let mended = c.in_ok-mend.ensures.mended honest found sound read tells is_sound mending base pending holds in
    let plan = plan_of (seen (m c.args.disk.now)) found sound c.args.plan.now read tells is in
    runs_on (m c.args.disk.now) (m c.mend.new.disk) (m c.sweep.new.disk) _ (c.in_ok-mend.ensures.amid honest found contents read shows openable mending base pending holds)
    (run_amid (m c.args.disk.now) (m c.mend.new.disk) (m c.sweep.new.disk) (store_of_contents sound) base pending holds (inl (sound, is_sound, refl))
    (stands sound (m c.mend.new.disk) (m c.sweep.new.disk) c.args.plan.now mended.records mended.j mended.root mended.later mended.batches mended.tree plan (c.sweep.ensures.removes honest)))

pub returns-clause-held : goal.returns-clause-held
returns-clause-held g c honest found contents read shows openable mending is base pending holds =
    let m : _ → Meaning = g.D.Disk.meaning in
    let (sound, is_sound, tells) = sound_amid (seen (m c.args.disk.now)) found contents base pending shows openable holds.now in
    let mended = c.in_ok-mend.ensures.mended honest found sound read tells is_sound mending base pending holds in
    let plan = plan_of (seen (m c.args.disk.now)) found sound c.args.plan.now read tells is in
    held_swept (m c.args.disk.now) (m c.mend.new.disk) (m c.sweep.new.disk) base pending (g.met.D.Disk.housed c.sweep.new.disk honest)
    (runs_on (m c.args.disk.now) (m c.mend.new.disk) (m c.sweep.new.disk) _ (c.in_ok-mend.ensures.amid honest found contents read shows openable mending base pending holds)
    (run_amid (m c.args.disk.now) (m c.mend.new.disk) (m c.sweep.new.disk) (store_of_contents sound) base pending holds (inl (sound, is_sound, refl))
    (stands sound (m c.mend.new.disk) (m c.sweep.new.disk) c.args.plan.now mended.records mended.j mended.root mended.later mended.batches mended.tree plan (c.sweep.ensures.removes honest))))
    mended.j (root_kept sound (m c.mend.new.disk) (m c.sweep.new.disk) c.args.plan.now mended.records mended.j mended.root mended.later mended.batches mended.tree plan (c.sweep.ensures.removes honest))

pub returns-clause-repaired : goal.returns-clause-repaired
returns-clause-repaired g c honest found contents read shows sound mending is base pending holds finds =
    let m : _ → Meaning = g.D.Disk.meaning in
    let active = string_bytes c.args.mending.now.active in
    let mended = c.in_ok-mend.ensures.mended honest found contents read shows sound mending base pending holds in
    let plan = plan_of (seen (m c.args.disk.now)) found contents c.args.plan.now read shows is in
    let still = finds_still (state_in (m c.args.disk.now)) (state_in (m c.mend.new.disk)) (names_in (tree_of contents)) _ (λ n small. c.in_ok-mend.ensures.tables honest _ found mending 0 n) (finds_of (state_in (m c.args.disk.now)) found contents _ shows finds) in
    on_ok_then c.sweep.result (LiesInTree (state_in (m c.sweep.new.disk)) mended.records (tree_of contents)) (IsRepaired (state_in (m c.sweep.new.disk)) contents (opened contents.journals) active found.journals.end)
    (repaired contents (m c.mend.new.disk) (m c.sweep.new.disk) c.args.plan.now mended.records mended.j mended.root mended.later mended.batches mended.tree plan (c.sweep.ensures.removes honest) active found.journals.end (opened contents.journals) mended.active_is mended.end mended.journals)
    (c.sweep.ensures.ok honest mended.records (tree_of contents) plan mended.tree still)

pub returns-in_err-mend-clause-tables : goal.returns-in_err-mend-clause-tables
returns-in_err-mend-clause-tables g c honest found mending id n fits small missing = c.in_err-mend.ensures.tables honest _ found mending id n ∙ missing

pub returns-clause-tables : goal.returns-clause-tables
returns-clause-tables g c honest found mending id n fits small missing =
    let m : _ → Meaning = g.D.Disk.meaning in
    stays_missing (Contains (planned c.args.plan.now)) (m c.mend.new.disk) (m c.sweep.new.disk) (table_name id n) (c.sweep.ensures.removes honest) (c.in_ok-mend.ensures.tables honest _ found mending id n ∙ missing)

pub returns-in_err-mend-clause-spared : goal.returns-in_err-mend-clause-spared
returns-in_err-mend-clause-spared g c honest found contents read shows openable mending is id h at k d lt = c.in_err-mend.ensures.tables honest _ found mending id (get_or h.last.tables k d).id

pub returns-clause-spared : goal.returns-clause-spared
returns-clause-spared g c honest found contents read shows openable mending is =
    let m : _ → Meaning = g.D.Disk.meaning in
    let plan = plan_of (seen (m c.args.disk.now)) found contents c.args.plan.now read shows is in
    keeps_named (seen (m c.args.disk.now)) contents c.args.plan.now (m c.args.disk.now) (m c.mend.new.disk) (m c.sweep.new.disk) openable plan
    (λ id n. c.in_ok-mend.ensures.tables honest _ found mending id n) (c.sweep.ensures.removes honest)
