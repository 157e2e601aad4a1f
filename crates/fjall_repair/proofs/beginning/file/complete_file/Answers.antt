use Rattle.std.proofs.Common.{[], Ok, ap, refl, subst, ◌∙◌, inl}
use Rattle.fjall_base.specs.Disk.{DiskEntry, File, Meaning, state_in}
use Rattle.fjall_files.specs.Texts.{text_in}
use Rattle.fjall_repair.specs.Plans.{IsFound}
use Rattle.fjall_repair.proofs.Filled.{emptied, made_text, synced_whole}
use Rattle.fjall_repair.proofs.Moments.{either_cut, either_sync, goes_both, goes_cut, goes_made, goes_none, goes_synced, stays_both, stays_cut, stays_made, stays_none, stays_synced}
use Rattle.fjall_repair.proofs.Standing.{empty_stands}
use Rattle.fjall_repair.proofs.Backs.{cut_older, made_older, none_older, older_then, sync_older}
use Rattle.fjall_files.proofs.Tidying.{stays_both as tidy_both, stays_cut as tidy_cut, stays_cutting, stays_making, stays_none as tidy_none, stays_syncing}
use Rattle.fjall_repair.proofs.BeginServed.{empty_file_is, other_long, whole_file}
use Rattle.fjall_repair.proofs.beginning.file.complete_file.Goals as goal

pub returns-in-Whole-clause-goes : goal.returns-in-Whole-clause-goes
returns-in-Whole-clause-goes g c honest marking can is =
    goes_synced marking _ _ c.args.name.now can.no_table (either_sync c.args.name.now _ _ c.sync.result (c.sync.ensures.ok honest) (c.sync.ensures.err honest))

pub returns-in-Whole-clause-stays : goal.returns-in-Whole-clause-stays
returns-in-Whole-clause-stays g c honest = stays_synced c.args.name.now _ _ (either_sync c.args.name.now _ _ c.sync.result (c.sync.ensures.ok honest) (c.sync.ensures.err honest))

pub returns-in-Whole-clause-filled : goal.returns-in-Whole-clause-filled
returns-in-Whole-clause-filled g c honest is =
    synced_whole c.args.name.now _ _ c.args.bytes.now c.sync.result (subst (λ found. IsFound found c.args.bytes.now (text_in (state_in (g.D.Disk.meaning c.args.disk.now) c.args.name.now).now)) c.in-Whole.is is) (c.sync.ensures.file honest) (c.sync.ensures.ok honest)

pub returns-in_err-create-in-Nothing-clause-goes : goal.returns-in_err-create-in-Nothing-clause-goes
returns-in_err-create-in-Nothing-clause-goes g c honest marking can is = goes_none marking _ _ (c.in_err-create-in-Nothing.ensures.err honest)

pub returns-in_err-create-in-Nothing-clause-stays : goal.returns-in_err-create-in-Nothing-clause-stays
returns-in_err-create-in-Nothing-clause-stays g c honest = stays_none c.args.name.now _ _ (c.in_err-create-in-Nothing.ensures.err honest)

pub returns-in_err-cut_sync-in-Other-clause-goes : goal.returns-in_err-cut_sync-in-Other-clause-goes
returns-in_err-cut_sync-in-Other-clause-goes g c honest marking can is = goes_cut marking _ _ c.args.name.now can.no_table 0 (c.in_err-cut_sync-in-Other.ensures.err honest)

pub returns-in_err-cut_sync-in-Other-clause-stays : goal.returns-in_err-cut_sync-in-Other-clause-stays
returns-in_err-cut_sync-in-Other-clause-stays g c honest = stays_cut c.args.name.now _ _ 0 (c.in_err-cut_sync-in-Other.ensures.err honest)

pub returns-in_ok-create-in-Nothing-clause-goes : goal.returns-in_ok-create-in-Nothing-clause-goes
returns-in_ok-create-in-Nothing-clause-goes g c honest marking can is =
    let m : _ → Meaning = g.D.Disk.meaning in
    let name = c.args.name.now in
    let old = m c.args.disk.now in
    let nothing = subst (λ found. IsFound found c.args.bytes.now (text_in (state_in old name).now)) c.in-Nothing.is is in
    let took = c.in_ok-create-in-Nothing.ensures.ok honest in
    goes_both marking old (m c.create.new.self) (m c.fill.new.disk)
    (goes_made marking _ _ name can.no_table (File [] []) _ (empty_stands marking name c.args.bytes.now can) took)
    (c.fill.ensures.goes honest marking can (made_text name old (m c.create.new.self) (state_in old name).now refl nothing took))

pub returns-in_ok-create-in-Nothing-clause-stays : goal.returns-in_ok-create-in-Nothing-clause-stays
returns-in_ok-create-in-Nothing-clause-stays g c honest =
    let m : _ → Meaning = g.D.Disk.meaning in
    stays_both c.args.name.now (m c.args.disk.now) (m c.create.new.self) (m c.fill.new.disk)
    (stays_made c.args.name.now _ _ (File [] []) _ (c.in_ok-create-in-Nothing.ensures.ok honest)) (c.fill.ensures.stays honest)

pub returns-in_ok-create-in-Nothing-clause-filled : goal.returns-in_ok-create-in-Nothing-clause-filled
returns-in_ok-create-in-Nothing-clause-filled g c honest is =
    let m : _ → Meaning = g.D.Disk.meaning in
    let name = c.args.name.now in
    let old = m c.args.disk.now in
    let nothing = subst (λ found. IsFound found c.args.bytes.now (text_in (state_in old name).now)) c.in-Nothing.is is in
    c.fill.ensures.filled honest (made_text name old (m c.create.new.self) (state_in old name).now refl nothing (c.in_ok-create-in-Nothing.ensures.ok honest))

pub returns-in_ok-cut_sync-in-Other-clause-goes : goal.returns-in_ok-cut_sync-in-Other-clause-goes
returns-in_ok-cut_sync-in-Other-clause-goes g c honest marking can is =
    let m : _ → Meaning = g.D.Disk.meaning in
    let name = c.args.name.now in
    let cut = c.in_ok-cut_sync-in-Other.ensures in
    goes_both marking (m c.args.disk.now) (m c.cut_sync.new.self) (m c.fill-in-Other.new.disk)
    (goes_cut marking _ _ name can.no_table 0 (either_cut name 0 _ _ (Ok tt) (cut.ok honest) tt))
    (c.fill-in-Other.ensures.goes honest marking can (ap (λ (e : DiskEntry). text_in e) (emptied name (m c.args.disk.now) (m c.cut_sync.new.self) (Ok tt) (cut.long honest) (cut.ok honest))))

pub returns-in_ok-cut_sync-in-Other-clause-stays : goal.returns-in_ok-cut_sync-in-Other-clause-stays
returns-in_ok-cut_sync-in-Other-clause-stays g c honest =
    let m : _ → Meaning = g.D.Disk.meaning in
    stays_both c.args.name.now (m c.args.disk.now) (m c.cut_sync.new.self) (m c.fill-in-Other.new.disk)
    (stays_cut c.args.name.now _ _ 0 (either_cut c.args.name.now 0 _ _ (Ok tt) (c.in_ok-cut_sync-in-Other.ensures.ok honest) tt)) (c.fill-in-Other.ensures.stays honest)

pub returns-in_ok-cut_sync-in-Other-clause-filled : goal.returns-in_ok-cut_sync-in-Other-clause-filled
returns-in_ok-cut_sync-in-Other-clause-filled g c honest is =
    let m : _ → Meaning = g.D.Disk.meaning in
    let name = c.args.name.now in
    let cut = c.in_ok-cut_sync-in-Other.ensures in
    c.fill-in-Other.ensures.filled honest (ap (λ (e : DiskEntry). text_in e) (emptied name (m c.args.disk.now) (m c.cut_sync.new.self) (Ok tt) (cut.long honest) (cut.ok honest)))

pub returns-in-Whole-clause-older : goal.returns-in-Whole-clause-older
returns-in-Whole-clause-older g c honest = inl (sync_older _ _ c.args.name.now (either_sync c.args.name.now _ _ c.sync.result (c.sync.ensures.ok honest) (c.sync.ensures.err honest)))

pub returns-in_err-create-in-Nothing-clause-older : goal.returns-in_err-create-in-Nothing-clause-older
returns-in_err-create-in-Nothing-clause-older g c honest = inl (none_older _ _ c.args.name.now (c.in_err-create-in-Nothing.ensures.err honest))

pub returns-in_err-cut_sync-in-Other-clause-older : goal.returns-in_err-cut_sync-in-Other-clause-older
returns-in_err-cut_sync-in-Other-clause-older g c honest = inl (cut_older _ _ c.args.name.now 0 (c.in_err-cut_sync-in-Other.ensures.err honest))

pub returns-in_ok-create-in-Nothing-clause-older : goal.returns-in_ok-create-in-Nothing-clause-older
returns-in_ok-create-in-Nothing-clause-older g c honest =
    let m : _ → Meaning = g.D.Disk.meaning in
    older_then (state_in (m c.args.disk.now)) (state_in (m c.create.new.self)) (state_in (m c.fill.new.disk)) c.args.name.now
    (made_older (m c.args.disk.now) (m c.create.new.self) c.args.name.now (File [] []) (c.in_ok-create-in-Nothing.ensures.ok honest)) (c.fill.ensures.older honest)

pub returns-in_ok-cut_sync-in-Other-clause-older : goal.returns-in_ok-cut_sync-in-Other-clause-older
returns-in_ok-cut_sync-in-Other-clause-older g c honest =
    let m : _ → Meaning = g.D.Disk.meaning in
    inl (c.fill-in-Other.ensures.older honest ∙ cut_older (m c.args.disk.now) (m c.cut_sync.new.self) c.args.name.now 0 (either_cut c.args.name.now 0 _ _ (Ok tt) (c.in_ok-cut_sync-in-Other.ensures.ok honest) tt))

pub returns-in-Whole-clause-kinds : goal.returns-in-Whole-clause-kinds
returns-in-Whole-clause-kinds g c honest fits = stays_syncing _ _ c.args.name.now c.sync.result (c.sync.ensures.ok honest) (c.sync.ensures.err honest)

pub returns-in-Whole-clause-served : goal.returns-in-Whole-clause-served
returns-in-Whole-clause-served g c honest can some is =
    let there = (state_in (g.D.Disk.meaning c.args.disk.now) c.args.name.now).now in
    (c.sync.ensures.judged honest).served (whole_file there c.args.bytes.now some (subst (λ found. IsFound found c.args.bytes.now (text_in there)) c.in-Whole.is is))

pub returns-in_err-create-in-Nothing-clause-kinds : goal.returns-in_err-create-in-Nothing-clause-kinds
returns-in_err-create-in-Nothing-clause-kinds g c honest fits = tidy_none _ _ (c.in_err-create-in-Nothing.ensures.err honest)

pub returns-in_err-create-in-Nothing-clause-served : goal.returns-in_err-create-in-Nothing-clause-served
returns-in_err-create-in-Nothing-clause-served g c honest can some is = (c.in_err-create-in-Nothing.ensures.judged honest).served can

pub returns-in_err-cut_sync-in-Other-clause-kinds : goal.returns-in_err-cut_sync-in-Other-clause-kinds
returns-in_err-cut_sync-in-Other-clause-kinds g c honest fits = tidy_cut _ _ c.args.name.now 0 (c.in_err-cut_sync-in-Other.ensures.err honest)

pub returns-in_err-cut_sync-in-Other-clause-served : goal.returns-in_err-cut_sync-in-Other-clause-served
returns-in_err-cut_sync-in-Other-clause-served g c honest can some is =
    let there = (state_in (g.D.Disk.meaning c.args.disk.now) c.args.name.now).now in
    (c.in_err-cut_sync-in-Other.ensures.judged honest).served (other_long there (subst (λ found. IsFound found c.args.bytes.now (text_in there)) c.in-Other.is is))

pub returns-in_ok-create-in-Nothing-clause-kinds : goal.returns-in_ok-create-in-Nothing-clause-kinds
returns-in_ok-create-in-Nothing-clause-kinds g c honest fits =
    let m : _ → Meaning = g.D.Disk.meaning in
    tidy_both (m c.args.disk.now) (m c.create.new.self) (m c.fill.new.disk) (stays_making _ _ c.args.name.now (File [] []) _ fits (c.in_ok-create-in-Nothing.ensures.ok honest)) (c.fill.ensures.kinds honest)

pub returns-in_ok-create-in-Nothing-clause-served : goal.returns-in_ok-create-in-Nothing-clause-served
returns-in_ok-create-in-Nothing-clause-served g c honest can some is =
    c.fill.ensures.served honest (c.in_ok-create-in-Nothing.ensures.file honest) ∙ (c.in_ok-create-in-Nothing.ensures.judged honest).served can

pub returns-in_ok-cut_sync-in-Other-clause-kinds : goal.returns-in_ok-cut_sync-in-Other-clause-kinds
returns-in_ok-cut_sync-in-Other-clause-kinds g c honest fits =
    let m : _ → Meaning = g.D.Disk.meaning in
    tidy_both (m c.args.disk.now) (m c.cut_sync.new.self) (m c.fill-in-Other.new.disk) (stays_cutting _ _ c.args.name.now 0 (Ok tt) (c.in_ok-cut_sync-in-Other.ensures.ok honest) tt) (c.fill-in-Other.ensures.kinds honest)

pub returns-in_ok-cut_sync-in-Other-clause-served : goal.returns-in_ok-cut_sync-in-Other-clause-served
returns-in_ok-cut_sync-in-Other-clause-served g c honest can some is =
    let m : _ → Meaning = g.D.Disk.meaning in
    let name = c.args.name.now in
    let cut = c.in_ok-cut_sync-in-Other.ensures in
    let there = (state_in (m c.args.disk.now) name).now in
    c.fill-in-Other.ensures.served honest (empty_file_is (state_in (m c.cut_sync.new.self) name).now [] (emptied name (m c.args.disk.now) (m c.cut_sync.new.self) (Ok tt) (cut.long honest) (cut.ok honest)))
    ∙ (cut.judged honest).served (other_long there (subst (λ found. IsFound found c.args.bytes.now (text_in there)) c.in-Other.is is))
