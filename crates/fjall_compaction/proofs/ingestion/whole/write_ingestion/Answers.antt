use Rattle.std.proofs.Common.{◌⊎◌, inl, inr, ⊎_elim, ◌+◌, length, ◌∙◌, arith, OnOk}
use Rattle.fjall_base.specs.Disk.{IsNoFolder, LeavesOnly, Meaning, state_in}
use Rattle.fjall_base.proofs.Moments.{runs_on, weaken}
use Rattle.fjall_files.specs.Calls.{AllServed}
use Rattle.fjall_files.specs.Names.{keyspace_folder, table_name}
use Rattle.fjall_files.specs.Regions.{Within}
use Rattle.fjall_files.specs.Tidy.{StaysTidy}
use Rattle.fjall_files.proofs.Made.{within_both}
use Rattle.fjall_files.proofs.Tidying.{stays_both}
use Rattle.fjall_compaction.specs.FlushPlans.{HaveFiles}
use Rattle.fjall_recovery.specs.Halves.{HasTree}
use Rattle.fjall_recovery.specs.Places.{LiesInTree}
use Rattle.fjall_compaction.specs.Planned.{HasNoTableFolder, KeepsGiven}
use Rattle.fjall_compaction.specs.Whole.{tree_behind, tree_between}
use Rattle.fjall_compaction.proofs.NoFolders.{no_folder_stays}
use Rattle.fjall_compaction.proofs.Behind as Behind
use Rattle.fjall_compaction.proofs.ingestion.whole.write_ingestion.Goals as goal

-- ---- the flush of memory wasn't written

pub returns-in_err-write_memory-clause-within : goal.returns-in_err-write_memory-clause-within
returns-in_err-write_memory-clause-within g c honest tree id watermark n items last is =
    let m : _ → Meaning = g.D.Disk.meaning in
    Behind.of_memory tree id watermark n items last c.args.planned.now is (λ id last. Within (keyspace_folder id) (m c.args.disk.now) (m c.write_memory.new.disk)) (c.in_err-write_memory.ensures.within honest)

pub returns-in_err-write_memory-clause-any_moment : goal.returns-in_err-write_memory-clause-any_moment
returns-in_err-write_memory-clause-any_moment g c honest tree id watermark n items last is records t h versions lists lies at same follows low beyond =
    let m : _ → Meaning = g.D.Disk.meaning in
    let p = c.args.planned.now in
    let mid = tree_between id tree p.memory.tables.items lists h versions t in
    let next = tree_behind id n items tree p.memory.tables.items p.own.tables.items lists h versions t in
    weaken (m c.args.disk.now) (m c.write_memory.new.disk) (λ image. HasTree image t ⊎ HasTree image mid) (λ image. HasTree image t ⊎ (HasTree image mid ⊎ HasTree image next))
    (Behind.on_memory tree id watermark n items last p is records t h versions lists at same (m c.args.disk.now)
    (λ records t id h mid. LeavesOnly (m c.args.disk.now) (m c.write_memory.new.disk) (λ image. HasTree image t ⊎ HasTree image mid)) (c.in_err-write_memory.ensures.any_moment honest) lies follows)
    (λ image has. ⊎_elim (λ old. inl old) (λ new. inr (inl new)) has)

pub returns-in_err-write_memory-clause-served : goal.returns-in_err-write_memory-clause-served
returns-in_err-write_memory-clause-served g c honest tree id watermark n items last is records t h versions lists lies at same follows low beyond =
    let m : _ → Meaning = g.D.Disk.meaning in
    Behind.on_memory tree id watermark n items last c.args.planned.now is records t h versions lists at same (m c.args.disk.now)
    (λ records t id h mid. HasNoTableFolder (m c.args.disk.now) id → AllServed (m c.args.disk.now) (m c.write_memory.new.disk)) (c.in_err-write_memory.ensures.served honest) lies follows

pub returns-in_err-write_memory-clause-kinds : goal.returns-in_err-write_memory-clause-kinds
returns-in_err-write_memory-clause-kinds g c honest tree id watermark n items last is =
    let m : _ → Meaning = g.D.Disk.meaning in
    Behind.of_memory tree id watermark n items last c.args.planned.now is (λ id last. StaysTidy (m c.args.disk.now) (m c.write_memory.new.disk)) (c.in_err-write_memory.ensures.kinds honest)

pub returns-in_err-write_memory-clause-beside : goal.returns-in_err-write_memory-clause-beside
returns-in_err-write_memory-clause-beside g c honest tree id watermark n items last is =
    let m : _ → Meaning = g.D.Disk.meaning in
    Behind.of_memory tree id watermark n items last c.args.planned.now is (λ id last. KeepsGiven id last.next_table_id (m c.args.disk.now) (m c.write_memory.new.disk))
    (c.in_err-write_memory.ensures.beside honest)

-- ---- the whole call

pub returns-clause-within : goal.returns-clause-within
returns-clause-within g c honest tree id watermark n items last is =
    let m : _ → Meaning = g.D.Disk.meaning in
    let p = c.args.planned.now in
    within_both (keyspace_folder id) (m c.args.disk.now) (m c.write_memory.new.disk) (m c.write_ingest.new.disk)
    (Behind.of_memory tree id watermark n items last p is (λ id last. Within (keyspace_folder id) (m c.args.disk.now) (m c.write_memory.new.disk)) (c.in_ok-write_memory.ensures.within honest))
    (Behind.of_own tree id watermark n items last p is (λ id next. Within (keyspace_folder id) (m c.write_memory.new.disk) (m c.write_ingest.new.disk)) (c.write_ingest.ensures.within honest))

pub returns-clause-any_moment : goal.returns-clause-any_moment
returns-clause-any_moment g c honest tree id watermark n items last is records t h versions lists lies at same follows low beyond =
    let m : _ → Meaning = g.D.Disk.meaning in
    let p = c.args.planned.now in
    let mid = tree_between id tree p.memory.tables.items lists h versions t in
    let next = tree_behind id n items tree p.memory.tables.items p.own.tables.items lists h versions t in
    let lies_mid = Behind.on_memory tree id watermark n items last p is records t h versions lists at same (m c.args.disk.now)
    (λ records t id h mid. LiesInTree (state_in (m c.write_memory.new.disk)) records mid) (c.in_ok-write_memory.ensures.ok honest) lies follows in
    runs_on (m c.args.disk.now) (m c.write_memory.new.disk) (m c.write_ingest.new.disk) (λ image. HasTree image t ⊎ (HasTree image mid ⊎ HasTree image next))
    (weaken (m c.args.disk.now) (m c.write_memory.new.disk) (λ image. HasTree image t ⊎ HasTree image mid) (λ image. HasTree image t ⊎ (HasTree image mid ⊎ HasTree image next))
    (Behind.on_memory tree id watermark n items last p is records t h versions lists at same (m c.args.disk.now)
    (λ records t id h mid. LeavesOnly (m c.args.disk.now) (m c.write_memory.new.disk) (λ image. HasTree image t ⊎ HasTree image mid)) (c.in_ok-write_memory.ensures.any_moment honest) lies follows)
    (λ image has. ⊎_elim (λ old. inl old) (λ new. inr (inl new)) has))
    (weaken (m c.write_memory.new.disk) (m c.write_ingest.new.disk) (λ image. HasTree image mid ⊎ HasTree image next) (λ image. HasTree image t ⊎ (HasTree image mid ⊎ HasTree image next))
    (Behind.on_own tree id watermark n items last p is records t h versions lists at same (m c.write_memory.new.disk)
    (λ records t id h next. LeavesOnly (m c.write_memory.new.disk) (m c.write_ingest.new.disk) (λ image. HasTree image t ⊎ HasTree image next)) (c.write_ingest.ensures.any_moment honest) lies_mid low beyond)
    (λ image has. inr has))

pub returns-clause-ok : goal.returns-clause-ok
returns-clause-ok g c honest tree id watermark n items last is records t h versions lists lies at same follows low beyond =
    let m : _ → Meaning = g.D.Disk.meaning in
    let p = c.args.planned.now in
    let lies_mid = Behind.on_memory tree id watermark n items last p is records t h versions lists at same (m c.args.disk.now)
    (λ records t id h mid. LiesInTree (state_in (m c.write_memory.new.disk)) records mid) (c.in_ok-write_memory.ensures.ok honest) lies follows in
    Behind.on_own tree id watermark n items last p is records t h versions lists at same (m c.write_memory.new.disk)
    (λ records t id h next. OnOk c.write_ingest.result (LiesInTree (state_in (m c.write_ingest.new.disk)) records next)) (c.write_ingest.ensures.ok honest) lies_mid low beyond

pub returns-clause-served : goal.returns-clause-served
returns-clause-served g c honest tree id watermark n items last is records t h versions lists lies at same follows low beyond = λ free.
    let m : _ → Meaning = g.D.Disk.meaning in
    let p = c.args.planned.now in
    let lies_mid = Behind.on_memory tree id watermark n items last p is records t h versions lists at same (m c.args.disk.now)
    (λ records t id h mid. LiesInTree (state_in (m c.write_memory.new.disk)) records mid) (c.in_ok-write_memory.ensures.ok honest) lies follows in
    let stays = Behind.of_memory tree id watermark n items last p is (λ id last. StaysTidy (m c.args.disk.now) (m c.write_memory.new.disk)) (c.in_ok-write_memory.ensures.kinds honest) in
    let free_mid = no_folder_stays id (Behind.small tree id watermark n items last p is) (m c.args.disk.now) (m c.write_memory.new.disk) stays free in
    let first : AllServed (m c.args.disk.now) (m c.write_memory.new.disk) = Behind.on_memory tree id watermark n items last p is records t h versions lists at same (m c.args.disk.now)
    (λ records t id h mid. HasNoTableFolder (m c.args.disk.now) id → AllServed (m c.args.disk.now) (m c.write_memory.new.disk)) (c.in_ok-write_memory.ensures.served honest) lies follows free in
    let second : AllServed (m c.write_memory.new.disk) (m c.write_ingest.new.disk) = Behind.on_own tree id watermark n items last p is records t h versions lists at same (m c.write_memory.new.disk)
    (λ records t id h next. IsNoFolder (state_in (m c.write_memory.new.disk) (table_name id h.last.next_table_id)).now → AllServed (m c.write_memory.new.disk) (m c.write_ingest.new.disk))
    (c.write_ingest.ensures.served honest) lies_mid low beyond (free_mid _ (Behind.next_between tree id watermark n items last p is records t h versions lists at same)) in
    second ∙ first

pub returns-clause-kinds : goal.returns-clause-kinds
returns-clause-kinds g c honest tree id watermark n items last is =
    let m : _ → Meaning = g.D.Disk.meaning in
    let p = c.args.planned.now in
    stays_both (m c.args.disk.now) (m c.write_memory.new.disk) (m c.write_ingest.new.disk)
    (Behind.of_memory tree id watermark n items last p is (λ id last. StaysTidy (m c.args.disk.now) (m c.write_memory.new.disk)) (c.in_ok-write_memory.ensures.kinds honest))
    (Behind.of_own tree id watermark n items last p is (λ id next. StaysTidy (m c.write_memory.new.disk) (m c.write_ingest.new.disk)) (c.write_ingest.ensures.kinds honest))

pub returns-clause-beside : goal.returns-clause-beside
returns-clause-beside g c honest tree id watermark n items last is =
    let m : _ → Meaning = g.D.Disk.meaning in
    let p = c.args.planned.now in
    Behind.given_both id last.next_table_id (m c.args.disk.now) (m c.write_memory.new.disk) (m c.write_ingest.new.disk)
    (Behind.of_memory tree id watermark n items last p is (λ id last. KeepsGiven id last.next_table_id (m c.args.disk.now) (m c.write_memory.new.disk)) (c.in_ok-write_memory.ensures.beside honest))
    (Behind.fewer_given id last.next_table_id (last.next_table_id + length p.memory.tables.items) (m c.write_memory.new.disk) (m c.write_ingest.new.disk) (omega arith)
    (Behind.own_given tree id watermark n items last p is (m c.write_memory.new.disk) (m c.write_ingest.new.disk) (c.write_ingest.ensures.beside honest)))

pub returns-clause-files : goal.returns-clause-files
returns-clause-files g c honest tree id watermark n items last is =
    let m : _ → Meaning = g.D.Disk.meaning in
    let p = c.args.planned.now in
    Behind.files_behind tree id watermark n items last p is (m c.write_memory.new.disk) (m c.write_ingest.new.disk) c.write_ingest.result
    (Behind.of_memory tree id watermark n items last p is (λ id last. HaveFiles (m c.write_memory.new.disk) id last.next_table_id p.memory.tables.items) (c.in_ok-write_memory.ensures.files honest))
    (c.write_ingest.ensures.beside honest) (c.write_ingest.ensures.files honest)
