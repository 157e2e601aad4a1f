use Rattle.std.proofs.Common.{[], ◌∷◌, ◌++◌, ◌∙◌}
use Rattle.fjall_base.specs.Disk.{Meaning, state_in}
use Rattle.fjall_files.proofs.Made.{within_both}
use Rattle.fjall_files.specs.Names.{keyspace_folder}
use Rattle.fjall_manifest.specs.Catalog.{fields}
use Rattle.fjall_recovery.specs.Places.{LiesInTree}
use Rattle.fjall_manifest.proofs.Serving.{kinds_on, safe_kind}
use Rattle.fjall_changes.proofs.CatalogChange as Changed
use Rattle.fjall_files.proofs.Tidying.{stays_both}
use Rattle.fjall_changes.proofs.change.change_tree.Goals as goal

pub returns-in_err-write_table-clause-any_moment : goal.returns-in_err-write_table-clause-any_moment
returns-in_err-write_table-clause-any_moment g c honest records t next number lies new at update =
    let m : _ → Meaning = g.D.Disk.meaning in
    let last = c.args.update.now.catalog in
    let ready = Changed.ready records t next last at (m c.args.disk.now) lies new in
    (Changed.wrote records t next last at (m c.args.disk.now) lies new (m c.write_table.new.disk) (c.in_err-write_table.ensures.within honest t.last next.keyspaces number update)
    (c.in_err-write_table.ensures.any_moment honest records t.last t.keyspaces next.keyspaces number ready update)).run

pub returns-in_err-commit-clause-within : goal.returns-in_err-commit-clause-within
returns-in_err-commit-clause-within g c honest old s number update =
    let m : _ → Meaning = g.D.Disk.meaning in
    within_both (keyspace_folder 0) (m c.args.disk.now) (m c.write_table.new.disk) (m c.commit.new.disk) (c.in_ok-write_table.ensures.within honest old s number update) (c.in_err-commit.ensures.within honest)

pub returns-clause-within : goal.returns-clause-within
returns-clause-within g c honest old s number update =
    let m : _ → Meaning = g.D.Disk.meaning in
    within_both (keyspace_folder 0) (m c.args.disk.now) (m c.commit.new.disk) (m c.remove_old.new.disk)
    (within_both (keyspace_folder 0) (m c.args.disk.now) (m c.write_table.new.disk) (m c.commit.new.disk) (c.in_ok-write_table.ensures.within honest old s number update) (c.in_ok-commit.ensures.within honest))
    (c.remove_old.ensures.within honest old s number update)

pub returns-in_err-commit-clause-any_moment : goal.returns-in_err-commit-clause-any_moment
returns-in_err-commit-clause-any_moment g c honest records t next number lies new at update =
    let m : _ → Meaning = g.D.Disk.meaning in
    let last = c.args.update.now.catalog in
    let ready = Changed.ready records t next last at (m c.args.disk.now) lies new in
    let wrote = Changed.wrote records t next last at (m c.args.disk.now) lies new (m c.write_table.new.disk) (c.in_ok-write_table.ensures.within honest t.last next.keyspaces number update)
    (c.in_ok-write_table.ensures.any_moment honest records t.last t.keyspaces next.keyspaces number ready update) in
    let written = c.in_ok-write_table.ensures.ok honest records t.last t.keyspaces next.keyspaces number ready update in
    (Changed.committed records t next last at (m c.args.disk.now) lies new (m c.write_table.new.disk) (m c.commit.new.disk) wrote (c.in_err-commit.ensures.within honest)
    (c.in_err-commit.ensures.any_moment honest records t.last t.keyspaces next.keyspaces number new.are update written)).run

pub returns-clause-any_moment : goal.returns-clause-any_moment
returns-clause-any_moment g c honest records t next number lies new at update =
    let m : _ → Meaning = g.D.Disk.meaning in
    let last = c.args.update.now.catalog in
    let ready = Changed.ready records t next last at (m c.args.disk.now) lies new in
    let is_last = Changed.is_last records t next last at (m c.args.disk.now) lies new in
    let wrote = Changed.wrote records t next last at (m c.args.disk.now) lies new (m c.write_table.new.disk) (c.in_ok-write_table.ensures.within honest t.last next.keyspaces number update)
    (c.in_ok-write_table.ensures.any_moment honest records t.last t.keyspaces next.keyspaces number ready update) in
    let written = c.in_ok-write_table.ensures.ok honest records t.last t.keyspaces next.keyspaces number ready update in
    let committed = Changed.committed records t next last at (m c.args.disk.now) lies new (m c.write_table.new.disk) (m c.commit.new.disk) wrote (c.in_ok-commit.ensures.within honest)
    (c.in_ok-commit.ensures.any_moment honest records t.last t.keyspaces next.keyspaces number new.are update written) in
    let done = c.in_ok-commit.ensures.ok honest records t.last t.keyspaces next.keyspaces number new.are update written in
    (Changed.removed records t next last at (m c.args.disk.now) lies new (m c.commit.new.disk) (m c.remove_old.new.disk) committed (c.remove_old.ensures.within honest t.last next.keyspaces number update)
    (c.remove_old.ensures.any_moment honest (records ++ fields last ∷ []) t.last next.keyspaces number update is_last done)).run

pub returns-clause-ok : goal.returns-clause-ok
returns-clause-ok g c honest records t next number lies new at update =
    let m : _ → Meaning = g.D.Disk.meaning in
    let last = c.args.update.now.catalog in
    let ready = Changed.ready records t next last at (m c.args.disk.now) lies new in
    let is_last = Changed.is_last records t next last at (m c.args.disk.now) lies new in
    let wrote = Changed.wrote records t next last at (m c.args.disk.now) lies new (m c.write_table.new.disk) (c.in_ok-write_table.ensures.within honest t.last next.keyspaces number update)
    (c.in_ok-write_table.ensures.any_moment honest records t.last t.keyspaces next.keyspaces number ready update) in
    let written = c.in_ok-write_table.ensures.ok honest records t.last t.keyspaces next.keyspaces number ready update in
    let committed = Changed.committed records t next last at (m c.args.disk.now) lies new (m c.write_table.new.disk) (m c.commit.new.disk) wrote (c.in_ok-commit.ensures.within honest)
    (c.in_ok-commit.ensures.any_moment honest records t.last t.keyspaces next.keyspaces number new.are update written) in
    let done = c.in_ok-commit.ensures.ok honest records t.last t.keyspaces next.keyspaces number new.are update written in
    let removed = Changed.removed records t next last at (m c.args.disk.now) lies new (m c.commit.new.disk) (m c.remove_old.new.disk) committed (c.remove_old.ensures.within honest t.last next.keyspaces number update)
    (c.remove_old.ensures.any_moment honest (records ++ fields last ∷ []) t.last next.keyspaces number update is_last done) in
    let still = c.remove_old.ensures.ready honest (records ++ fields last ∷ []) t.last next.keyspaces number update is_last done in
    Changed.on_ok c.remove_old.result (LiesInTree (state_in (m c.remove_old.new.disk)) (records ++ fields last ∷ []) next)
    (Changed.ended records t next last at (m c.args.disk.now) lies new (m c.remove_old.new.disk) removed still)

pub returns-in_err-write_table-clause-served : goal.returns-in_err-write_table-clause-served
returns-in_err-write_table-clause-served g c honest records t next number lies new at update =
    c.in_err-write_table.ensures.served honest records t.last t.keyspaces next.keyspaces number (Changed.ready records t next c.args.update.now.catalog at (g.D.Disk.meaning c.args.disk.now) lies new) update

pub returns-in_err-commit-clause-served : goal.returns-in_err-commit-clause-served
returns-in_err-commit-clause-served g c honest records t next number lies new at update =
    let ready = Changed.ready records t next c.args.update.now.catalog at (g.D.Disk.meaning c.args.disk.now) lies new in
    let written = c.in_ok-write_table.ensures.ok honest records t.last t.keyspaces next.keyspaces number ready update in
    c.in_err-commit.ensures.served honest records t.last c.args.update.now.catalog t.keyspaces next.keyspaces written ∙ c.in_ok-write_table.ensures.served honest records t.last t.keyspaces next.keyspaces number ready update

pub returns-clause-served : goal.returns-clause-served
returns-clause-served g c honest records t next number lies new at update =
    let m : _ → Meaning = g.D.Disk.meaning in
    let last = c.args.update.now.catalog in
    let ready = Changed.ready records t next last at (m c.args.disk.now) lies new in
    let written = c.in_ok-write_table.ensures.ok honest records t.last t.keyspaces next.keyspaces number ready update in
    let kind = kinds_on (state_in (m c.write_table.new.disk)) (state_in (m c.commit.new.disk)) t.last.table (c.in_ok-commit.ensures.no_folder honest) (safe_kind (state_in (m c.write_table.new.disk)) t.last.table _ written.rests.home.tables) in
    c.remove_old.ensures.served honest t.last next.keyspaces number update kind
    ∙ c.in_ok-commit.ensures.served honest records t.last last t.keyspaces next.keyspaces written ∙ c.in_ok-write_table.ensures.served honest records t.last t.keyspaces next.keyspaces number ready update

pub returns-clause-gone : goal.returns-clause-gone
returns-clause-gone g c honest old s number update = c.remove_old.ensures.gone honest old s number update

-- ---- what it puts at names

pub returns-in_err-write_table-clause-kinds : goal.returns-in_err-write_table-clause-kinds
returns-in_err-write_table-clause-kinds g c honest old s number update = c.in_err-write_table.ensures.kinds honest old s number update

pub returns-in_err-commit-clause-kinds : goal.returns-in_err-commit-clause-kinds
returns-in_err-commit-clause-kinds g c honest old s number update =
    let m : _ → Meaning = g.D.Disk.meaning in
    stays_both (m c.args.disk.now) (m c.write_table.new.disk) (m c.commit.new.disk) (c.in_ok-write_table.ensures.kinds honest old s number update) (c.in_err-commit.ensures.kinds honest)

pub returns-clause-kinds : goal.returns-clause-kinds
returns-clause-kinds g c honest old s number update =
    let m : _ → Meaning = g.D.Disk.meaning in
    stays_both (m c.args.disk.now) (m c.commit.new.disk) (m c.remove_old.new.disk)
    (stays_both (m c.args.disk.now) (m c.write_table.new.disk) (m c.commit.new.disk) (c.in_ok-write_table.ensures.kinds honest old s number update) (c.in_ok-commit.ensures.kinds honest))
    (c.remove_old.ensures.kinds honest)
