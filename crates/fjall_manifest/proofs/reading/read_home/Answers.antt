use Rattle.std.proofs.Common.{◌≡◌, Any, Err, List, refl, rules, subst}
use Rattle.fjall_base.specs.Disk.{DiskState, Image, Meaning, standing, state_in}
use Rattle.fjall_table.specs.declared.table_info.TableInfo.{TableInfo}
use Rattle.fjall_table_reader.proofs.TableFiles.{refused_later}
use Rattle.fjall_manifest.specs.Reading.{AreHeld, LacksTable}
use Rattle.fjall_manifest.proofs.Openings.{home_loaded, tables_refuse}
use Rattle.fjall_manifest.proofs.reading.read_home.Goals as goal

pub returns-in_err-tables-clause-refused : goal.returns-in_err-tables-clause-refused
returns-in_err-tables-clause-refused g c honest =
    let m : _ → Meaning = g.D.Disk.meaning in
    let image : Image = standing (state_in (m c.args.disk.now)) in
    let last = c.in_ok-record.field-0 in
    let is : c.from_residual-in_err-tables.result ≡ Err c.in_err-tables.field-0.0 = search rules in
    let still = (c.in_ok-record.ensures.same honest).state in
    let why : Any (LacksTable (standing (state_in (m c.read_last.new.disk))) c.args.id) c.deref.result.now → Any (LacksTable image c.args.id) last.record.tables.items =
    λ lacks. subst (λ (l : List TableInfo). Any (LacksTable image c.args.id) l) c.deref.ensures.value (subst (λ (s : DiskState). Any (LacksTable (standing s) c.args.id) c.deref.result.now) still lacks) in
    rw is (tables_refuse image c.args.id _ _ last c.in_err-tables.field-0.0 (c.in_ok-record.ensures.last honest)
    (refused_later _ _ _ _ _ c.in_err-tables.field-0.0 c.in_ok-record.ensures.later c.in_err-tables.ensures.later why (c.in_err-tables.ensures.refused honest)))

pub returns-clause-loaded : goal.returns-clause-loaded
returns-clause-loaded g c honest =
    let m : _ → Meaning = g.D.Disk.meaning in
    let image : Image = standing (state_in (m c.args.disk.now)) in
    let last = c.in_ok-record.field-0 in
    let files = c.in_ok-tables.tables.items in
    let still = (c.in_ok-record.ensures.same honest).state in
    let held = subst (λ (l : List TableInfo). AreHeld image c.args.id l files) c.deref.ensures.value (subst (λ (s : DiskState). AreHeld (standing s) c.args.id c.deref.result.now files) still (c.in_ok-tables.ensures.held honest)) in
    home_loaded image c.args.id last _ (c.in_ok-record.ensures.last honest) refl refl refl refl held
