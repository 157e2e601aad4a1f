use Rattle.std.specs.Prelude.{string_bytes}
use Rattle.fjall_base.specs.Disk.{Meaning, standing, state_in}
use Rattle.fjall_files.specs.Names.{table_name, current_name}
use Rattle.fjall_repair.specs.Mended.{IsMended}
use Rattle.fjall_repair.specs.Steps.{IsRested, with_active}
use Rattle.fjall_opening.proofs.Suited.{mended_by, no_active, no_ends, no_whole, on_ok_then, suited}
use Rattle.fjall_repair.proofs.MendServed.{active_fits, home_active, home_ends, home_whole}
use Rattle.fjall_repair.proofs.Suiting.{suits}
use Rattle.fjall_opening.proofs.SuitedAmid.{mended_amid, suited_amid}
use Rattle.fjall_opening.proofs.mending.mend.Goals as goal

pub returns-clause-any_moment : goal.returns-clause-any_moment
returns-clause-any_moment g c honest found contents finished shows is holds =
    let m : _ → Meaning = g.D.Disk.meaning in
    c.carry_out.ensures.any_moment honest contents holds (suited (state_in (m c.args.disk.now)) found contents c.args.plan.now holds finished shows is)

pub returns-clause-ok : goal.returns-clause-ok
returns-clause-ok g c honest found contents finished shows is holds =
    let m : _ → Meaning = g.D.Disk.meaning in
    let p = c.args.plan.now in
    on_ok_then c.carry_out.result (IsRested (state_in (m c.carry_out.new.disk)) (with_active contents)) (IsMended (state_in (m c.carry_out.new.disk)) found contents (string_bytes p.active))
    (mended_by (m c.args.disk.now) (m c.carry_out.new.disk) found contents p holds finished shows is)
    (c.carry_out.ensures.rested honest contents holds (suited (state_in (m c.args.disk.now)) found contents p holds finished shows is))

pub returns-clause-tables : goal.returns-clause-tables
returns-clause-tables g c honest image found is id n =
    let p = c.args.plan.now in
    c.carry_out.ensures.elsewhere honest (table_name id n) (no_active id n found is.0 p is.2) (no_whole id n found is.0 p is.2) (no_ends id n found is.0 p is.1.named is.2)

pub returns-clause-kinds : goal.returns-clause-kinds
returns-clause-kinds g c honest found finished is =
    c.carry_out.ensures.kinds honest (active_fits (standing (state_in (g.D.Disk.meaning c.args.disk.now))) found c.args.plan.now finished is)

pub returns-clause-homes : goal.returns-clause-homes
returns-clause-homes g c honest image found finished is id some small dead =
    let p = c.args.plan.now in
    c.carry_out.ensures.elsewhere honest (current_name id) (home_active id small found is.0 p is.2) (home_whole id small found is.0 p is.2) (home_ends id small image found is.0 p some finished is.1.named is.2 dead)

pub returns-clause-served : goal.returns-clause-served
returns-clause-served g c honest tidy found contents finished shows sound is =
    c.carry_out.ensures.served honest tidy contents sound (suits (standing (state_in (g.D.Disk.meaning c.args.disk.now))) found contents is.0 c.args.plan.now sound finished shows is.1 is.2)

pub returns-clause-amid : goal.returns-clause-amid
returns-clause-amid g c honest found contents finished shows sound is base pending holds =
    let m : _ → Meaning = g.D.Disk.meaning in
    c.carry_out.ensures.amid honest contents sound (suited_amid (standing (state_in (m c.args.disk.now))) found contents c.args.plan.now sound finished shows is) base pending holds

pub returns-clause-mended : goal.returns-clause-mended
returns-clause-mended g c honest found contents finished shows sound is base pending holds =
    let m : _ → Meaning = g.D.Disk.meaning in
    let p = c.args.plan.now in
    let stood = standing (state_in (m c.args.disk.now)) in
    on_ok_then c.carry_out.result (IsRested (state_in (m c.carry_out.new.disk)) (with_active contents)) (IsMended (state_in (m c.carry_out.new.disk)) found contents (string_bytes p.active))
    (mended_amid stood (state_in (m c.carry_out.new.disk)) found contents p sound finished shows is)
    (c.carry_out.ensures.ended honest contents sound.openable (suited_amid stood found contents p sound.openable finished shows is) base pending holds)

pub returns-clause-held : goal.returns-clause-held
returns-clause-held g c honest found contents finished shows sound is base pending holds =
    let m : _ → Meaning = g.D.Disk.meaning in
    c.carry_out.ensures.held honest contents sound (suited_amid (standing (state_in (m c.args.disk.now))) found contents c.args.plan.now sound finished shows is) base pending holds
