use Rattle.std.proofs.Common.{◌≡◌, ◌∙◌, Err, rules}
use Rattle.fjall_base.specs.Disk.{Image, standing, state_in}
use Rattle.fjall_manifest.proofs.Openings.{contradicted, current_read, no_file, no_last}
use Rattle.fjall_manifest.proofs.reading.read_last.Goals as goal

pub returns-in_default-clause-refused : goal.returns-in_default-clause-refused
returns-in_default-clause-refused g c honest =
    let image : Image = standing (state_in (g.D.Disk.meaning c.args.disk.now)) in
    no_file image c.args.id c.in_ok-text.field-0 c.as_str.result.now (c.as_str.ensures.value ∙ c.in_ok-name.ensures.name) c.in_default.not-Some (c.in_ok-text.ensures.found honest)

pub returns-in_err-record-clause-refused : goal.returns-in_err-record-clause-refused
returns-in_err-record-clause-refused g c honest =
    let image : Image = standing (state_in (g.D.Disk.meaning c.args.disk.now)) in
    let is : c.from_residual-in_err-record.result ≡ Err c.in_err-record.field-0.0 = search rules in
    let read = current_read image c.args.id c.in_ok-text.field-0 c.in-Some.text c.as_str.result.now (c.as_str.ensures.value ∙ c.in_ok-name.ensures.name) c.in-Some.is (c.in_ok-text.ensures.found honest) in
    rw is (contradicted image c.args.id _ _ c.deref.result.now c.in_err-record.field-0.0 (c.deref.ensures.value ∙ read.is) c.in_err-record.ensures.damaged)

pub returns-in_default-record-clause-refused : goal.returns-in_default-record-clause-refused
returns-in_default-record-clause-refused g c honest =
    let image : Image = standing (state_in (g.D.Disk.meaning c.args.disk.now)) in
    let read = current_read image c.args.id c.in_ok-text.field-0 c.in-Some.text c.as_str.result.now (c.as_str.ensures.value ∙ c.in_ok-name.ensures.name) c.in-Some.is (c.in_ok-text.ensures.found honest) in
    no_last image c.args.id c.deref.result.now (c.deref.ensures.value ∙ read.is) c.in_ok-record.field-0.record c.in_ok-record.field-0.end c.in_default-record.not-Some c.in_ok-record.ensures.only
