use Rattle.std.proofs.Common.{◌∙◌, subst, sym}
use Rattle.fjall_base.specs.Disk.{Image, standing, state_in}
use Rattle.fjall_recovery.specs.Folders.{ReadsFolder}
use Rattle.fjall_recovery.specs.Refusals.{FolderRefuses}
use Rattle.fjall_inspect.proofs.Passing.{due_cause, homes_of, read_is_clean, read_passes, read_tells, refused_is_clean, refused_tells}
use Rattle.fjall_inspect.proofs.checking.check.Goals as goal

pub returns-in-Ok-Some-clause-right : goal.returns-in-Ok-Some-clause-right
returns-in-Ok-Some-clause-right g c honest =
    let image : Image = standing (state_in (g.D.Disk.meaning c.args.disk.now)) in
    let reads = subst (ReadsFolder image) c.in-Ok-Some.field-0-is (c.in-Ok-Some.ensures.found honest) in
    read_passes (state_in (g.D.Disk.meaning c.args.disk.now)) _ (c.in-Ok-Some.ensures.same honest).state c.in-Ok-Some.folder reads c.look_at_folder.result (c.look_at_folder.ensures.faults honest)

pub returns-in-Ok-Some-clause-wrong : goal.returns-in-Ok-Some-clause-wrong
returns-in-Ok-Some-clause-wrong g c honest =
    let image : Image = standing (state_in (g.D.Disk.meaning c.args.disk.now)) in
    let reads = subst (ReadsFolder image) c.in-Ok-Some.field-0-is (c.in-Ok-Some.ensures.found honest) in
    read_is_clean (state_in (g.D.Disk.meaning c.args.disk.now)) _ (c.in-Ok-Some.ensures.same honest).state c.in-Ok-Some.folder reads c.look_at_folder.result c.look_at_folder.ensures.refusal (c.look_at_folder.ensures.faults honest)

pub returns-in-Ok-Some-clause-tells : goal.returns-in-Ok-Some-clause-tells
returns-in-Ok-Some-clause-tells g c honest =
    let image : Image = standing (state_in (g.D.Disk.meaning c.args.disk.now)) in
    let reads = subst (ReadsFolder image) c.in-Ok-Some.field-0-is (c.in-Ok-Some.ensures.found honest) in
    read_tells (state_in (g.D.Disk.meaning c.args.disk.now)) _ (c.in-Ok-Some.ensures.same honest).state c.in-Ok-Some.folder reads c.look_at_folder.result c.look_at_folder.ensures.refusal (c.look_at_folder.ensures.faults honest)
    (c.look_at_folder.ensures.mending honest (homes_of image c.in-Ok-Some.folder reads.0))

pub returns-in-Err-clause-wrong : goal.returns-in-Err-clause-wrong
returns-in-Err-clause-wrong g c honest =
    let image : Image = standing (state_in (g.D.Disk.meaning c.args.disk.now)) in
    let refuses = due_cause (FolderRefuses image) c.in-Err.error (sym c.is_fault.ensures ∙ c.if-is_fault.true) (c.in-Err.ensures.cause honest) in
    refused_is_clean (state_in (g.D.Disk.meaning c.args.disk.now)) c.in-Err.error refuses c.look_at_refused.result

pub returns-in-Err-clause-tells : goal.returns-in-Err-clause-tells
returns-in-Err-clause-tells g c honest =
    let image : Image = standing (state_in (g.D.Disk.meaning c.args.disk.now)) in
    let refuses = due_cause (FolderRefuses image) c.in-Err.error (sym c.is_fault.ensures ∙ c.if-is_fault.true) (c.in-Err.ensures.cause honest) in
    refused_tells (state_in (g.D.Disk.meaning c.args.disk.now)) c.in-Err.error refuses c.look_at_refused.result c.look_at_refused.ensures.refusal
