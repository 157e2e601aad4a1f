use Rattle.std.proofs.Common.{List, Option, Some, ◌∙◌, ℕ, ap, codes, sym}
use Rattle.fjall_base.specs.Disk.{standing, state_in}
use Rattle.fjall_files.specs.Marker.{marker_tells}
use Rattle.fjall_recovery.proofs.Finishing.{marker_due, file_read}
use Rattle.fjall_recovery.proofs.folder.read_version.Goals as goal

pub returns-in-Some-clause-cause : goal.returns-in-Some-clause-cause
returns-in-Some-clause-cause g c honest =
    let read = file_read (standing (state_in (g.D.Disk.meaning c.args.disk.now)) (codes "version")) _ c.in-Some.bytes (c.in_ok-bytes.ensures.found honest) c.in-Some.is in
    marker_due c.read_marker.result _ _ c.read_marker.ensures
    (ap (λ (bytes : List ℕ). marker_tells (Some bytes)) c.as_slice.ensures.value ∙ ap (λ (found : Option (List ℕ)). marker_tells found) (sym read))
