use Rattle.std.proofs.Common.{refl}
use Rattle.std.proofs.lemmas.Bool.{OnTrue_at}
use Rattle.fjall_base.specs.Disk.{appended}
use Rattle.fjall_disk_memory.proofs.Housed.{housed_altered}
use Rattle.fjall_disk_memory.proofs.files.Files.append.Goals as goal

pub invariant_of-self-2 : goal.invariant_of-self-2
invariant_of-self-2 c = record { housed = housed_altered _ _ c.args.name.now (appended c.args.bytes.now) refl refl (OnTrue_at c.if-not-branch.false c.in_ok-alter_at.ensures.ok) c.args.self.now.housed }
