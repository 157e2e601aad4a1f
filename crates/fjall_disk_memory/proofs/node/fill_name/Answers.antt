use Rattle.fjall_disk_memory.proofs.Filled.{filled_name}
use Rattle.fjall_disk_memory.specs.Memory.{state_of}
use Rattle.fjall_disk_memory.proofs.node.fill_name.Goals as goal

pub returns : goal.returns
returns c image at =
    let told = c.in_ok-alter_at.ensures in
    filled_name (state_of c.args.names.now.items) (state_of c.alter_at.new.names.items) c.args.name.now c.args.bytes.now image c.in_ok-alter_at.field-0 at told.ok told.no told.fits
