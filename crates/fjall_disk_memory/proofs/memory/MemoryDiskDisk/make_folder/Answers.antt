use Rattle.std.proofs.Common.{◌≡◌, rules}
use Rattle.fjall_base.specs.Disk.{Missing, Folder, HasFolder, put}
use Rattle.fjall_disk_memory.specs.Memory.{state_of}
use Rattle.fjall_base.proofs.States.{put-now}
use Rattle.fjall_disk_memory.proofs.Housed.{housed_made}
use Rattle.fjall_disk_memory.proofs.memory.MemoryDiskDisk.make_folder.Goals as goal

pub returns-else-is_err-clause-folder : goal.returns-else-is_err-clause-folder
returns-else-is_err-clause-folder c =
    let state : state_of c.put.new.self.names.items ≡ put (state_of c.args.self.now.files.names.items) c.args.name.now (Folder) = search rules in
    put-now _ _ _ _ state

pub put-requires : goal.put-requires
put-requires c =
    let state = state_of c.args.self.now.files.names.items in
    let none : (state c.args.name.now).now ≡ Missing = search rules in
    let has : HasFolder state c.args.name.now = search rules in
    record { housed = housed_made _ _ _ none has c.args.self.now.files.housed }
