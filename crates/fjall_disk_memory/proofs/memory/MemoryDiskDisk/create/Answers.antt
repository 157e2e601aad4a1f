use Rattle.std.proofs.Common.{◌≡◌, [], sym, subst, rules}
use Rattle.fjall_base.specs.Disk.{Missing, File, IsFile, HasFolder, put}
use Rattle.fjall_disk_memory.specs.Memory.{state_of}
use Rattle.fjall_base.proofs.States.{put-now}
use Rattle.fjall_disk_memory.proofs.Housed.{housed_made}
use Rattle.fjall_disk_memory.proofs.memory.MemoryDiskDisk.create.Goals as goal

pub returns-else-is_err-clause-file : goal.returns-else-is_err-clause-file
returns-else-is_err-clause-file c =
    let state : state_of c.put.new.self.names.items ≡ put (state_of c.args.self.now.files.names.items) c.args.name.now (File [] []) = search rules in
    subst IsFile (sym (put-now _ _ _ _ state)) tt

pub put-requires : goal.put-requires
put-requires c =
    let state = state_of c.args.self.now.files.names.items in
    let none : (state c.args.name.now).now ≡ Missing = search rules in
    let has : HasFolder state c.args.name.now = search rules in
    record { housed = housed_made _ _ _ none has c.args.self.now.files.housed }
