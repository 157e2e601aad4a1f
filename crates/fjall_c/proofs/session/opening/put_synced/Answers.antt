use Rattle.std.proofs.Common.{◌∷◌, [], Result, Ok, Err}
use Rattle.std.specs.Prelude.{OnOk}
use Rattle.fjall_base.specs.Disk.{Append, File, Meaning, Name, Sync, Took, making, state_in}
use Rattle.fjall_base.specs.Pairs.{Bytes}
use Rattle.fjall_base.specs.declared.error.Error.{Error}
use Rattle.fjall_disk_memory.specs.MemoryDisk.{meaning_in}
use Rattle.fjall_c.specs.Openings.{PutsSynced}
use Rattle.fjall_c.proofs.session.opening.put_synced.Goals as goal

put_by : (old made filled new : Meaning) (name : Name) (bytes : Bytes) (result : Result Unit Error) → Took old made (making name (File [] []) (state_in old name).now)
    → Took made filled (Append name bytes ∷ []) → OnOk result (Took filled new (Sync name ∷ [])) → OnOk result (PutsSynced name bytes old new)
put_by old made filled new name bytes (Ok done) first then last = (made, filled, first, then, last)
put_by old made filled new name bytes (Err error) first then last = tt

pub returns : goal.returns
returns c =
    put_by (meaning_in c.args.disk.now) (meaning_in c.create.new.self) (meaning_in c.append.new.self) (meaning_in c.sync.new.self) c.args.name.now c.args.bytes.now c.sync.result
    c.in_ok-create.ensures.ok c.in_ok-append.ensures.ok c.sync.ensures.ok
