use Rattle.fjall_memtable.proofs.Onces.{once_in}
use Rattle.fjall_memtable.proofs.parts_laws.parts_have_each_version_once.Goals as goal

pub returns : goal.returns
returns c = once_in
