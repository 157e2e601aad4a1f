use Rattle.fjall_meta.proofs.Alike.{one_list}
use Rattle.fjall_meta.proofs.laws.one_list_of_keyspaces.Goals as goal

pub returns : goal.returns
returns c = one_list
