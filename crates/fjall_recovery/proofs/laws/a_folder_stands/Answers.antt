use Rattle.fjall_recovery.proofs.Holding as Holding
use Rattle.fjall_recovery.proofs.laws.a_folder_stands.Goals as goal

pub returns : goal.returns
returns c = Holding.folder_stands
