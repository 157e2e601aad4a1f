use Rattle.fjall_recovery.proofs.Kept as Kept
use Rattle.fjall_recovery.proofs.laws.openable_folders_are_read.Goals as goal

pub returns : goal.returns
returns c = Kept.open_folder_is_kept
