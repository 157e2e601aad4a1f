use Rattle.fjall_recovery.proofs.Folders.{wild_stands}
use Rattle.fjall_recovery.proofs.wild_laws.a_wild_image_stands.Goals as goal

pub returns : goal.returns
returns c state steps wild folder leaves opens = wild_stands state steps wild folder leaves opens
