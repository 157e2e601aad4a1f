use Rattle.fjall_recovery.proofs.Named as Named
use Rattle.fjall_recovery.proofs.laws.journals_are_of_the_root.Goals as goal

pub returns : goal.returns
returns c = Named.journal_within
