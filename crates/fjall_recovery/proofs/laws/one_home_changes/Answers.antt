use Rattle.fjall_recovery.proofs.Changing as Changing
use Rattle.fjall_recovery.proofs.laws.one_home_changes.Goals as goal

pub returns-clause-image : goal.returns-clause-image
returns-clause-image c image other t id h versions has lives = Changing.home_in_image id h versions t lives image other has

pub returns-clause-rests : goal.returns-clause-rests
returns-clause-rests c old new records t id h versions lies lives = Changing.home_rests id h versions t lives old new records lies

pub returns-clause-crash : goal.returns-clause-crash
returns-clause-crash c state image records t id h versions lies lives = Changing.home_in_crash id h versions t lives state image records lies
