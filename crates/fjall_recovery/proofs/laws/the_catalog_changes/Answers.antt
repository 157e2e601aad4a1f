use Rattle.fjall_recovery.proofs.Changing as Changing
use Rattle.fjall_recovery.proofs.laws.the_catalog_changes.Goals as goal

pub returns-clause-image : goal.returns-clause-image
returns-clause-image c image other records t next = Changing.catalog_image t next image other records

pub returns-clause-rests : goal.returns-clause-rests
returns-clause-rests c old new records others t next = Changing.catalog_rests t next old new records others

pub returns-clause-crash : goal.returns-clause-crash
returns-clause-crash c state image records others t next = Changing.catalog_crash t next state image records others
