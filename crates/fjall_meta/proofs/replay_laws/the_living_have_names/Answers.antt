use Rattle.fjall_meta.proofs.Naming as Naming
use Rattle.fjall_meta.proofs.replay_laws.the_living_have_names.Goals as goal

pub returns-clause-living : goal.returns-clause-living
returns-clause-living c = Naming.living_names

pub returns-clause-settings : goal.returns-clause-settings
returns-clause-settings c = Naming.settings

pub returns-clause-resolved : goal.returns-clause-resolved
returns-clause-resolved c = Naming.names_answer
