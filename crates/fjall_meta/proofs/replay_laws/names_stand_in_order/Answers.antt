use Rattle.fjall_meta.proofs.Naming as Naming
use Rattle.fjall_meta.proofs.replay_laws.names_stand_in_order.Goals as goal

pub returns-clause-listed : goal.returns-clause-listed
returns-clause-listed c = Naming.names_listed

pub returns-clause-counted : goal.returns-clause-counted
returns-clause-counted c = Naming.names_counted
