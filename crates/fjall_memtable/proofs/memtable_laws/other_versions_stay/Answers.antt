use Rattle.fjall_memtable.proofs.Newest.{other_keys_stay, earlier_instants_stay}
use Rattle.fjall_memtable.proofs.memtable_laws.other_versions_stay.Goals as goal

pub returns-clause-keys : goal.returns-clause-keys
returns-clause-keys c e entries key instant other = other_keys_stay e entries key instant other

pub returns-clause-instants : goal.returns-clause-instants
returns-clause-instants c e entries key instant late = earlier_instants_stay e entries key instant late
