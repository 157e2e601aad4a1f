use Rattle.fjall_meta.proofs.Naming as Naming
use Rattle.fjall_meta.proofs.replay_laws.versions_change_maps_alone.Goals as goal

pub returns-clause-names : goal.returns-clause-names
returns-clause-names c = λ s versions. (Naming.rest_is_bare s versions).0

pub returns-clause-options : goal.returns-clause-options
returns-clause-options c = λ s versions. (Naming.rest_is_bare s versions).1

pub returns-clause-next : goal.returns-clause-next
returns-clause-next c = λ s versions. (Naming.rest_is_bare s versions).2
