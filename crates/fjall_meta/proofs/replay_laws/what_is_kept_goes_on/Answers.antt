use Rattle.fjall_meta.proofs.Kept as Kept
use Rattle.fjall_meta.proofs.replay_laws.what_is_kept_goes_on.Goals as goal

pub returns-clause-along : goal.returns-clause-along
returns-clause-along c = Kept.kept_along

pub returns-clause-twice : goal.returns-clause-twice
returns-clause-twice c = Kept.kept_twice

pub returns-clause-maps : goal.returns-clause-maps
returns-clause-maps c = Kept.kept_map
