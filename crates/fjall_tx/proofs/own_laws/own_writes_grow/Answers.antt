use Rattle.fjall_tx.proofs.OwnGrowing.{many_grown, one_grown}
use Rattle.fjall_tx.proofs.own_laws.own_writes_grow.Goals as goal

pub returns-clause-one : goal.returns-clause-one
returns-clause-one c = one_grown

pub returns-clause-many : goal.returns-clause-many
returns-clause-many c own maps items = many_grown items own maps
