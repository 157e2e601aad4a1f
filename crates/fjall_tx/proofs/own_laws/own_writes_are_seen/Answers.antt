use Rattle.std.proofs.Common.{Option, ap, ◌∙◌}
use Rattle.std.specs.FinMap.{get}
use Rattle.fjall_base.specs.Store.{map_at}
use Rattle.fjall_journal.specs.Ops.{value_in}
use Rattle.fjall_journal.specs.declared.op.Op.{Op}
use Rattle.fjall_tx.proofs.Layers.{own_get}
use Rattle.fjall_tx.proofs.Merges.{chosen}
use Rattle.fjall_tx.proofs.own_laws.own_writes_are_seen.Goals as goal

pub returns-clause-written : goal.returns-clause-written
returns-clause-written c own maps id key op is = own_get own maps id key ∙ ap (λ (f : Option Op). chosen value_in f (get (map_at maps id) key)) is

pub returns-clause-others : goal.returns-clause-others
returns-clause-others c own maps id key is = own_get own maps id key ∙ ap (λ (f : Option Op). chosen value_in f (get (map_at maps id) key)) is
