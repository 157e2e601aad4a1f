use Rattle.std.proofs.Common.{subst}
use Rattle.fjall_engine.specs.Holding.{Held}
use Rattle.fjall_engine.proofs.Evictions.{TellsWaited, waited_owes, waited_serves}
use Rattle.fjall_engine.proofs.engine.Engine.get_keyspaces_to_flush_for_oldest_journal_eviction.Goals as goal

pub returns-clause-serves : goal.returns-clause-serves
returns-clause-serves g c = λ _.
    waited_serves c.args.self.now c.keyspaces_to_flush.result
    (subst (λ (core : Held). TellsWaited core c.keyspaces_to_flush.result) c.self.view_is c.keyspaces_to_flush.ensures.ok)
    c.keyspaces_to_flush.ensures.ascending c.keyspaces_to_flush.ensures.only

pub returns-clause-owes : goal.returns-clause-owes
returns-clause-owes g c =
    waited_owes c.args.self.now c.keyspaces_to_flush.result
    (subst (λ (core : Held). TellsWaited core c.keyspaces_to_flush.result) c.self.view_is c.keyspaces_to_flush.ensures.ok)
    c.keyspaces_to_flush.ensures.ascending c.keyspaces_to_flush.ensures.only
