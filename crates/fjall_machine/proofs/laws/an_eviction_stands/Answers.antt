use Rattle.fjall_machine.proofs.Flushing as Flushing
use Rattle.fjall_machine.proofs.laws.an_eviction_stands.Goals as goal

pub returns-clause-flushed : goal.returns-clause-flushed
returns-clause-flushed c = Flushing.flushed_agree

pub returns-clause-all : goal.returns-clause-all
returns-clause-all c = Flushing.an_eviction_stands

pub returns-clause-left : goal.returns-clause-left
returns-clause-left c = Flushing.with_sealed_stands

pub returns-clause-some : goal.returns-clause-some
returns-clause-some c = Flushing.some_evicted
