use Rattle.fjall_manifest.proofs.Resting as Resting
use Rattle.fjall_manifest.proofs.home_laws.what_stays_is_safe.Goals as goal

pub returns-clause-rests : goal.returns-clause-rests
returns-clause-rests c old new id records h agree rests = Resting.rests_where old new id records h agree rests

pub returns-clause-ready : goal.returns-clause-ready
returns-clause-ready c old new id records h agree ready = Resting.ready_where old new id records h agree ready
