use Rattle.fjall_meta.proofs.Following as Following
use Rattle.fjall_meta.proofs.content_laws.batches_follow_one_another.Goals as goal

pub returns-clause-stores : goal.returns-clause-stores
returns-clause-stores c = Following.batches_follow

pub returns-clause-beyond_all : goal.returns-clause-beyond_all
returns-clause-beyond_all c = Following.batches_beyond_all
