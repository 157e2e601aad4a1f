use Rattle.fjall_meta.proofs.Following as Following
use Rattle.fjall_meta.proofs.content_laws.one_more_batch.Goals as goal

pub returns-clause-more : goal.returns-clause-more
returns-clause-more c = Following.one_more_batch

pub returns-clause-beyond_all : goal.returns-clause-beyond_all
returns-clause-beyond_all c = Following.beyond_all
