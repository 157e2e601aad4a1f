use Rattle.fjall_meta.proofs.Held as Held
use Rattle.fjall_meta.proofs.content_laws.views_alone_matter.Goals as goal

pub returns : goal.returns
returns c = Held.views_alone_matter
