use Rattle.fjall_meta.proofs.Following as Following
use Rattle.fjall_meta.proofs.content_laws.without_tables_the_journals_tell_all.Goals as goal

pub returns : goal.returns
returns c = Following.without_tables
