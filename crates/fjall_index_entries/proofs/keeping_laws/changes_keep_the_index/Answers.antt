use Rattle.fjall_index_entries.proofs.Keeps.{changes_keep}
use Rattle.fjall_index_entries.proofs.keeping_laws.changes_keep_the_index.Goals as goal

pub returns : goal.returns
returns c = changes_keep
