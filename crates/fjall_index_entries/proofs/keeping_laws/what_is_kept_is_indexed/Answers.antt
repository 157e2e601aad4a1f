use Rattle.fjall_index_entries.proofs.Keeps.{kept_indexed}
use Rattle.fjall_index_entries.proofs.keeping_laws.what_is_kept_is_indexed.Goals as goal

pub returns : goal.returns
returns c = kept_indexed
