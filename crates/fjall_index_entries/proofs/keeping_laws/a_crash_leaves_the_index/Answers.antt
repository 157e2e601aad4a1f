use Rattle.fjall_index_entries.proofs.Keeps.{passes_indexed}
use Rattle.fjall_index_entries.proofs.keeping_laws.a_crash_leaves_the_index.Goals as goal

pub returns : goal.returns
returns c = passes_indexed
