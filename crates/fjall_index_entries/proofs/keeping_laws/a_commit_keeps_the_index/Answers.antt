use Rattle.fjall_index_entries.proofs.Keeps.{commit_keeps}
use Rattle.fjall_index_entries.proofs.keeping_laws.a_commit_keeps_the_index.Goals as goal

pub returns : goal.returns
returns c = commit_keeps
