use Rattle.fjall_tree.proofs.Staying as Staying
use Rattle.fjall_tree.proofs.laws.a_merge_reads_what_is_sorted.Goals as goal

pub returns : goal.returns
returns c = Staying.input_sorted
