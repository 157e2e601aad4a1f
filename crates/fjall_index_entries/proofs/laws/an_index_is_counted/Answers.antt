use Rattle.fjall_index_entries.proofs.Counting.{all_there, as_many}
use Rattle.fjall_index_entries.proofs.laws.an_index_is_counted.Goals as goal

pub returns : goal.returns
returns c = record { many = as_many; all = all_there }
