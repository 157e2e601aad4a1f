use Rattle.fjall_index_entries.proofs.Index.{entry_stands, is_entry_of, none_of_empty, one_index}
use Rattle.fjall_index_entries.proofs.laws.the_index_has_the_entries.Goals as goal

pub returns : goal.returns
returns c = record { only = is_entry_of; all = entry_stands; no_other = one_index; none = none_of_empty }
