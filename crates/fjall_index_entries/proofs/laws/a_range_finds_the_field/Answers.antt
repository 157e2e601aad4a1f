use Rattle.fjall_index_entries.proofs.Found.{found_between}
use Rattle.fjall_index_entries.proofs.laws.a_range_finds_the_field.Goals as goal

pub returns : goal.returns
returns c = found_between
