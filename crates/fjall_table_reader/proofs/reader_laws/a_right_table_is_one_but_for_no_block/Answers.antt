use Rattle.fjall_table_reader.proofs.Readers.{but_none}
use Rattle.fjall_table_reader.proofs.reader_laws.a_right_table_is_one_but_for_no_block.Goals as goal

pub returns : goal.returns
returns c = but_none
