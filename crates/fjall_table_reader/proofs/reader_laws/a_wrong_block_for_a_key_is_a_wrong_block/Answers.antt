use Rattle.fjall_table_reader.proofs.Readers.{wrong_block, wrong_tables}
use Rattle.fjall_table_reader.proofs.reader_laws.a_wrong_block_for_a_key_is_a_wrong_block.Goals as goal

pub returns-clause-block : goal.returns-clause-block
returns-clause-block c = wrong_block

pub returns-clause-tables : goal.returns-clause-tables
returns-clause-tables c = wrong_tables
