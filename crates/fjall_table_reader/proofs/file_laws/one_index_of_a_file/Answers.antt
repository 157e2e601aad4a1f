use Rattle.fjall_table_reader.proofs.TableFiles.{one_index_of}
use Rattle.fjall_table_reader.proofs.file_laws.one_index_of_a_file.Goals as goal

pub returns : goal.returns
returns c = one_index_of
