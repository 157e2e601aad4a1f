use Rattle.fjall_table_reader.proofs.TableFiles.{one_list_of}
use Rattle.fjall_table_reader.proofs.file_laws.one_list_of_a_file.Goals as goal

pub returns : goal.returns
returns c = one_list_of
