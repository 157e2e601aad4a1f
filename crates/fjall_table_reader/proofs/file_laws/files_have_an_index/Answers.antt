use Rattle.fjall_table_reader.proofs.TableFiles.{has_an_index}
use Rattle.fjall_table_reader.proofs.file_laws.files_have_an_index.Goals as goal

pub returns : goal.returns
returns c = has_an_index
