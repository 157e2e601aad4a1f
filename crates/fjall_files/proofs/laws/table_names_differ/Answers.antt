use Rattle.fjall_files.proofs.Distinct as Distinct
use Rattle.fjall_files.proofs.laws.table_names_differ.Goals as goal

pub returns : goal.returns
returns c = Distinct.tables
