use Rattle.fjall_files.proofs.Distinct as Distinct
use Rattle.fjall_files.proofs.laws.journal_names_differ.Goals as goal

pub returns : goal.returns
returns c = Distinct.journals
