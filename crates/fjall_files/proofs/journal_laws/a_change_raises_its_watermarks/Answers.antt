use Rattle.fjall_files.proofs.Raised.{change_marks}
use Rattle.fjall_files.proofs.journal_laws.a_change_raises_its_watermarks.Goals as goal

pub returns : goal.returns
returns c = change_marks
