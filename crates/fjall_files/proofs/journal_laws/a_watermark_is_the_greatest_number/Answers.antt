use Rattle.fjall_files.proofs.Telling.{mark_is_greatest}
use Rattle.fjall_files.proofs.journal_laws.a_watermark_is_the_greatest_number.Goals as goal

pub returns : goal.returns
returns c = mark_is_greatest
