use Rattle.fjall_table.proofs.TableLaws as TableLaws
use Rattle.fjall_table.proofs.laws.one_text_of_entries.Goals as goal

pub returns : goal.returns
returns c = TableLaws.one_text_of_entries
