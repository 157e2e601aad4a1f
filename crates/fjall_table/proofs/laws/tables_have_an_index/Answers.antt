use Rattle.fjall_table.proofs.TableLaws as TableLaws
use Rattle.fjall_table.proofs.laws.tables_have_an_index.Goals as goal

pub returns : goal.returns
returns c = TableLaws.tables_have_an_index
