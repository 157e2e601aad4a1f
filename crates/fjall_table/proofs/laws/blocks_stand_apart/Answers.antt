use Rattle.fjall_table.proofs.TableLaws as TableLaws
use Rattle.fjall_table.proofs.laws.blocks_stand_apart.Goals as goal

pub returns : goal.returns
returns c = TableLaws.blocks_stand_apart
