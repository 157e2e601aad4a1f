use Rattle.fjall_compaction.proofs.WholeLaws as WholeLaws
use Rattle.fjall_compaction.proofs.ingestion.laws.a_whole_ingestion_is_one_command.Goals as goal

pub returns-clause-run : goal.returns-clause-run
returns-clause-run c = WholeLaws.whole_run

pub returns-clause-base : goal.returns-clause-base
returns-clause-base c = WholeLaws.whole_base

pub returns-clause-number : goal.returns-clause-number
returns-clause-number c = WholeLaws.whole_number

pub returns-clause-known : goal.returns-clause-known
returns-clause-known c = WholeLaws.whole_known
