use Rattle.fjall_machine.proofs.Flushing as Flushing
use Rattle.fjall_machine.proofs.Sizes as Sizes
use Rattle.fjall_machine.proofs.laws.flushes_agree.Goals as goal

pub returns-clause-tables : goal.returns-clause-tables
returns-clause-tables c = Sizes.table_counts_agree

pub returns-clause-level : goal.returns-clause-level
returns-clause-level c = Sizes.l0_counts_agree

pub returns-clause-space : goal.returns-clause-space
returns-clause-space c = Sizes.space_agrees

pub returns-clause-spaces : goal.returns-clause-spaces
returns-clause-spaces c = Sizes.spaces_agree

pub returns-clause-count : goal.returns-clause-count
returns-clause-count c = Sizes.waits_agree

pub returns-clause-begins : goal.returns-clause-begins
returns-clause-begins c = Sizes.beginning_agrees

pub returns-clause-out : goal.returns-clause-out
returns-clause-out c = Sizes.out_agrees

pub returns-clause-waited : goal.returns-clause-waited
returns-clause-waited c = Sizes.awaited_agree

pub returns-clause-last : goal.returns-clause-last
returns-clause-last c = Flushing.known_record
