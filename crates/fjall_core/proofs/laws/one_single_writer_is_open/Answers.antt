use Rattle.std.proofs.Common.{arith}
use Rattle.fjall_core.proofs.Writers.{one_more_writer, one_writer, writers_committed, writers_on}
use Rattle.fjall_core.proofs.laws.one_single_writer_is_open.Goals as goal

pub returns-clause-none_began : goal.returns-clause-none_began
returns-clause-none_began c tickets writer = λ i d l. absurd (omega (arith, l))

pub returns-clause-calls : goal.returns-clause-calls
returns-clause-calls c = writers_on

pub returns-clause-commits : goal.returns-clause-commits
returns-clause-commits c = writers_committed

pub returns-clause-begins : goal.returns-clause-begins
returns-clause-begins c = one_more_writer

pub returns-clause-one : goal.returns-clause-one
returns-clause-one c = one_writer
