use Rattle.fjall_machine.proofs.Sizes as Sizes
use Rattle.fjall_machine.proofs.laws.counts_agree.Goals as goal

pub returns-clause-versions : goal.returns-clause-versions
returns-clause-versions c = Sizes.versions_agree

pub returns-clause-sealed : goal.returns-clause-sealed
returns-clause-sealed c = Sizes.sealed_agree

pub returns-clause-buffer : goal.returns-clause-buffer
returns-clause-buffer c = Sizes.buffers_agree

pub returns-clause-wants : goal.returns-clause-wants
returns-clause-wants c = Sizes.wants_agree

pub returns-clause-rotates : goal.returns-clause-rotates
returns-clause-rotates c = Sizes.rotations_agree

pub returns-clause-tables : goal.returns-clause-tables
returns-clause-tables c = Sizes.tables_agree
