use Rattle.fjall_memtable.proofs.Writing as Writing
use Rattle.fjall_memtable.proofs.view_laws.a_clear_is_one_clear_more.Goals as goal

pub returns-clause-empties : goal.returns-clause-empties
returns-clause-empties c = Writing.clear_empties

pub returns-clause-leaves : goal.returns-clause-leaves
returns-clause-leaves c = Writing.clear_leaves

pub returns-clause-keeps : goal.returns-clause-keeps
returns-clause-keeps c = Writing.clear_keeps
