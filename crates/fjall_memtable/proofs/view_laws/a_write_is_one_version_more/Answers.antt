use Rattle.fjall_memtable.proofs.Writing as Writing
use Rattle.fjall_memtable.proofs.view_laws.a_write_is_one_version_more.Goals as goal

pub returns-clause-shows : goal.returns-clause-shows
returns-clause-shows c = Writing.write_shows

pub returns-clause-keeps : goal.returns-clause-keeps
returns-clause-keeps c = Writing.write_keeps

pub returns-clause-alters : goal.returns-clause-alters
returns-clause-alters c = Writing.write_alters

pub returns-clause-replaces : goal.returns-clause-replaces
returns-clause-replaces c = Writing.write_replaces
