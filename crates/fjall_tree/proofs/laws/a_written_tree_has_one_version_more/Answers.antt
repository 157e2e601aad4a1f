use Rattle.fjall_tree.proofs.Changes as Changes
use Rattle.fjall_tree.proofs.laws.a_written_tree_has_one_version_more.Goals as goal

pub returns-clause-view : goal.returns-clause-view
returns-clause-view c = Changes.written_view

pub returns-clause-shows : goal.returns-clause-shows
returns-clause-shows c = Changes.written_shows

pub returns-clause-keeps : goal.returns-clause-keeps
returns-clause-keeps c = Changes.written_keeps

pub returns-clause-clears : goal.returns-clause-clears
returns-clause-clears c = Changes.written_clears

pub returns-clause-reads : goal.returns-clause-reads
returns-clause-reads c = Changes.written_read
