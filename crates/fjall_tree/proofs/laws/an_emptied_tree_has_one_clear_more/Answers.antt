use Rattle.fjall_tree.proofs.Changes as Changes
use Rattle.fjall_tree.proofs.laws.an_emptied_tree_has_one_clear_more.Goals as goal

pub returns-clause-clears : goal.returns-clause-clears
returns-clause-clears c = Changes.emptied_clears

pub returns-clause-versions : goal.returns-clause-versions
returns-clause-versions c = Changes.emptied_versions

pub returns-clause-reads : goal.returns-clause-reads
returns-clause-reads c = Changes.emptied_read
