use Rattle.fjall_tree.proofs.Changes as Changes
use Rattle.fjall_tree.proofs.laws.a_rotated_tree_holds_the_same.Goals as goal

pub returns-clause-clears : goal.returns-clause-clears
returns-clause-clears c = Changes.sealed_clears

pub returns-clause-versions : goal.returns-clause-versions
returns-clause-versions c = Changes.sealed_versions

pub returns-clause-reads : goal.returns-clause-reads
returns-clause-reads c = Changes.sealed_read
