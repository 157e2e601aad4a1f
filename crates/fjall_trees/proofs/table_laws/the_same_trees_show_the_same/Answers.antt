use Rattle.fjall_trees.proofs.Alike as Alike
use Rattle.fjall_trees.proofs.table_laws.the_same_trees_show_the_same.Goals as goal

pub returns-clause-forest : goal.returns-clause-forest
returns-clause-forest c = Alike.same_forest

pub returns-clause-before : goal.returns-clause-before
returns-clause-before c = Alike.same_before

pub returns-clause-has : goal.returns-clause-has
returns-clause-has c = Alike.same_has

pub returns-clause-older : goal.returns-clause-older
returns-clause-older c = Alike.same_older

pub returns-clause-maps : goal.returns-clause-maps
returns-clause-maps c = Alike.same_pairs

pub returns-clause-store : goal.returns-clause-store
returns-clause-store c = Alike.same_store_with
