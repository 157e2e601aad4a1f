use Rattle.fjall_trees.proofs.Planted as Planted
use Rattle.fjall_trees.proofs.map_laws.a_new_keyspace_is_a_creation.Goals as goal

pub returns-clause-forest : goal.returns-clause-forest
returns-clause-forest c = Planted.planted_forest

pub returns-clause-before : goal.returns-clause-before
returns-clause-before c = Planted.planted_before

pub returns-clause-has : goal.returns-clause-has
returns-clause-has c = Planted.planted_here

pub returns-clause-maps : goal.returns-clause-maps
returns-clause-maps c = Planted.planted_pairs

pub returns-clause-gone : goal.returns-clause-gone
returns-clause-gone c = Planted.planted_gone

pub returns-clause-store : goal.returns-clause-store
returns-clause-store c = Planted.creation_of_trees
