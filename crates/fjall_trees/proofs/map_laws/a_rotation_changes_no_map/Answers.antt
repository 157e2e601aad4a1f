use Rattle.fjall_trees.proofs.Rotated as Rotated
use Rattle.fjall_trees.proofs.map_laws.a_rotation_changes_no_map.Goals as goal

pub returns-clause-forest : goal.returns-clause-forest
returns-clause-forest c = Rotated.rotated_forest

pub returns-clause-before : goal.returns-clause-before
returns-clause-before c = Rotated.rotated_before

pub returns-clause-bare : goal.returns-clause-bare
returns-clause-bare c = Rotated.rotated_bare

pub returns-clause-has : goal.returns-clause-has
returns-clause-has c = Rotated.rotated_has

pub returns-clause-maps : goal.returns-clause-maps
returns-clause-maps c = Rotated.rotated_pairs

pub returns-clause-store : goal.returns-clause-store
returns-clause-store c = Rotated.rotated_store
