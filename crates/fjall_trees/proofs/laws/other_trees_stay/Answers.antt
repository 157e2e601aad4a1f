use Rattle.fjall_trees.proofs.Others as Others
use Rattle.fjall_trees.proofs.laws.other_trees_stay.Goals as goal

pub returns-clause-altered : goal.returns-clause-altered
returns-clause-altered c = Others.altered_here

pub returns-clause-others : goal.returns-clause-others
returns-clause-others c = Others.altered_other

pub returns-clause-dropped : goal.returns-clause-dropped
returns-clause-dropped c = Others.dropped_here

pub returns-clause-kept : goal.returns-clause-kept
returns-clause-kept c = Others.kept_others
