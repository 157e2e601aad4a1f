use Rattle.fjall_trees.proofs.Outstanding as Outstanding
use Rattle.fjall_trees.proofs.laws.flushes_of_trees_stay_out.Goals as goal

pub returns-clause-pushed : goal.returns-clause-pushed
returns-clause-pushed c = Outstanding.flushing_pushed

pub returns-clause-emptied : goal.returns-clause-emptied
returns-clause-emptied c = Outstanding.flushing_emptied

pub returns-clause-rotated : goal.returns-clause-rotated
returns-clause-rotated c = Outstanding.flushing_rotated

pub returns-clause-begun : goal.returns-clause-begun
returns-clause-begun c = Outstanding.flushing_begun

pub returns-clause-merged : goal.returns-clause-merged
returns-clause-merged c = Outstanding.flushing_merged

pub returns-clause-planted : goal.returns-clause-planted
returns-clause-planted c = Outstanding.flushing_planted

pub returns-clause-same : goal.returns-clause-same
returns-clause-same c = Outstanding.flushing_same

pub returns-clause-others : goal.returns-clause-others
returns-clause-others c = Outstanding.other_shape

pub returns-clause-dropped : goal.returns-clause-dropped
returns-clause-dropped c = Outstanding.shape_left

pub returns-clause-dropped_flush : goal.returns-clause-dropped_flush
returns-clause-dropped_flush c = Outstanding.flushing_elsewhere

pub returns-clause-dropped_merge : goal.returns-clause-dropped_merge
returns-clause-dropped_merge c = Outstanding.flushing_merge_dropped
