use Rattle.fjall_trees.proofs.Outstanding as Outstanding
use Rattle.fjall_trees.proofs.laws.merges_of_trees_stay_out.Goals as goal

pub returns-clause-pushed : goal.returns-clause-pushed
returns-clause-pushed c = Outstanding.merging_pushed

pub returns-clause-emptied : goal.returns-clause-emptied
returns-clause-emptied c = Outstanding.merging_emptied

pub returns-clause-rotated : goal.returns-clause-rotated
returns-clause-rotated c = Outstanding.merging_rotated

pub returns-clause-begun : goal.returns-clause-begun
returns-clause-begun c = Outstanding.merging_begun

pub returns-clause-flushed : goal.returns-clause-flushed
returns-clause-flushed c = Outstanding.merging_flushed

pub returns-clause-planted : goal.returns-clause-planted
returns-clause-planted c = Outstanding.merging_planted

pub returns-clause-same : goal.returns-clause-same
returns-clause-same c = Outstanding.merging_same

pub returns-clause-dropped_flush : goal.returns-clause-dropped_flush
returns-clause-dropped_flush c = Outstanding.merging_dropped

pub returns-clause-ingested : goal.returns-clause-ingested
returns-clause-ingested c = Outstanding.merging_ingested

pub returns-clause-elsewhere : goal.returns-clause-elsewhere
returns-clause-elsewhere c = Outstanding.merging_elsewhere
