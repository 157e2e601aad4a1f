use Rattle.fjall_history.proofs.Growing.{no_present_conflict, still_pruned}
use Rattle.fjall_history.proofs.serial_laws.conflicts_rest_on_commits.Goals as goal

pub returns-clause-present : goal.returns-clause-present
returns-clause-present c = no_present_conflict

pub returns-clause-kept : goal.returns-clause-kept
returns-clause-kept c = still_pruned
