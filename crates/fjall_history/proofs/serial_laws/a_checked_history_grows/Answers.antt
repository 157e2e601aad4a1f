use Rattle.fjall_history.proofs.Growing.{checked_commit, checked_many, checked_opening, checked_plain, commits_commit, commits_many, commits_plain, numbered}
use Rattle.fjall_history.proofs.serial_laws.a_checked_history_grows.Goals as goal

pub returns-clause-opening : goal.returns-clause-opening
returns-clause-opening c = checked_opening

pub returns-clause-plain : goal.returns-clause-plain
returns-clause-plain c = checked_plain

pub returns-clause-plain_many : goal.returns-clause-plain_many
returns-clause-plain_many c = checked_many

pub returns-clause-commit : goal.returns-clause-commit
returns-clause-commit c = checked_commit

pub returns-clause-commits_of_plain : goal.returns-clause-commits_of_plain
returns-clause-commits_of_plain c = commits_plain

pub returns-clause-commits_of_many : goal.returns-clause-commits_of_many
returns-clause-commits_of_many c = commits_many

pub returns-clause-commits_of_commit : goal.returns-clause-commits_of_commit
returns-clause-commits_of_commit c = commits_commit

pub returns-clause-numbers : goal.returns-clause-numbers
returns-clause-numbers c = numbered
