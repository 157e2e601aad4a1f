use Rattle.fjall_memtable.proofs.NewestSeen as Newest
use Rattle.fjall_memtable.proofs.view_laws.parts_are_read_one_by_one.Goals as goal
use Rattle.fjall_memtable.specs.Views.{is_seen}

pub returns-clause-parts : goal.returns-clause-parts
returns-clause-parts c = λ key instant. Newest.newest-append (is_seen key instant)

pub returns-clause-first : goal.returns-clause-first
returns-clause-first c = λ key instant. Newest.behind_wins (is_seen key instant)
