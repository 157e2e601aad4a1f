use Rattle.fjall_machine.specs.Machine.{instant_of}
use Rattle.fjall_index.proofs.Going.{now_indexed}
use Rattle.fjall_index.proofs.laws.views_show_the_index.Goals as goal

pub returns-clause-present : goal.returns-clause-present
returns-clause-present c = now_indexed

pub returns-clause-snapshot : goal.returns-clause-snapshot
returns-clause-snapshot c = λ field main index since core before t d all ticket le. all.views (instant_of t.state.tickets ticket.id) le
