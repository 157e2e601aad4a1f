use Rattle.fjall_tx.specs.Owns.{items_of}
use Rattle.fjall_core.specs.Standing.{accepted_of}
use Rattle.fjall_shared.proofs.shared.Shared.commit.Given as goal

abbrev pub ghosts-tell : goal.ghosts-tell
ghosts-tell g a = record { said = accepted_of a.said.now.value.0 a.said.now.value.1.marks (items_of a.said.now.value.1.own) }
