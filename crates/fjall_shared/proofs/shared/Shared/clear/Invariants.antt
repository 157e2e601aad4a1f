use Rattle.fjall_journal.specs.Changes.{Emptied, command_of}
use Rattle.fjall_history.specs.Histories.{plain}
use Rattle.fjall_shared.proofs.shared.Shared.clear.Given as goal

abbrev pub ghosts-tell : goal.ghosts-tell
ghosts-tell g a = record { said = plain (command_of (Emptied a.said.now.value)) }
