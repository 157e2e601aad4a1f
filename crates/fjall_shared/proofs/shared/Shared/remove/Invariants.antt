use Rattle.std.proofs.Common.{◌∷◌, []}
use Rattle.fjall_journal.specs.Changes.{Items, command_of}
use Rattle.fjall_journal.specs.declared.op.Op.TheVariants as ops
use Rattle.fjall_history.specs.Histories.{plain}
use Rattle.fjall_shared.proofs.shared.Shared.remove.Given as goal

abbrev pub ghosts-tell : goal.ghosts-tell
ghosts-tell g a = record { said = plain (command_of (Items ((a.said.now.value.0, a.said.now.value.1.now, ops.Remove) ∷ []))) }
