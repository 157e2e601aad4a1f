use Rattle.fjall_base.specs.Store.{Create}
use Rattle.fjall_meta.specs.Replays.{option_pairs}
use Rattle.fjall_history.specs.Histories.{plain}
use Rattle.fjall_shared.proofs.shared.Shared.keyspace.Given as goal

abbrev pub ghosts-tell : goal.ghosts-tell
ghosts-tell g a = record { said = plain (Create a.said.now.value.0.now (option_pairs a.said.now.value.1)) }
