use Rattle.std.proofs.Common.{map}
use Rattle.fjall_journal.specs.Batches.{shown}
use Rattle.fjall_recovery.specs.Homes.{stored_in}
use Rattle.fjall_recovery.specs.Journals.{batches_in}
use Rattle.fjall_replay.proofs.Behind.{replayed_store_beside}
use Rattle.fjall_replay.proofs.loading_laws.opened_trees_show_the_store.Goals as goal

pub returns : goal.returns
returns c disk contents old new opened are = replayed_store_beside opened.entries contents.keyspaces (stored_in contents.homes contents.versions) (map shown (batches_in contents.journals)) new are
