use Rattle.fjall_changes.proofs.CrashedJournals.{eviction_stands, rotation_stands}
use Rattle.fjall_changes.proofs.sealed_laws.crashes_keep_what_was_synced.Goals as goal

pub returns-clause-rotation : goal.returns-clause-rotation
returns-clause-rotation c = rotation_stands

pub returns-clause-eviction : goal.returns-clause-eviction
returns-clause-eviction c = eviction_stands
