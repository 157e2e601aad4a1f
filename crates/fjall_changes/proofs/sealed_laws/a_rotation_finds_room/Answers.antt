use Rattle.std.proofs.Common.{ap, refl}
use Rattle.fjall_base.specs.Disk.{Place}
use Rattle.fjall_files.specs.Names.{Journal, journal_name}
use Rattle.fjall_changes.proofs.sealed_laws.a_rotation_finds_room.Goals as goal

pub returns-clause-journal : goal.returns-clause-journal
returns-clause-journal c state id tidy small = (tidy (journal_name id)).0.kind (Journal id) small refl

pub returns-clause-keyspaces : goal.returns-clause-keyspaces
returns-clause-keyspaces c state records t rests = ap (λ (p : Place). p.older) rests.catalog.home.keyspaces_folder
