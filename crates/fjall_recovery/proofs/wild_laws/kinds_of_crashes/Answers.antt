use Rattle.fjall_base.specs.Disk.{Survives, SurvivesWild}
use Rattle.fjall_recovery.specs.Wild.{IsUnforged, SurvivesUnforged}
use Rattle.fjall_recovery.proofs.Covering.{held_alone, held_more, leaves_wider, unforged_wild, usual_where}
use Rattle.fjall_recovery.proofs.wild_laws.kinds_of_crashes.Goals as goal

pub returns-clause-usual : goal.returns-clause-usual
returns-clause-usual c = leaves_wider Survives SurvivesUnforged (usual_where IsUnforged held_more held_alone)

pub returns-clause-wild : goal.returns-clause-wild
returns-clause-wild c = leaves_wider SurvivesUnforged SurvivesWild unforged_wild
