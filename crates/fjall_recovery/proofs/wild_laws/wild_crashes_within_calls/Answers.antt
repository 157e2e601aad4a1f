use Rattle.fjall_base.proofs.Covers.{append_covered, cut_covered}
use Rattle.fjall_recovery.specs.Wild.{IsUnforged, SurvivesUnforged}
use Rattle.fjall_recovery.proofs.Covering.{grows_where, held_more, loosens_where}
use Rattle.fjall_recovery.proofs.wild_laws.wild_crashes_within_calls.Goals as goal

pub returns-clause-appends : goal.returns-clause-appends
returns-clause-appends c = append_covered SurvivesUnforged (grows_where IsUnforged held_more)

pub returns-clause-cuts : goal.returns-clause-cuts
returns-clause-cuts c = cut_covered SurvivesUnforged (loosens_where IsUnforged held_more)
