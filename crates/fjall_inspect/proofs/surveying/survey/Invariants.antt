use Rattle.std.proofs.Common.{take}
use Rattle.fjall_inspect.specs.Surveys.{AreSurveysOf}
use Rattle.fjall_inspect.proofs.surveying.survey.Given as goal

abbrev pub invariant-loop-place : goal.invariant-loop-place
invariant-loop-place l = AreSurveysOf (take l.place l.living) (take l.place l.homes) l.surveys.items
