use Rattle.std.proofs.Common.{◌+◌, ◌<◌, ◌≤◌, List, ap, arith, length, subst, sym, take}
use Rattle.fjall_manifest.specs.declared.reading.LoadedHome.{LoadedHome}
use Rattle.fjall_meta.specs.declared.living.LivingKeyspace.{LivingKeyspace}
use Rattle.fjall_inspect.specs.declared.surveying.KeyspaceSurvey.{KeyspaceSurvey}
use Rattle.fjall_inspect.specs.Surveys.{AreSurveysOf}
use Rattle.fjall_inspect.proofs.Counting.{as_many, surveys_all, surveys_more}
use Rattle.fjall_inspect.proofs.surveying.survey.Goals as goal

pub loop-place-preserved : goal.loop-place-preserved
loop-place-preserved c =
    let living = c.living-living.result.now in
    let homes = c.as_slice-homes.result.now in
    let lt : c.loop-place.place < length living = omega (arith, c.loop-place-test.true, c.min-count.ensures) in
    let less : c.loop-place.place < length homes = omega (arith, c.loop-place-test.true, c.min-count.ensures) in
    subst (λ (l : List KeyspaceSurvey). AreSurveysOf (take (c.loop-place.place + 1) living) (take (c.loop-place.place + 1) homes) l) (sym c.in_ok-push.ensures.items)
    (surveys_more living homes c.loop-place.place _ c.index-living-place.result _ c.index-homes-place.result lt less c.index-living-place.is c.index-homes-place.is c.loop-place.surveys.items c.in_ok-one.one c.loop-place.invariant c.in_ok-one.ensures.survey)

pub returns-clause-surveys : goal.returns-clause-surveys
returns-clause-surveys c image read =
    let living = c.living-living.result.now in
    let homes = c.as_slice-homes.result.now in
    let many = as_many image c.args.folder.now.catalog.keyspaces.living c.args.folder.now.homes.items read.homes in
    let here = ap (λ (l : List LivingKeyspace). length l) c.living-living.ensures in
    let there = ap (λ (l : List LoadedHome). length l) c.as_slice-homes.ensures.value in
    let over : length living ≤ c.loop-place.place = omega (arith, c.loop-place-test.false, c.min-count.ensures, many, here, there) in
    let above : length homes ≤ c.loop-place.place = omega (arith, c.loop-place-test.false, c.min-count.ensures, many, here, there) in
    subst (λ (l : List LivingKeyspace). AreSurveysOf l c.args.folder.now.homes.items c.loop-place.surveys.items) c.living-living.ensures
    (subst (λ (l : List LoadedHome). AreSurveysOf living l c.loop-place.surveys.items) c.as_slice-homes.ensures.value
    (surveys_all living homes c.loop-place.place over above c.loop-place.surveys.items c.loop-place.invariant))
