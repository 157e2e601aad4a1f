-- Counts of tables, and surveys of one keyspace after another.
use Rattle.std.proofs.Common.{◌≡◌, ℕ, ◌+◌, ◌<◌, ◌≤◌, List, [], ◌∷◌, ◌++◌, length, take, get_or, Option, None, add-one, refl, sym, ◌∙◌, ap, subst, arith}
use Rattle.std.specs.List.{filter}
use Rattle.std.proofs.lemmas.List.{take_all}
use Rattle.std.proofs.Math.Seq.{take-suc}
use Rattle.fjall_base.specs.Disk.{Image}
use Rattle.fjall_table.specs.declared.level.Level.{Level}
use Rattle.fjall_table.specs.declared.table_info.TableInfo.{TableInfo}
use Rattle.fjall_manifest.specs.declared.reading.LoadedHome.{LoadedHome}
use Rattle.fjall_meta.specs.declared.living.LivingKeyspace.{LivingKeyspace}
use Rattle.fjall_recovery.specs.Homes.{AreHomesRead}
use Rattle.fjall_inspect.specs.declared.surveying.KeyspaceSurvey.{KeyspaceSurvey}
use Rattle.fjall_inspect.specs.declared.surveying.TableCounts.{TableCounts}
use Rattle.fjall_inspect.specs.Surveys.{AreCounts, AreSurveysOf, IsSurveyOf, is_at}

-- ---- counts

-- each one is counted where no level is given
all_kept : (tables : List TableInfo) → filter (is_at None) tables ≡ tables
all_kept [] = refl
all_kept (t ∷ tables) = ap (λ (l : List TableInfo). t ∷ l) (all_kept tables)

pub all_counted : (tables : List TableInfo) (counts : TableCounts) → AreCounts (filter (is_at None) tables) counts → AreCounts tables counts
all_counted tables counts are = subst (λ (l : List TableInfo). AreCounts l counts) (all_kept tables) are

-- one more of a list was counted
pub counted_more : (level : Option Level) (tables : List TableInfo) (n : ℕ) (d t : TableInfo) → n < length tables → t ≡ get_or tables n d → (counts new : TableCounts)
    → ((front : List TableInfo) → AreCounts (filter (is_at level) front) counts → AreCounts (filter (is_at level) (front ++ t ∷ [])) new) → AreCounts (filter (is_at level) (take n tables)) counts
    → AreCounts (filter (is_at level) (take (n + 1) tables)) new
counted_more level tables n d t lt at counts new step are =
    subst (λ (l : List TableInfo). AreCounts (filter (is_at level) l) new) (sym (ap (λ (m : ℕ). take m tables) (add-one n) ∙ take-suc tables n d lt ∙ ap (λ (x : TableInfo). take n tables ++ x ∷ []) (sym at)))
    (step (take n tables) are)

-- ---- surveys

one_survey : (living : List LivingKeyspace) (homes : List LoadedHome) (surveys : List KeyspaceSurvey) (k : LivingKeyspace) (home : LoadedHome) (s : KeyspaceSurvey) → AreSurveysOf living homes surveys → IsSurveyOf k home s
    → AreSurveysOf (living ++ k ∷ []) (homes ++ home ∷ []) (surveys ++ s ∷ [])
one_survey [] [] [] k home s are one = (one, tt)
one_survey [] [] (x ∷ surveys) k home s are one = absurd are
one_survey [] (h ∷ homes) surveys k home s are one = absurd are
one_survey (j ∷ living) [] surveys k home s are one = absurd are
one_survey (j ∷ living) (h ∷ homes) [] k home s are one = absurd are
one_survey (j ∷ living) (h ∷ homes) (x ∷ surveys) k home s are one = (are.0, one_survey living homes surveys k home s are.1 one)

pub surveys_more : (living : List LivingKeyspace) (homes : List LoadedHome) (n : ℕ) (d k : LivingKeyspace) (e home : LoadedHome) → n < length living → n < length homes → k ≡ get_or living n d → home ≡ get_or homes n e
    → (surveys : List KeyspaceSurvey) (s : KeyspaceSurvey) → AreSurveysOf (take n living) (take n homes) surveys → IsSurveyOf k home s → AreSurveysOf (take (n + 1) living) (take (n + 1) homes) (surveys ++ s ∷ [])
surveys_more living homes n d k e home lt less at there surveys s are one =
    subst (λ (l : List LivingKeyspace). AreSurveysOf l (take (n + 1) homes) (surveys ++ s ∷ [])) (sym (ap (λ (m : ℕ). take m living) (add-one n) ∙ take-suc living n d lt ∙ ap (λ (x : LivingKeyspace). take n living ++ x ∷ []) (sym at)))
    (subst (λ (l : List LoadedHome). AreSurveysOf (take n living ++ k ∷ []) l (surveys ++ s ∷ [])) (sym (ap (λ (m : ℕ). take m homes) (add-one n) ∙ take-suc homes n e less ∙ ap (λ (x : LoadedHome). take n homes ++ x ∷ []) (sym there)))
    (one_survey (take n living) (take n homes) surveys k home s are one))

-- each keyspace has its home
pub as_many : (image : Image) (living : List LivingKeyspace) (homes : List LoadedHome) → AreHomesRead image living homes → length living ≡ length homes
as_many image [] [] read = refl
as_many image [] (home ∷ homes) read = absurd read
as_many image (k ∷ living) [] read = absurd read
as_many image (k ∷ living) (home ∷ homes) read = let rest = as_many image living homes read.1 in omega (arith, rest)

pub surveys_all : (living : List LivingKeyspace) (homes : List LoadedHome) (n : ℕ) → length living ≤ n → length homes ≤ n → (surveys : List KeyspaceSurvey) → AreSurveysOf (take n living) (take n homes) surveys → AreSurveysOf living homes surveys
surveys_all living homes n over above surveys are =
    subst (λ (l : List LivingKeyspace). AreSurveysOf l homes surveys) (take_all n living over) (subst (λ (l : List LoadedHome). AreSurveysOf (take n living) l surveys) (take_all n homes above) are)
