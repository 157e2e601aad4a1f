-- What an opening tells of its journals: it is told of those that lie on the disk then.
use Rattle.std.proofs.Common.{◌^◌, ⊎_elim, ◌≡◌, ℕ, ◌+◌, ◌-◌, ◌<◌, List, [], ◌∷◌, ◌++◌, length, get_or, take, map, refl, sym, ap, ◌∙◌, subst, arith}
use Rattle.std.proofs.lemmas.List.{append-nil, get_or_default, map_more}
use Rattle.std.specs.List.{AllZip, Contains}
use Rattle.std.specs.List.Sorted.{IsStrictlyIncreasing}
use Rattle.fjall_base.specs.Disk.{Image}
use Rattle.fjall_journal.specs.Batches.{Written, shown}
use Rattle.fjall_files.specs.Journals.{Sealed}
use Rattle.fjall_files.specs.Marks.{JournalMarks}
use Rattle.fjall_files.specs.Telling.{AreMarksOf}
use Rattle.fjall_recovery.specs.declared.folder.RecoveredFolder.{RecoveredFolder}
use Rattle.fjall_recovery.specs.Folders.{Contents, IsFinished, IsNumbered, IsOpenable, ShowsContents}
use Rattle.fjall_recovery.specs.Journals.{AreJournalIds, WholeJournal}
use Rattle.fjall_recovery.specs.Places.{Journaling, journals_with}
use Rattle.fjall_recovery.specs.Told.{TellOf, TellsOf}
use Rattle.fjall_recovery.proofs.Alone.{one_reading}
use Rattle.fjall_recovery.proofs.Gathering.{split_last}
use Rattle.fjall_recovery.proofs.Telling.{ids_in, no_marks, tell_apart, tell_last, tell_more}
use Rattle.fjall_repair.specs.declared.beginning.plan.BeginPlan.{BeginPlan}
use Rattle.fjall_repair.specs.Plans.{AreToBe, IsBeginPlan, empty_journal, empty_journals, journals_begun}
use Rattle.fjall_opening.specs.declared.opened.Opened.{Opened}
use Rattle.fjall_opening.specs.Opened.{HasJournals, HasNoJournal}
use Rattle.fjall_repair.specs.Steps.{active_of, opened}
use Rattle.fjall_repair.proofs.MendOpened.{ids_of}
use Rattle.fjall_files.specs.Places.{told}
use Rattle.fjall_repair.proofs.Rested.{active_parted}

-- ---- journals that hold nothing

empty_tells : (id : ℕ) (journal : Sealed) → journal ≡ record { id = id; len = 0; watermarks = [] } → TellsOf (empty_journal id) journal
empty_tells id journal is = record { id_is = ap (λ (s : Sealed). s.id) is; len_is = ap (λ (s : Sealed). s.len) is; marks = subst (AreMarksOf []) (sym (ap (λ (s : Sealed). s.watermarks) is)) no_marks }

pub empty_more : (ids : List ℕ) (n : ℕ) (sealed new : List Sealed) (journal : Sealed) → n < length ids → AllZip TellsOf (map empty_journal (take n ids)) sealed
    → journal ≡ record { id = get_or ids n 0; len = 0; watermarks = [] } → new ≡ sealed ++ journal ∷ [] → AllZip TellsOf (map empty_journal (take (n + 1) ids)) new
empty_more ids n sealed new journal lt so_far is pushed =
    subst (AllZip TellsOf (map empty_journal (take (n + 1) ids))) (sym pushed)
    (subst (λ (l : List WholeJournal). AllZip TellsOf l (sealed ++ journal ∷ [])) (sym (map_more empty_journal ids n 0 lt))
    (tell_more (map empty_journal (take n ids)) sealed (empty_journal (get_or ids n 0)) journal so_far (empty_tells (get_or ids n 0) journal is)))

pub none_written : (sealed : List ℕ) (active : ℕ) (told : List Sealed) (marks : JournalMarks) → AllZip TellsOf (map empty_journal sealed) told → marks ≡ [] → TellOf (journals_with (empty_journals sealed active) []) told marks
none_written sealed active told marks tell none = tell_last (map empty_journal sealed) (empty_journal active) told marks tell (subst (AreMarksOf []) (sym none) no_marks)

pub active_begun : (plan : BeginPlan) → plan.active ≡ active_of (ids_of (journals_begun plan))
active_begun plan = sym (active_parted (journals_begun plan) (record { sealed = map empty_journal plan.sealed.items; active = empty_journal plan.active; is = refl }))

-- ---- the journals on the disk

-- what tells of a folder's journals tells of an empty one where it has none
pub tell_opened : (journals : List WholeJournal) (sealed : List Sealed) (marks : JournalMarks) → TellOf journals sealed marks → TellOf (opened journals) sealed marks
tell_opened [] sealed marks tell = tell
tell_opened (j ∷ journals) sealed marks tell = tell

pub active_opened : (journals : List WholeJournal) → active_of (ids_of (opened journals)) ≡ active_of (ids_of journals)
active_opened [] = refl
active_opened (j ∷ journals) = refl

-- what was read tells of what the folder holds
pub told_read : (image : Image) (found : RecoveredFolder) (contents : Contents) → IsFinished image found → ShowsContents found contents → IsOpenable image contents
    → TellOf contents.journals found.journals.sealed found.journals.watermarks
told_read image found contents read shows is =
    let told = read.told in
    subst (λ (l : List WholeJournal). TellOf l found.journals.sealed found.journals.watermarks) (one_reading image told.journals contents.journals (told.named ∙ shows.ids) told.read is.journals.read) told.tell

pub told_contents : (image : Image) (found : RecoveredFolder) (contents : Contents) → IsFinished image found → ShowsContents found contents → IsOpenable image contents
    → TellOf (opened contents.journals) found.journals.sealed found.journals.watermarks
told_contents image found contents read shows is = tell_opened contents.journals found.journals.sealed found.journals.watermarks (told_read image found contents read shows is)

-- and what was opened tells the same
pub tell_as : (journals : List WholeJournal) (found : RecoveredFolder) (o : Opened) {active : ℕ} → HasJournals o found.journals.sealed active found.journals.watermarks
    → TellOf journals found.journals.sealed found.journals.watermarks → TellOf journals o.sealed (told o.watermarks)
tell_as journals found o has tell =
    subst (λ (l : List Sealed). TellOf journals l (told o.watermarks)) (sym has.sealed_are) (subst (TellOf journals found.journals.sealed) (sym has.marks_are) tell)

pub active_contents : (found : RecoveredFolder) (contents : Contents) → ShowsContents found contents → active_of found.journal_ids.items ≡ active_of (ids_of (opened contents.journals))
active_contents found contents shows = ap active_of shows.ids ∙ sym (active_opened contents.journals)

-- what is told of the journals that lie there is told of the sealed ones and of the active one
module _ (j : Journaling) (journals : List WholeJournal) (are : journals_with j [] ≡ journals) where
  pub tell_lying : (sealed : List Sealed) (marks : JournalMarks) → TellOf journals sealed marks → AllZip TellsOf j.sealed sealed × AreMarksOf (map shown j.whole) marks
  tell_lying sealed marks tell =
      let last : WholeJournal = record { id = j.active; batches = j.whole ++ [] } in
      let apart = tell_apart j.sealed last sealed marks (subst (λ (l : List WholeJournal). TellOf l sealed marks) (sym are) tell) in
      (apart.0, subst (λ (l : List Written). AreMarksOf (map shown l) marks) (append-nil j.whole) apart.1)

  pub active_lying : active_of (ids_of journals) ≡ j.active
  active_lying = ap (λ (l : List WholeJournal). active_of (ids_of l)) (sym are) ∙ active_parted (journals_with j []) (record { sealed = j.sealed; active = record { id = j.active; batches = j.whole ++ [] }; is = refl })

-- ---- their numbers, on whatever disk

one_rises : (n : ℕ) → IsStrictlyIncreasing (n ∷ [])
one_rises n k lt = absurd (omega (arith, lt))

ids_rise : (ids : List ℕ) → IsStrictlyIncreasing ids → IsStrictlyIncreasing (take (length ids - 1) ids ++ active_of ids ∷ [])
ids_rise [] rise = one_rises 1
ids_rise (id ∷ ids) rise =
    let all = split_last (id ∷ ids) (omega arith) in
    let last = get_or_default (id ∷ ids) (length (id ∷ ids) - 1) 1 0 (omega arith) in
    subst IsStrictlyIncreasing (sym (ap (λ (n : ℕ). take (length (id ∷ ids) - 1) (id ∷ ids) ++ n ∷ []) last ∙ all)) rise

-- sealed ones of all ascending ids but the last, and the last of them, or 1
pub rise_of : (ids : List ℕ) (sealed : List Sealed) (active : ℕ) → IsStrictlyIncreasing ids → ids_in sealed ≡ take (length ids - 1) ids → active ≡ active_of ids → IsStrictlyIncreasing (ids_in sealed ++ active ∷ [])
rise_of ids sealed active rise named last = subst IsStrictlyIncreasing (sym (ap (λ (l : List ℕ). l ++ active ∷ []) named ∙ ap (λ (n : ℕ). take (length ids - 1) ids ++ n ∷ []) last)) (ids_rise ids rise)

-- ---- where no journal stands

first_in : (id : ℕ) (ids : List ℕ) → Contains (id ∷ ids) id
first_in id ids = (0, omega arith, refl)

none_there : (image : Image) (ids : List ℕ) → AreJournalIds image ids → HasNoJournal image → ids ≡ []
none_there image [] are none = refl
none_there image (id ∷ ids) are none = let there = (are.each id).0 (first_in id ids) in absurd (none id there.0 there.1)

no_ids : (sealed : List Sealed) → ids_in sealed ≡ [] → sealed ≡ []
no_ids [] is = refl
no_ids (s ∷ sealed) is = let bad : ⊥ = cc in absurd bad

pub none_read : (image : Image) (found : RecoveredFolder) (o : Opened) {active : ℕ} {marks : JournalMarks} → IsFinished image found → IsNumbered found → HasNoJournal image → HasJournals o found.journals.sealed active marks → o.sealed ≡ []
none_read image found o read numbered none has =
    has.sealed_are ∙ no_ids found.journals.sealed (numbered.sealed ∙ ap (λ (ids : List ℕ). take (length ids - 1) ids) (none_there image found.journal_ids.items read.journal_ids none))

-- of a journal that is to be made there is none but 0
made_anew : (image : Image) (ids : List ℕ) → AreToBe image ids → HasNoJournal image → (id : ℕ) → id < 2 ^ 64 → Contains ids id → id ≡ 0
made_anew image ids to_be none id small has = ⊎_elim (λ there. absurd (none id small there)) (λ zero. zero) (to_be.each id has)

-- two of them would both be 0
two : (image : Image) (first second : ℕ) (more : List ℕ) → AreToBe image (first ∷ second ∷ more) → HasNoJournal image → ⊥
two image first second more to_be none =
    let ids = first ∷ second ∷ more in
    let less : first < second = to_be.ascending 0 (omega arith) in
    let one = made_anew image ids to_be none first (to_be.fit 0 0 (omega arith)) (0, omega arith, refl) in
    let other = made_anew image ids to_be none second (to_be.fit 1 0 (omega arith)) (1, omega arith, refl) in
    omega (arith, less, one, other)

alone_made : (image : Image) (sealed : List ℕ) (active : ℕ) → AreToBe image (sealed ++ active ∷ []) → HasNoJournal image → sealed ≡ []
alone_made image [] active to_be none = refl
alone_made image (id ∷ []) active to_be none = absurd (two image id active [] to_be none)
alone_made image (id ∷ other ∷ sealed) active to_be none = absurd (two image id other (sealed ++ active ∷ []) to_be none)

pub none_begun : (image : Image) (plan : BeginPlan) (sealed : List Sealed) (marks : JournalMarks) → IsBeginPlan image plan → HasNoJournal image → TellOf (journals_begun plan) sealed marks → sealed ≡ []
none_begun image plan sealed marks is none tell =
    (subst (λ (l : List ℕ). TellOf (journals_with (empty_journals l plan.active) []) sealed marks) (alone_made image plan.sealed.items plan.active is.to_be none) tell).0
