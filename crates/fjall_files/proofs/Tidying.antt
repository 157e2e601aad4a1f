-- A disk on which nothing stands in the way, before and after its steps and crashes.
use Rattle.std.proofs.Common.{◌≡◌, ◌≢◌, ◌⊎◌, inl, inr, ⊎_elim, ℕ, List, [], ◌∷◌, ◌++◌, Result, Ok, Err, OnOk, OnErr, refl, sym, ◌∙◌, ap, subst, append_assoc}
use Rattle.std.specs.List.{AllByRecursion}
use Rattle.std.specs.Str.{bytes_eq}
use Rattle.fjall_base.specs.declared.error.Error.{Error}
use Rattle.fjall_base.proofs.States.{alter-other, alter-same, put-other, put-same, settle-in, settle-out}
use Rattle.fjall_base.specs.Disk.{Name, DiskEntry, Missing, File, Folder, Place, DiskState, Image, IsImage, IsThere, Leaves, Meaning, SomeSurvives, DiskStep, Put, Append, Sync, Loosen, Cut, SyncFolder, Survives, Took, TookCut, TookOrNot, TookPart, IsNoFile, IsNoFolder, after, all_synced, alter, appended, change, cut_to, disk_of, folder_of, loosened, making, put, removing, settle, state_in}
use Rattle.fjall_base.proofs.Names.{bool_cases, same}
use Rattle.fjall_base.proofs.Moments.{after-append}
use Rattle.std.proofs.lemmas.List.{append_cancel_left, append-nil}
use Rattle.fjall_files.specs.Names.{KeptName, Lock, Version, Journal, AllKeyspaces, Keyspace, Current, Table}
use Rattle.fjall_files.specs.Tidy.{FitsAt, IsOfKind, IsTidy, IsTidyStep, StaysTidy}

-- ---- what fits

of_kind_missing : (kept : KeptName) → IsOfKind kept Missing
of_kind_missing AllKeyspaces = tt
of_kind_missing (Keyspace id) = tt
of_kind_missing kept = tt

-- nothing may stand everywhere
pub fits_missing : (name : Name) → FitsAt name Missing
fits_missing name = record { kind = λ kept ids is. of_kind_missing kept; home = λ id some small inside there. absurd (there refl) }

-- what one entry is, the other is too
abbrev Alike : DiskEntry → DiskEntry → Type 0
Alike entry other = (IsNoFile entry → IsNoFile other) × (IsNoFolder entry → IsNoFolder other) × (other ≢ Missing → entry ≢ Missing)

kind_alike : (kept : KeptName) (entry other : DiskEntry) → Alike entry other → IsOfKind kept entry → IsOfKind kept other
kind_alike AllKeyspaces entry other alike is = alike.0 is
kind_alike (Keyspace id) entry other alike is = alike.0 is
kind_alike Lock entry other alike is = alike.1 is
kind_alike Version entry other alike is = alike.1 is
kind_alike (Journal id) entry other alike is = alike.1 is
kind_alike (Current id) entry other alike is = alike.1 is
kind_alike (Table id n) entry other alike is = alike.1 is

fits_alike : (name : Name) (entry other : DiskEntry) → Alike entry other → FitsAt name entry → FitsAt name other
fits_alike name entry other alike fits = record {
  kind = λ kept ids is. kind_alike kept entry other alike (fits.kind kept ids is);
  home = λ id some small inside there. fits.home id some small inside (alike.2 there);
}

file_there : (s u : List ℕ) → File s u ≢ Missing
file_there s u is = let no : File s u ≡ Missing = is in cc

alike_appended : (bytes : List ℕ) (entry : DiskEntry) → Alike entry (appended bytes entry)
alike_appended bytes Missing = (λ a. a, λ a. a, λ a. a)
alike_appended bytes (File s u) = (λ a. a, λ a. a, λ a. file_there s u)
alike_appended bytes Folder = (λ a. a, λ a. a, λ a. a)

alike_synced : (entry : DiskEntry) → Alike entry (all_synced entry)
alike_synced Missing = (λ a. a, λ a. a, λ a. a)
alike_synced (File s u) = (λ a. a, λ a. a, λ a. file_there s u)
alike_synced Folder = (λ a. a, λ a. a, λ a. a)

alike_loosened : (len : ℕ) (entry : DiskEntry) → Alike entry (loosened len entry)
alike_loosened len Missing = (λ a. a, λ a. a, λ a. a)
alike_loosened len (File s u) = (λ a. a, λ a. a, λ a. file_there s u)
alike_loosened len Folder = (λ a. a, λ a. a, λ a. a)

alike_cut : (len : ℕ) (entry : DiskEntry) → Alike entry (cut_to len entry)
alike_cut len Missing = (λ a. a, λ a. a, λ a. a)
alike_cut len (File s u) = (λ a. a, λ a. a, λ a. file_there s u)
alike_cut len Folder = (λ a. a, λ a. a, λ a. a)

alike_left : (entry left : DiskEntry) → Survives entry left → Alike entry left
alike_left Missing left is = subst (Alike Missing) (sym is) (λ a. a, λ a. a, λ a. a)
alike_left (File s u) left is = subst (Alike (File s u)) (sym is.1) (λ a. a, λ a. a, λ a. file_there s u)
alike_left Folder left is = subst (Alike Folder) (sym is) (λ a. a, λ a. a, λ a. a)

-- ---- one step

fits_last : (name : Name) (older : List DiskEntry) (entry : DiskEntry) → AllByRecursion (FitsAt name) older → FitsAt name entry → AllByRecursion (FitsAt name) (older ++ entry ∷ [])
fits_last name [] entry all fits = (fits, tt)
fits_last name (e ∷ older) entry all fits = (all.0, fits_last name older entry all.1 fits)

-- the place has this in it
abbrev FitsPlace : Name → Place → Type 0
FitsPlace name place = AllByRecursion (FitsAt name) (place.now ∷ place.older)

fits_along : (name : Name) (place other : Place) → place ≡ other → FitsPlace name other → FitsPlace name place
fits_along name place other is fits = subst (FitsPlace name) (sym is) fits

altered : (state : DiskState) (name : Name) (f : DiskEntry → DiskEntry) → ((entry : DiskEntry) → Alike entry (f entry)) → IsTidy state → IsTidy (alter state name f)
altered state name f alike tidy q = elim (bool_cases (bytes_eq q name)) [
  | inl is ↦ subst (λ (n : Name). FitsPlace n (alter state name f n)) (sym (same is))
      (fits_along name (alter state name f name) (record { now = f (state name).now; older = (state name).older }) (alter-same state name f)
      (fits_alike name (state name).now (f (state name).now) (alike (state name).now) (tidy name).0, (tidy name).1))
  | inr not ↦ fits_along q (alter state name f q) (state q) (alter-other state name f q not) (tidy q)
]

put_tidy : (state : DiskState) (name : Name) (entry : DiskEntry) → FitsAt name entry → IsTidy state → IsTidy (put state name entry)
put_tidy state name entry fits tidy q = elim (bool_cases (bytes_eq q name)) [
  | inl is ↦ subst (λ (n : Name). FitsPlace n (put state name entry n)) (sym (same is))
      (fits_along name (put state name entry name) (record { now = entry; older = (state name).older ++ (state name).now ∷ [] }) (put-same state name entry)
      (fits, fits_last name (state name).older (state name).now (tidy name).1 (tidy name).0))
  | inr not ↦ fits_along q (put state name entry q) (state q) (put-other state name entry q not) (tidy q)
]

settled_tidy : (state : DiskState) (folder : Name) → IsTidy state → IsTidy (settle state folder)
settled_tidy state folder tidy q = elim (bool_cases (bytes_eq (folder_of q) folder)) [
  | inl is ↦ fits_along q (settle state folder q) (record { now = (state q).now; older = [] }) (settle-in state folder q (same is)) ((tidy q).0, tt)
  | inr not ↦ fits_along q (settle state folder q) (state q) (settle-out state folder q not) (tidy q)
]

step_tidy : (step : DiskStep) (state : DiskState) → IsTidyStep step → IsTidy state → IsTidy (change step state)
step_tidy (Put name entry) state fits tidy = put_tidy state name entry fits tidy
step_tidy (Append name bytes) state fits tidy = altered state name (appended bytes) (alike_appended bytes) tidy
step_tidy (Sync name) state fits tidy = altered state name all_synced alike_synced tidy
step_tidy (Loosen name len) state fits tidy = altered state name (loosened len) (alike_loosened len) tidy
step_tidy (Cut name len) state fits tidy = altered state name (cut_to len) (alike_cut len) tidy
step_tidy (SyncFolder folder) state fits tidy = settled_tidy state folder tidy

steps_tidy : (steps : List DiskStep) (state : DiskState) → AllByRecursion IsTidyStep steps → IsTidy state → IsTidy (after state steps)
steps_tidy [] state each tidy = tidy
steps_tidy (step ∷ steps) state each tidy = steps_tidy steps (change step state) each.1 (step_tidy step state each.0 tidy)

-- ---- what a crash leaves

some_fits : (name : Name) (entries : List DiskEntry) (left : DiskEntry) → AllByRecursion (FitsAt name) entries → SomeSurvives entries left → FitsAt name left
some_fits name [] left all some = absurd some
some_fits name (entry ∷ entries) left all (inl is) = fits_alike name entry left (alike_left entry left is) all.0
some_fits name (entry ∷ entries) left all (inr later) = some_fits name entries left all.1 later

-- the folder is there, or it isn't
pub there_or_not : (image : Image) (folder : Name) → IsThere image folder ⊎ (IsThere image folder → ⊥)
there_or_not image [] = inl (inl refl)
there_or_not image (c ∷ cs) = by (image (c ∷ cs)) refl
  where
    by : (entry : DiskEntry) → image (c ∷ cs) ≡ entry → IsThere image (c ∷ cs) ⊎ (IsThere image (c ∷ cs) → ⊥)
    by Missing is = inr (λ there. ⊎_elim (λ e. let no : ⊥ = cc in no) (λ e. let no : Missing ≡ Folder = sym is ∙ e in cc) there)
    by (File synced unsynced) is = inr (λ there. ⊎_elim (λ e. let no : ⊥ = cc in no) (λ e. let no : File synced unsynced ≡ Folder = sym is ∙ e in cc) there)
    by Folder is = inl (inr is)

-- what a crash leaves of a tidy disk is tidy
pub image_tidy : (state : DiskState) (image : Image) → IsTidy state → IsImage state image → IsTidy (disk_of image)
image_tidy state image tidy is name = elim (there_or_not image (folder_of name)) [
  | inl there ↦ (some_fits name ((state name).now ∷ (state name).older) (image name) (tidy name) (is.kept name there), tt)
  | inr gone ↦ (subst (FitsAt name) (sym (is.lost name gone)) (fits_missing name), tt)
]

-- at whichever moment of such steps
pub left_tidy : (steps : List DiskStep) (state : DiskState) (image : Image) → AllByRecursion IsTidyStep steps → IsTidy state → Leaves state steps image → IsTidy (disk_of image)
left_tidy [] state image each tidy left = image_tidy state image tidy left
left_tidy (step ∷ steps) state image each tidy (inl now) = image_tidy state image tidy now
left_tidy (step ∷ steps) state image each tidy (inr later) = left_tidy steps (change step state) image each.1 (step_tidy step state each.0 tidy) later

-- ---- how a disk goes on

-- what was tidy is tidy afterwards
pub tidy_on : (old new : Meaning) → StaysTidy old new → IsTidy (state_in old) → IsTidy (state_in new)
tidy_on old new stays tidy = subst IsTidy (sym stays.took.state) (steps_tidy stays.added (state_in old) stays.each tidy)

pub all_both : (first more : List DiskStep) → AllByRecursion IsTidyStep first → AllByRecursion IsTidyStep more → AllByRecursion IsTidyStep (first ++ more)
all_both [] more one other = other
all_both (step ∷ first) more one other = (one.0, all_both first more one.1 other)

-- before the first call
pub stays_start : (old : Meaning) → StaysTidy old old
stays_start old = record { added = []; took = record { state = refl; steps = sym (append-nil old.steps) }; each = tt }

-- two runs one after another
pub stays_both : (old mid new : Meaning) → StaysTidy old mid → StaysTidy mid new → StaysTidy old new
stays_both old mid new first then = record {
  added = first.added ++ then.added;
  took = record {
    state = then.took.state ∙ ap (λ (s : DiskState). after s then.added) first.took.state ∙ sym (after-append (state_in old) first.added then.added);
    steps = then.took.steps ∙ ap (λ (l : List DiskStep). l ++ then.added) first.took.steps ∙ append_assoc old.steps first.added then.added;
  };
  each = all_both first.added then.added first.each then.each;
}

-- these steps alone
pub stays_by : (old new : Meaning) (steps : List DiskStep) → Took old new steps → AllByRecursion IsTidyStep steps → StaysTidy old new
stays_by old new steps took each = record { added = steps; took = took; each = each }

pub stays_none : (old new : Meaning) → Took old new [] → StaysTidy old new
stays_none old new took = stays_by old new [] took tt

pub making_tidy : (name : Name) (entry there : DiskEntry) → FitsAt name entry → AllByRecursion IsTidyStep (making name entry there)
making_tidy name entry Missing fits = (fits, tt)
making_tidy name entry (File s u) fits = tt
making_tidy name entry Folder fits = tt

pub removing_tidy : (name : Name) (there : DiskEntry) → AllByRecursion IsTidyStep (removing name there)
removing_tidy name Missing = tt
removing_tidy name (File s u) = (fits_missing name, tt)
removing_tidy name Folder = (fits_missing name, tt)

pub stays_part : (old new : Meaning) (name : Name) (bytes : List ℕ) → TookPart old new name bytes → StaysTidy old new
stays_part old new name bytes (inl none) = stays_none old new none
stays_part old new name bytes (inr some) = stays_by old new (Append name _ ∷ []) some.1 (tt, tt)

pub stays_perhaps : (old new : Meaning) (step : DiskStep) → IsTidyStep step → TookOrNot old new (step ∷ []) → StaysTidy old new
stays_perhaps old new step fits (inl none) = stays_none old new none
stays_perhaps old new step fits (inr took) = stays_by old new (step ∷ []) took (fits, tt)

pub stays_cut : (old new : Meaning) (name : Name) (len : ℕ) → TookCut old new name len → StaysTidy old new
stays_cut old new name len (inl none) = stays_none old new none
stays_cut old new name len (inr (inl loose)) = stays_by old new (Loosen name len ∷ []) loose (tt, tt)
stays_cut old new name len (inr (inr cut)) = stays_by old new (Loosen name len ∷ Cut name cut.0 ∷ []) cut.2 (tt, (tt, tt))

-- ---- calls of a disk, whether they succeeded or not

-- an entry that fits is made where none is
pub stays_making : (old new : Meaning) (name : Name) (entry there : DiskEntry) → FitsAt name entry → Took old new (making name entry there) → StaysTidy old new
stays_making old new name entry there fits took = stays_by old new (making name entry there) took (making_tidy name entry there fits)

-- a name is removed
pub stays_removing : (old new : Meaning) (name : Name) (there : DiskEntry) (r : Result Unit Error) → OnOk r (Took old new (removing name there)) → OnErr r (Took old new []) → StaysTidy old new
stays_removing old new name there (Ok done) ok err = stays_by old new (removing name there) ok (removing_tidy name there)
stays_removing old new name there (Err e) ok err = stays_none old new err

-- a file is synced
pub stays_syncing : (old new : Meaning) (name : Name) (r : Result Unit Error) → OnOk r (Took old new (Sync name ∷ [])) → OnErr r (TookOrNot old new (Sync name ∷ [])) → StaysTidy old new
stays_syncing old new name (Ok done) ok err = stays_by old new (Sync name ∷ []) ok (tt, tt)
stays_syncing old new name (Err e) ok err = stays_perhaps old new (Sync name) tt err

-- a folder is synced
pub stays_settling : (old new : Meaning) (folder : Name) (r : Result Unit Error) → OnOk r (Took old new (SyncFolder folder ∷ [])) → OnErr r (Took old new []) → StaysTidy old new
stays_settling old new folder (Ok done) ok err = stays_by old new (SyncFolder folder ∷ []) ok (tt, tt)
stays_settling old new folder (Err e) ok err = stays_none old new err

-- a file is cut
pub stays_cutting : (old new : Meaning) (name : Name) (len : ℕ) (r : Result Unit Error) → OnOk r (Took old new (Loosen name len ∷ Cut name len ∷ [])) → OnErr r (TookCut old new name len) → StaysTidy old new
stays_cutting old new name len (Ok done) ok err = stays_by old new (Loosen name len ∷ Cut name len ∷ []) ok (tt, (tt, tt))
stays_cutting old new name len (Err e) ok err = stays_cut old new name len err

-- bytes are appended
pub stays_appending : (old new : Meaning) (name : Name) (bytes : List ℕ) → Took old new (Append name bytes ∷ []) → StaysTidy old new
stays_appending old new name bytes took = stays_by old new (Append name bytes ∷ []) took (tt, tt)

-- however the steps of a run were told, each of them is such a step
pub each_tidy : (old new : Meaning) (added : List DiskStep) → StaysTidy old new → Took old new added → AllByRecursion IsTidyStep added
each_tidy old new added stays took = subst (AllByRecursion IsTidyStep) (append_cancel_left old.steps stays.added added (sym stays.took.steps ∙ took.steps)) stays.each
