-- A name that came or went, before its folder is synced and behind that.
use Rattle.std.proofs.Common.{◌≡◌, ◌≢◌, ◌⊎◌, inl, inr, false, List, [], ◌∷◌, ◌++◌, refl, sym, ◌∙◌, ap, subst, if◌then◌else◌}
use Rattle.std.specs.Str.{bytes_eq}
use Rattle.fjall_base.specs.Disk.{Name, DiskEntry, File, Place, DiskState, Image, Survives, SomeSurvives, IsImage, Leaves, DiskStep, alter, all_synced, change, folder_of, put, settle}
use Rattle.fjall_base.proofs.Names.{bool_cases, same, same_test}
use Rattle.fjall_base.proofs.States.{alter-other, alter-same, differs, put-other, put-same, settle-in, settle-out}
use Rattle.fjall_files.proofs.Changes.{settle_less, sync_less}
use Rattle.fjall_manifest.specs.Homes.{only}
use Rattle.fjall_recovery.specs.Places.{IsNeverFile}

-- ---- one place

-- the place as it was, or with its name synced
abbrev pub Narrows : Place → Place → Type 0
Narrows place new = (new ≡ place) ⊎ (new ≡ only place.now)

pub narrow_only : (place new : Place) (entry : DiskEntry) → place ≡ only entry → Narrows place new → new ≡ only entry
narrow_only place new entry is (inl same) = same ∙ is
narrow_only place new entry is (inr settled) = settled ∙ ap (λ (p : Place). only p.now) is

pub narrow_never : (place new : Place) → IsNeverFile place → Narrows place new → IsNeverFile new
narrow_never place new never (inl same) = subst IsNeverFile (sym same) never
narrow_never place new never (inr settled) = subst IsNeverFile (sym settled) (never.0, tt)

-- the states differ at this name, and elsewhere names may have been synced
abbrev pub NarrowsBut : Name → DiskState → DiskState → Type 0
NarrowsBut name old new = (q : Name) → q ≢ name → Narrows (old q) (new q)

-- ---- what a crash leaves of a name that came or went

-- the state with this entry at the name, and the name synced
unfoldable pub fixed : DiskState → Name → DiskEntry → DiskState
fixed state name entry q = if bytes_eq q name then only entry else state q

pub fixed-same : (state : DiskState) (name : Name) (entry : DiskEntry) → fixed state name entry name ≡ only entry
unfolding fixed
fixed-same state name entry = rw (same_test name) refl

pub fixed-other : (state : DiskState) (name : Name) (entry : DiskEntry) (q : Name) → bytes_eq q name ≡ false → fixed state name entry q ≡ state q
unfolding fixed
fixed-other state name entry q not = rw not refl

pub fixed_but : (state : DiskState) (name : Name) (entry : DiskEntry) → NarrowsBut name state (fixed state name entry)
fixed_but state name entry q other = inl (fixed-other state name entry q (differs q name other))

some_first : (older : List DiskEntry) (now left : DiskEntry) → SomeSurvives (older ++ now ∷ []) left → SomeSurvives (now ∷ older) left
some_first [] now left some = some
some_first (entry ∷ older) now left (inl here) = inr (inl here)
some_first (entry ∷ older) now left (inr later) = elim (some_first older now left later) [ inl is ↦ inl is | inr was ↦ inr (inr was) ]

-- it leaves the name as it was, or as it is
pub put_left : (state : DiskState) (name : Name) (entry : DiskEntry) (image : Image) (P : Type 0) → folder_of name ≡ [] → (IsImage state image → P) → (IsImage (fixed state name entry) image → P) → IsImage (put state name entry) image → P
put_left state name entry image P root before behind is =
    let here = subst (λ (p : Place). SomeSurvives (p.now ∷ p.older) (image name)) (put-same state name entry) (is.kept name (inl root)) in
    elim here [
      | inl now ↦ behind (record {
        kept = λ q there. elim (bool_cases (bytes_eq q name)) [
          | inl at ↦ subst (λ (n : Name). SomeSurvives ((fixed state name entry n).now ∷ (fixed state name entry n).older) (image n)) (sym (same {q = q} {r = name} at))
              (subst (λ (p : Place). SomeSurvives (p.now ∷ p.older) (image name)) (sym (fixed-same state name entry)) (inl now))
          | inr other ↦ subst (λ (p : Place). SomeSurvives (p.now ∷ p.older) (image q)) (put-other state name entry q other ∙ sym (fixed-other state name entry q other)) (is.kept q there)
        ];
        lost = is.lost;
      })
      | inr was ↦ before (record {
        kept = λ q there. elim (bool_cases (bytes_eq q name)) [
          | inl at ↦ subst (λ (n : Name). SomeSurvives ((state n).now ∷ (state n).older) (image n)) (sym (same {q = q} {r = name} at)) (some_first (state name).older (state name).now (image name) was)
          | inr other ↦ subst (λ (p : Place). SomeSurvives (p.now ∷ p.older) (image q)) (put-other state name entry q other) (is.kept q there)
        ];
        lost = is.lost;
      })
    ]

-- a sync leaves no more than there was
pub sync_left : (state : DiskState) (name : Name) (image : Image) → IsImage (alter state name all_synced) image → IsImage state image
sync_left state name image is = record { kept = λ q there. sync_less state name q (image q) (is.kept q there); lost = is.lost }

pub settle_left : (state : DiskState) (folder : Name) (image : Image) → IsImage (settle state folder) image → IsImage state image
settle_left state folder image is = record { kept = λ q there. settle_less Survives state folder q (image q) (is.kept q there); lost = is.lost }

-- what a beginning of steps leaves, all of them do
first_left : (state : DiskState) (steps : List DiskStep) (image : Image) → IsImage state image → Leaves state steps image
first_left state [] image is = is
first_left state (step ∷ steps) image is = inl is

pub front_left : (state : DiskState) (front rest : List DiskStep) (image : Image) → Leaves state front image → Leaves state (front ++ rest) image
front_left state [] rest image is = first_left state rest image is
front_left state (step ∷ front) rest image (inl now) = inl now
front_left state (step ∷ front) rest image (inr later) = inr (front_left (change step state) front rest image later)

-- ---- behind the sync of the root

pub settle_narrows : (state : DiskState) (folder q : Name) → Narrows (state q) (settle state folder q)
settle_narrows state folder q = elim (bool_cases (bytes_eq (folder_of q) folder)) [
  | inl is ↦ inr (settle-in state folder q (same {q = folder_of q} {r = folder} is))
  | inr not ↦ inl (settle-out state folder q not)
]

settled_as : (state mid : DiskState) (q : Name) → mid q ≡ state q → Narrows (state q) (settle mid [] q)
settled_as state mid q is = subst (λ (p : Place). Narrows p (settle mid [] q)) is (settle_narrows mid [] q)

-- a name that came or went is synced
pub put_but : (state : DiskState) (name : Name) (entry : DiskEntry) → NarrowsBut name state (settle (put state name entry) [])
put_but state name entry q other = settled_as state (put state name entry) q (put-other state name entry q (differs q name other))

pub put_at : (state : DiskState) (name : Name) (entry : DiskEntry) → folder_of name ≡ [] → settle (put state name entry) [] name ≡ only entry
put_at state name entry root = settle-in (put state name entry) [] name root ∙ ap (λ (p : Place). only p.now) (put-same state name entry)

-- a file that came is synced too
pub made_but : (state : DiskState) (name : Name) (entry : DiskEntry) → NarrowsBut name state (settle (alter (put state name entry) name all_synced) [])
made_but state name entry q other =
    settled_as state (alter (put state name entry) name all_synced) q
    (alter-other (put state name entry) name all_synced q (differs q name other) ∙ put-other state name entry q (differs q name other))

pub made_at : (state : DiskState) (name : Name) → folder_of name ≡ [] → settle (alter (put state name (File [] [])) name all_synced) [] name ≡ only (File [] [])
made_at state name root =
    settle-in (alter (put state name (File [] [])) name all_synced) [] name root
    ∙ ap (λ (p : Place). only p.now) (alter-same (put state name (File [] [])) name all_synced)
    ∙ ap (λ (p : Place). only (all_synced p.now)) (put-same state name (File [] []))
