-- A folder whose making goes on, from its first call to its last.
use Rattle.std.proofs.Common.{◌≡◌, inl, inr, ℕ, false, List, [], ◌∷◌, ◌++◌, length, refl, sym, ap, subst, arith, if◌then◌else◌}
use Rattle.std.proofs.lemmas.List.{append-nil, take_all}
use Rattle.std.specs.List.{AllByRecursion}
use Rattle.std.specs.Str.{bytes_eq}
use Rattle.fjall_base.specs.Disk.{Name, DiskEntry, Missing, File, Folder, DiskState, Image, Survives, SomeSurvives, Meaning, LeavesOnly, all_synced, standing, state_in}
use Rattle.fjall_base.proofs.Moments.{runs_on, weaken}
use Rattle.fjall_base.proofs.Names.{bool_cases, same, same_test}
use Rattle.fjall_meta.specs.Keyspaces.{no_keyspaces}
use Rattle.fjall_meta.specs.Replays.{bare}
use Rattle.fjall_recovery.specs.Folders.{ImageStandsFor, IsUnfinished}
use Rattle.fjall_repair.specs.Making.{AreLeft, ComesBackUnfinished, IsKept, IsMaking, MakingGoesOn, MayStand}
use Rattle.fjall_repair.proofs.Standing.{some_left, making_of, stands_same, unfinished_of}

-- what holds of each image meanwhile
abbrev pub StandsBare : Image → Type 0
StandsBare image = ImageStandsFor image (bare no_keyspaces)

unfinished_stands : (image : Image) → IsMaking false image → StandsBare image
unfinished_stands image making = inr (unfinished_of image making, refl)

pub before : (old new : Meaning) → IsKept false (state_in old) → MakingGoesOn false old new → LeavesOnly old new StandsBare
before old new kept goes = weaken old new (IsMaking false) StandsBare (goes.moments kept) unfinished_stands

pub then_done : (old mid new : Meaning) → LeavesOnly old mid StandsBare → LeavesOnly mid new StandsBare → LeavesOnly old new StandsBare
then_done old mid new one two = runs_on old mid new StandsBare one two

-- ---- whatever comes back was unfinished

survives_synced : (entry : DiskEntry) → Survives entry (all_synced entry)
survives_synced Missing = refl
survives_synced (File synced unsynced) = (length unsynced, ap (λ (l : List ℕ). File (synced ++ l) []) (sym (take_all (length unsynced) unsynced (omega arith))))
survives_synced Folder = refl

stands_unsynced : (name : Name) (entry : DiskEntry) → MayStand false name (all_synced entry) → MayStand false name entry
stands_unsynced name Missing stands = stands
stands_unsynced name (File synced unsynced) stands = stands_same false name (synced ++ unsynced) [] synced unsynced (sym (append-nil (synced ++ unsynced))) stands
stands_unsynced name Folder stands = stands

module _ (state : DiskState) (unfinished : ComesBackUnfinished state) where
  -- the image with this entry at the name
  with_entry : Name → DiskEntry → Image
  with_entry name entry q = if bytes_eq q name then all_synced entry else all_synced (state q).now

  are_left : (name : Name) (entry : DiskEntry) → SomeSurvives ((state name).now ∷ (state name).older) (all_synced entry) → AreLeft state (with_entry name entry)
  unfolding with_entry
  are_left name entry here q = elim (bool_cases (bytes_eq q name)) [
    | inl at ↦ rw at (subst (λ (n : Name). SomeSurvives ((state n).now ∷ (state n).older) (all_synced entry)) (sym (same at)) here)
    | inr out ↦ rw out (inl (survives_synced (state q).now))
  ]

  one_stands : (name : Name) (entry : DiskEntry) → SomeSurvives ((state name).now ∷ (state name).older) (all_synced entry) → MayStand false name entry
  unfolding with_entry
  one_stands name entry here =
      let image = with_entry name entry in
      let at : image name ≡ all_synced entry = rw (same_test name) refl in
      stands_unsynced name entry (subst (MayStand false name) at (making_of image (unfinished image (are_left name entry here)) name))

  all_stand : (name : Name) (entries : List DiskEntry) → ((entry : DiskEntry) → SomeSurvives entries entry → SomeSurvives ((state name).now ∷ (state name).older) entry) → AllByRecursion (MayStand false name) entries
  all_stand name [] into = tt
  all_stand name (entry ∷ entries) into = (one_stands name entry (into (all_synced entry) (inl (survives_synced entry))), all_stand name entries (λ e later. into e (inr later)))

  pub comes_back_kept : IsKept false state
  comes_back_kept = record {
    now = λ name. one_stands name (state name).now (inl (survives_synced (state name).now));
    older = λ name. all_stand name (state name).older (λ entry later. inr later);
  }

-- where nothing comes back, what stands is all that a crash leaves
pub settled_comes_back : (state : DiskState) → ((name : Name) → (state name).older ≡ []) → IsUnfinished (standing state) → ComesBackUnfinished state
settled_comes_back state settled unfinished image left = unfinished_of image (λ name. some_left false name ((state name).now ∷ []) (image name) (making_of (standing state) unfinished name, tt) (alone name))
  where
    alone : (name : Name) → SomeSurvives ((state name).now ∷ []) (image name)
    alone name = subst (λ (l : List DiskEntry). SomeSurvives ((state name).now ∷ l) (image name)) (settled name) (left name)
