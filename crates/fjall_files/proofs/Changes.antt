-- Steps under a folder change nothing outside it, and a sync only narrows what a crash may leave.
use Rattle.std.proofs.Common.{◌≡◌, inl, inr, ⊎_elim, ℕ, Bool, true, false, List, [], ◌∷◌, ◌++◌, take, length, refl, sym, ◌∙◌, ap, subst, arith, append_assoc}
use Rattle.std.proofs.lemmas.List.{append-nil, take_all}
use Rattle.std.specs.Str.{bytes_eq}
use Rattle.fjall_base.specs.Disk.{Name, DiskEntry, Missing, File, Folder, Place, DiskState, Crash, Survives, DiskStep, Put, Append, Sync, Loosen, Cut, SyncFolder, Meaning, state_in, Took, TookOrNot, TookPart, making, removing, change, after, all_synced, alter, settle, folder_of, appended, loosened, cut_to}
use Rattle.fjall_files.specs.Regions.{is_under, target, AreUnder, Within}
use Rattle.fjall_base.proofs.Names.{bool_cases, same}
use Rattle.fjall_base.proofs.States.{alter-same, alter-other, put-other, settle-in, settle-out}
use Rattle.fjall_base.proofs.Covers.{LeftAt}
use Rattle.fjall_base.proofs.Moments.{after-append}
use Rattle.fjall_files.proofs.Under.{under_parent}

-- the two states have the same at each name outside the region
abbrev pub SameOutside : (Name → Bool) → DiskState → DiskState → Type 0
SameOutside region old new = (q : Name) → region q ≡ false → new q ≡ old q

-- a name outside is not one inside
apart : (folder q name : Name) → is_under folder name ≡ true → is_under folder q ≡ false → bytes_eq q name ≡ false
apart folder q name under out = elim (bool_cases (bytes_eq q name)) [
  | inl at ↦
      let is : q ≡ name = same {q = q} {r = name} at in
      let no : is_under folder q ≡ true = ap (λ (n : Name). is_under folder n) is ∙ under in cc
  | inr not ↦ not
]

-- a step under a folder changes nothing outside it
pub step_within : (folder : Name) → (folder ≡ [] → ⊥) → (state : DiskState) (step : DiskStep) → is_under folder (target step) ≡ true → SameOutside (is_under folder) state (change step state)
step_within folder some state (Put name entry) under q out = put-other state name entry q (apart folder q name under out)
step_within folder some state (Append name bytes) under q out = alter-other state name (appended bytes) q (apart folder q name under out)
step_within folder some state (Sync name) under q out = alter-other state name all_synced q (apart folder q name under out)
step_within folder some state (Loosen name len) under q out = alter-other state name (loosened len) q (apart folder q name under out)
step_within folder some state (Cut name len) under q out = alter-other state name (cut_to len) q (apart folder q name under out)
step_within folder some state (SyncFolder inner) under q out = settle-out state inner q (elim (bool_cases (bytes_eq (folder_of q) inner)) [
  | inl at ↦
      let is : folder_of q ≡ inner = same {q = folder_of q} {r = inner} at in
      let no : is_under folder q ≡ true = under_parent folder q some (ap (λ (n : Name). is_under folder n) is ∙ under) in cc
  | inr not ↦ not
])

pub steps_within : (folder : Name) → (folder ≡ [] → ⊥) → (state : DiskState) (steps : List DiskStep) → AreUnder folder steps → SameOutside (is_under folder) state (after state steps)
steps_within folder some state [] under q out = refl
steps_within folder some state (step ∷ steps) under q out = steps_within folder some (change step state) steps under.1 q out ∙ step_within folder some state step under.0 q out

pub within_state : (folder : Name) → (folder ≡ [] → ⊥) → (old new : Meaning) → Within folder old new → SameOutside (is_under folder) (state_in old) (state_in new)
within_state folder some old new run q out = ap (λ (s : DiskState). s q) run.took.state ∙ steps_within folder some (state_in old) run.added run.under q out

pub settle_less : (crash : Crash) (state : DiskState) (folder q : Name) (left : DiskEntry) → LeftAt crash (settle state folder q) left → LeftAt crash (state q) left
settle_less crash state folder q left some = elim (bool_cases (bytes_eq (folder_of q) folder)) [
  | inl at ↦
      let here : LeftAt crash (record { now = (state q).now; older = [] }) left = subst (λ (p : Place). LeftAt crash p left) (settle-in state folder q (same {q = folder_of q} {r = folder} at)) some in
      ⊎_elim (λ now. inl now) (λ none. absurd none) here
  | inr not ↦ subst (λ (p : Place). LeftAt crash p left) (settle-out state folder q not) some
]

synced_survives : (entry left : DiskEntry) → Survives (all_synced entry) left → Survives entry left
synced_survives Missing left is = is
synced_survives (File synced unsynced) left some = (
  length unsynced,
  some.1 ∙ ap (λ (l : List ℕ). File ((synced ++ unsynced) ++ l) []) (take_all some.0 [] (omega arith)) ∙ ap (λ (l : List ℕ). File l []) (append-nil (synced ++ unsynced))
      ∙ ap (λ (l : List ℕ). File (synced ++ l) []) (sym (take_all (length unsynced) unsynced (omega arith))),
)
synced_survives Folder left is = is

pub sync_less : (state : DiskState) (name q : Name) (left : DiskEntry) → LeftAt Survives (alter state name all_synced q) left → LeftAt Survives (state q) left
sync_less state name q left some = elim (bool_cases (bytes_eq q name)) [
  | inl at ↦
      let is_name : q ≡ name = same {q = q} {r = name} at in
      let placed : alter state name all_synced q ≡ record { now = all_synced (state q).now; older = (state q).older } =
      subst (λ (n : Name). alter state name all_synced n ≡ record { now = all_synced (state n).now; older = (state n).older }) (sym is_name) (alter-same state name all_synced) in
      let here : LeftAt Survives (record { now = all_synced (state q).now; older = (state q).older }) left = subst (λ (p : Place). LeftAt Survives p left) placed some in
      ⊎_elim (λ now. inl (synced_survives (state q).now left now)) (λ was. inr was) here
  | inr not ↦ subst (λ (p : Place). LeftAt Survives p left) (alter-other state name all_synced q not) some
]

pub within_start : (folder : Name) (old : Meaning) → Within folder old old
within_start folder old = record { added = []; took = record { state = refl; steps = sym (append-nil old.steps) }; under = tt }

under_both : (folder : Name) (first more : List DiskStep) → AreUnder folder first → AreUnder folder more → AreUnder folder (first ++ more)
under_both folder [] more one two = two
under_both folder (step ∷ first) more one two = (one.0, under_both folder first more one.1 two)

-- one call more
pub within_on : (folder : Name) (old mid new : Meaning) (steps : List DiskStep) → Within folder old mid → Took mid new steps → AreUnder folder steps → Within folder old new
within_on folder old mid new steps so_far took under = record {
  added = so_far.added ++ steps;
  took = record {
    state = took.state ∙ ap (λ (s : DiskState). after s steps) so_far.took.state ∙ sym (after-append (state_in old) so_far.added steps);
    steps = took.steps ∙ ap (λ (l : List DiskStep). l ++ steps) so_far.took.steps ∙ append_assoc old.steps so_far.added steps;
  };
  under = under_both folder so_far.added steps so_far.under under;
}

pub within_part : (folder : Name) (old mid new : Meaning) (name : Name) (bytes : List ℕ) → Within folder old mid → TookPart mid new name bytes → is_under folder name ≡ true → Within folder old new
within_part folder old mid new name bytes so_far (inl none) under = within_on folder old mid new [] so_far none tt
within_part folder old mid new name bytes so_far (inr part) under = within_on folder old mid new (Append name (take part.0 bytes) ∷ []) so_far part.1 (under, tt)

pub within_perhaps : (folder : Name) (old mid new : Meaning) (step : DiskStep) → Within folder old mid → TookOrNot mid new (step ∷ []) → is_under folder (target step) ≡ true → Within folder old new
within_perhaps folder old mid new step so_far (inl none) under = within_on folder old mid new [] so_far none tt
within_perhaps folder old mid new step so_far (inr took) under = within_on folder old mid new (step ∷ []) so_far took (under, tt)

pub making_under : (folder name : Name) (entry there : DiskEntry) → is_under folder name ≡ true → AreUnder folder (making name entry there)
making_under folder name entry Missing under = (under, tt)
making_under folder name entry (File synced unsynced) under = tt
making_under folder name entry Folder under = tt

pub settle-now : (state : DiskState) (folder q : Name) → (settle state folder q).now ≡ (state q).now
settle-now state folder q = elim (bool_cases (bytes_eq (folder_of q) folder)) [
  | inl at ↦ ap (λ (p : Place). p.now) (settle-in state folder q (same {q = folder_of q} {r = folder} at))
  | inr not ↦ ap (λ (p : Place). p.now) (settle-out state folder q not)
]

pub alter-now : (state : DiskState) (name : Name) (f : DiskEntry → DiskEntry) → (alter state name f name).now ≡ f (state name).now
alter-now state name f = ap (λ (p : Place). p.now) (alter-same state name f)

pub may_be_missing : (state : DiskState) (name : Name) → (state name).now ≡ Missing → LeftAt Survives (state name) Missing
may_be_missing state name gone = inl (subst (λ (e : DiskEntry). Survives e Missing) (sym gone) refl)

pub removing_under : (folder name : Name) (there : DiskEntry) → is_under folder name ≡ true → AreUnder folder (removing name there)
removing_under folder name Missing under = tt
removing_under folder name (File synced unsynced) under = (under, tt)
removing_under folder name Folder under = (under, tt)
