-- No folder comes to have the name of a table.
use Rattle.std.proofs.Common.{◌≡◌, inl, inr, ℕ, ◌<◌, ◌^◌, List, [], ◌∷◌, sym, subst}
use Rattle.std.specs.List.{AllByRecursion}
use Rattle.std.specs.Str.{bytes_eq}
use Rattle.fjall_base.specs.Disk.{DiskEntry, Missing, File, Folder, IsNoFolder, Meaning, Name, Place, DiskState, DiskStep, Put, Append, Sync, Loosen, Cut, SyncFolder, after, all_synced, alter, appended, change, cut_to, loosened, put, state_in}
use Rattle.fjall_base.proofs.Names.{bool_cases, same}
use Rattle.fjall_base.proofs.States.{alter-other, alter-same, put-other, put-same}
use Rattle.fjall_files.specs.Names.{Table, table_name}
use Rattle.fjall_files.specs.Tidy.{IsTidyStep, StaysTidy}
use Rattle.fjall_files.proofs.Changes.{settle-now}
use Rattle.fjall_compaction.specs.Planned.{HasNoTableFolder}

-- a change of a file makes no folder of it
altered : (state : DiskState) (name q : Name) (f : DiskEntry → DiskEntry) → ((entry : DiskEntry) → IsNoFolder entry → IsNoFolder (f entry)) → IsNoFolder (state q).now → IsNoFolder (alter state name f q).now
altered state name q f keeps is = elim (bool_cases (bytes_eq q name)) [
  | inl here ↦
      let at : q ≡ name = same here in
      subst (λ (n : Name). IsNoFolder (alter state name f n).now) (sym at)
      (subst (λ (p : Place). IsNoFolder p.now) (sym (alter-same state name f)) (keeps (state name).now (subst (λ (n : Name). IsNoFolder (state n).now) at is)))
  | inr not ↦ subst (λ (p : Place). IsNoFolder p.now) (sym (alter-other state name f q not)) is
]

appended_kind : (bytes : List ℕ) (entry : DiskEntry) → IsNoFolder entry → IsNoFolder (appended bytes entry)
appended_kind bytes Missing is = tt
appended_kind bytes (File synced unsynced) is = tt
appended_kind bytes Folder is = absurd is

synced_kind : (entry : DiskEntry) → IsNoFolder entry → IsNoFolder (all_synced entry)
synced_kind Missing is = tt
synced_kind (File synced unsynced) is = tt
synced_kind Folder is = absurd is

loosened_kind : (len : ℕ) (entry : DiskEntry) → IsNoFolder entry → IsNoFolder (loosened len entry)
loosened_kind len Missing is = tt
loosened_kind len (File synced unsynced) is = tt
loosened_kind len Folder is = absurd is

cut_kind : (len : ℕ) (entry : DiskEntry) → IsNoFolder entry → IsNoFolder (cut_to len entry)
cut_kind len Missing is = tt
cut_kind len (File synced unsynced) is = tt
cut_kind len Folder is = absurd is

module _ (id number : ℕ) (small : id < 2 ^ 64) (fits : number < 2 ^ 64) where
  abbrev q : Name
  q = table_name id number

  step_kind : (step : DiskStep) (state : DiskState) → IsTidyStep step → IsNoFolder (state (table_name id number)).now → IsNoFolder (change step state (table_name id number)).now
  step_kind (Put name entry) state tidy is = elim (bool_cases (bytes_eq q name)) [
    | inl here ↦
        let at : q ≡ name = same here in
        subst (λ (n : Name). IsNoFolder (put state name entry n).now) (sym at)
        (subst (λ (p : Place). IsNoFolder p.now) (sym (put-same state name entry)) (tidy.kind (Table id number) (small, fits) (sym at)))
    | inr not ↦ subst (λ (p : Place). IsNoFolder p.now) (sym (put-other state name entry q not)) is
  ]
  step_kind (Append name bytes) state tidy is = altered state name q (appended bytes) (appended_kind bytes) is
  step_kind (Sync name) state tidy is = altered state name q all_synced synced_kind is
  step_kind (Loosen name len) state tidy is = altered state name q (loosened len) (loosened_kind len) is
  step_kind (Cut name len) state tidy is = altered state name q (cut_to len) (cut_kind len) is
  step_kind (SyncFolder folder) state tidy is = subst IsNoFolder (sym (settle-now state folder q)) is

  steps_kind : (steps : List DiskStep) (state : DiskState) → AllByRecursion IsTidyStep steps → IsNoFolder (state (table_name id number)).now → IsNoFolder (after state steps (table_name id number)).now
  steps_kind [] state each is = is
  steps_kind (step ∷ steps) state each is = steps_kind steps (change step state) each.1 (step_kind step state each.0 is)

-- by steps each of which puts at a name what may stand there
pub no_folder_stays : (id : ℕ) → id < 2 ^ 64 → (old new : Meaning) → StaysTidy old new → HasNoTableFolder old id → HasNoTableFolder new id
no_folder_stays id small old new stays none number fits =
    subst (λ (s : DiskState). IsNoFolder (s (table_name id number)).now) (sym stays.took.state) (steps_kind id number small fits stays.added (state_in old) stays.each (none number fits))
