-- A folder that was read, mended as it is planned.
use Rattle.std.proofs.Common.{◌≡◌, ◌≢◌, ℕ, List, [], ◌∷◌, map, All, Some, Result, Ok, Err, string_bytes, sym, ◌∙◌, ap, subst}
use Rattle.std.specs.Prelude.{OnOk}
use Rattle.std.specs.List.{AllByRecursion}
use Rattle.fjall_base.specs.declared.error.Error.{Error}
use Rattle.fjall_base.specs.Disk.{Name, Meaning, DiskState, standing, state_in}
use Rattle.fjall_files.specs.Names.{journal_name, current_name, table_name}
use Rattle.fjall_recovery.specs.declared.folder.RecoveredFolder.{RecoveredFolder}
use Rattle.fjall_manifest.specs.declared.reading.LoadedHome.{LoadedHome}
use Rattle.fjall_recovery.specs.Folders.{Contents, IsFinished, ShowsContents}
use Rattle.fjall_recovery.specs.Held.{Holds}
use Rattle.fjall_repair.specs.declared.mending.plan.FileEnd.{FileEnd}
use Rattle.fjall_repair.specs.declared.mending.plan.MendPlan.{MendPlan}
use Rattle.fjall_repair.specs.Mended.{IsMended, IsMendingOf}
use Rattle.fjall_repair.specs.Steps.{End, IsMendPlan, IsRested, Suits, active_of, sealed_of, with_active}
use Rattle.fjall_repair.proofs.Naming.{current_table, journal_table, marker_table}
use Rattle.fjall_repair.proofs.Items.{back_map}
use Rattle.fjall_repair.proofs.Mended.{mended}
use Rattle.fjall_repair.proofs.Carrying.{name_of_end}
use Rattle.fjall_repair.proofs.Suiting.{ends_found, ends_length, planned_names, suits}

-- a plan of a folder that was read suits it
pub suited : (state : DiskState) (f : RecoveredFolder) (c : Contents) (p : MendPlan) → Holds state (Some c) → IsFinished (standing state) f → ShowsContents f c → IsMendingOf (standing state) f p → Suits (standing state) c p
suited state f c p holds finished shows is = suits (standing state) f c is.0 p holds.now.openable finished shows is.1 is.2

-- what follows of what a success gives
pub on_ok_then : (result : Result Unit Error) (P Q : Type 0) → (P → Q) → OnOk result P → OnOk result Q
on_ok_then (Ok done) P Q to is = to is
on_ok_then (Err e) P Q to is = tt

-- what was rested is mended
pub mended_by : (m0 m2 : Meaning) (f : RecoveredFolder) (c : Contents) (p : MendPlan) → Holds (state_in m0) (Some c) → IsFinished (standing (state_in m0)) f → ShowsContents f c → IsMendingOf (standing (state_in m0)) f p → IsRested (state_in m2) (with_active c)
    → IsMended (state_in m2) f c (string_bytes p.active)
mended_by m0 m2 f c p holds finished shows is rested =
    mended (state_in m2) f c (string_bytes p.active) holds.now.versions rested (is.2.active ∙ ap (λ ids. journal_name (active_of ids)) shows.ids) (ends_length (standing (state_in m0)) c.journals f.journals.end f.journals.torn (ends_found (standing (state_in m0)) f c holds.now.openable finished))

-- ---- tables

module _ (id n : ℕ) where
  no_journals : (ids : List ℕ) → AllByRecursion (λ (q : Name). table_name id n ≢ q) (map journal_name ids)
  no_journals [] = tt
  no_journals (j ∷ ids) = ((λ same. journal_table j id n (sym same)), no_journals ids)

  no_currents : (ids : List ℕ) → AllByRecursion (λ (q : Name). table_name id n ≢ q) (map current_name ids)
  no_currents [] = tt
  no_currents (k ∷ ids) = ((λ same. current_table k id n (sym same)), no_currents ids)

  pub no_active : (f : RecoveredFolder) (tree : End) (p : MendPlan) → IsMendPlan f tree p → table_name id n ≢ string_bytes p.active
  no_active f tree p plan same = journal_table (active_of f.journal_ids.items) id n (sym (same ∙ plan.active))

  pub no_whole : (f : RecoveredFolder) (tree : End) (p : MendPlan) → IsMendPlan f tree p → All (λ file. table_name id n ≢ string_bytes file) p.whole.items
  no_whole f tree p plan = back_map (λ (q : Name). table_name id n ≢ q) string_bytes p.whole.items
      (subst (AllByRecursion (λ (q : Name). table_name id n ≢ q)) (sym plan.whole) ((λ same. marker_table id n (sym same)), no_journals (sealed_of f.journal_ids.items)))

  pub no_ends : (f : RecoveredFolder) (tree : End) (p : MendPlan) → tree.name ≡ current_name 0 → IsMendPlan f tree p → All (λ (e : FileEnd). table_name id n ≢ string_bytes e.name) p.ends.items
  no_ends f tree p named plan = back_map (λ (q : Name). table_name id n ≢ q) name_of_end p.ends.items
      (subst (AllByRecursion (λ (q : Name). table_name id n ≢ q)) (sym (planned_names f tree p named plan))
      ((λ same. journal_table (active_of f.journal_ids.items) id n (sym same)), ((λ same. current_table 0 id n (sym same)), no_currents (map (λ (h : LoadedHome). h.id) f.homes.items))))
