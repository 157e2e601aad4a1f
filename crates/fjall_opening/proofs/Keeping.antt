-- The tables that last records name are kept: no plan has one of them, and a removal leaves all that it isn't of.
use Rattle.std.proofs.Common.{◌≡◌, ◌≢◌, ℕ, ◌<◌, ◌^◌, List, [], ◌∷◌, get_or, All, Option, None, Some, refl, sym, ◌∙◌, ap, subst}
use Rattle.std.specs.Prelude.{string_bytes}
use Rattle.std.specs.List.{AllByRecursion, Contains}
use Rattle.std.specs.FinMap.{get}
use Rattle.std.proofs.lemmas.List.Elements.{All-contains, All-from_recursion}
use Rattle.fjall_base.specs.Disk.{Name, Image, Missing, Place, DiskState, Meaning, after, folder_of, put, state_in}
use Rattle.fjall_base.proofs.States.{differs, put-other}
use Rattle.fjall_files.specs.Names.{table_name}
use Rattle.fjall_files.specs.declared.own.OwnFiles.{OwnFiles}
use Rattle.fjall_files.proofs.OwnEntries.{contains_map}
use Rattle.fjall_table_reader.specs.Files.{entry_at}
use Rattle.fjall_table.specs.declared.table_info.TableInfo.{TableInfo}
use Rattle.fjall_manifest.specs.Records.{IsRecord}
use Rattle.fjall_manifest.specs.Homes.{Home}
use Rattle.fjall_manifest.proofs.Resting.{IsGiven, all_given, last_has}
use Rattle.fjall_meta.specs.declared.living.LivingKeyspace.{LivingKeyspace}
use Rattle.fjall_meta.specs.Keyspaces.{keyspace_at}
use Rattle.fjall_recovery.specs.Folders.{Contents, IsOpenable}
use Rattle.fjall_recovery.specs.Homes.{HasHomeAt}
use Rattle.fjall_recovery.proofs.Holding.{tree_of}
use Rattle.fjall_repair.specs.declared.plan.SweepPlan.{SweepPlan}
use Rattle.fjall_opening.specs.Opened.{KeepsNamed}
use Rattle.fjall_repair.specs.Sweeps.{IsSweepPlan, IsUnnamedHome, IsUnnamedTable, KeyspaceLives, RemovesNames, TablesNamed, names_in, planned, removals}
use Rattle.fjall_repair.proofs.Apart as Apart
use Rattle.fjall_repair.proofs.Planned.{found_lives, lives_small, names_home, planned_all}
use Rattle.fjall_repair.proofs.Removals.{weaker}

-- ---- what is left

after_kept : (state : DiskState) (names : List Name) (q : Name) → AllByRecursion (λ name. q ≢ name) names → (after state (removals names) q).now ≡ (state q).now
after_kept state [] q apart = refl
after_kept state (name ∷ names) q apart =
    after_kept (put state name Missing) names q apart.1 ∙ ap (λ (p : Place). p.now) (put-other state name Missing q (differs q name apart.0))

-- what stands at a name stays where other names are removed
kept : (old new : Meaning) (q : Name) → RemovesNames (λ name. q ≢ name) old new → entry_at new q ≡ entry_at old q
kept old new q run = ap (λ (s : DiskState). (s q).now) run.took.state ∙ after_kept (state_in old) run.names q run.each

-- ---- a table that is named

module _ (names : TablesNamed) (living : List LivingKeyspace) (plan : SweepPlan) (is : IsSweepPlan names living plan) (id n : ℕ) (lives : KeyspaceLives living id) (small : id < 2 ^ 64) (fits : n < 2 ^ 64) (named : Contains (names id) n) where
  not_unnamed : (name : Name) → IsUnnamedTable names living name → table_name id n ≢ name
  not_unnamed name un e =
      let same = Apart.same_table id n un.id un.table small fits un.id_fits un.table_fits (e ∙ un.name_is) in
      un.unnamed (subst (λ (m : ℕ). Contains (names un.id) m) same.1 (subst (λ (i : ℕ). Contains (names i) n) same.0 named))

  not_home : (home : OwnFiles) → IsUnnamedHome living home → (table_name id n ≢ string_bytes home.folder) × All (λ file. table_name id n ≢ string_bytes file) home.files.items
  not_home home un = (
    (λ e. Apart.not_all id (sym (Apart.in_keyspaces un.id un.fits) ∙ ap (λ (q : Name). folder_of q) (sym (e ∙ un.folder_is)) ∙ Apart.in_folder id n fits)),
    (λ k d lt e. un.dead (subst (KeyspaceLives living) (Apart.folders_apart id un.id small un.fits (sym (Apart.in_folder id n fits) ∙ ap (λ (q : Name). folder_of q) e ∙ un.inside k d lt)) lives)),
  )

  -- it isn't planned
  not_planned : All (λ name. table_name id n ≢ name) (planned plan)
  not_planned = planned_all (λ name. table_name id n ≢ name) plan (λ i d lt. not_unnamed (string_bytes (get_or plan.tables.items i d)) (is.tables i d lt)) (λ i d lt. not_home (get_or plan.homes.items i d) (is.homes i d lt))

  -- and stays
  table_kept : (old new : Meaning) → RemovesNames (Contains (planned plan)) old new → entry_at new (table_name id n) ≡ entry_at old (table_name id n)
  table_kept old new run =
      kept old new (table_name id n) (weaker (Contains (planned plan)) (λ name. table_name id n ≢ name) old new (λ name has. All-contains (λ q. table_name id n ≢ q) (planned plan) name not_planned has) run)

-- ---- those of homes

-- a home is that of a keyspace that lives, and the ids of its tables have their place
home_given : (image : Image) (c : Contents) → IsOpenable image c → (id : ℕ) (h : Home) → get c.homes id ≡ Some h → KeyspaceLives c.keyspaces.living id × AllByRecursion (IsGiven h.last.next_table_id) h.last.tables
home_given image c openable id h is = of (keyspace_at id c.keyspaces.living) refl (get c.homes id) is (openable.homes id)
  where
    of : (k : Option LivingKeyspace) → keyspace_at id c.keyspaces.living ≡ k → (there : Option Home) → there ≡ Some h → HasHomeAt image id k there → KeyspaceLives c.keyspaces.living id × AllByRecursion (IsGiven h.last.next_table_id) h.last.tables
    of (Some k) e (Some i) is has =
        let same : i ≡ h = cc in
        let record_is = last_has IsRecord has.records i.last has.home.files.whole.each has.home.files.last_is in
        (found_lives c.keyspaces.living id k e, subst (λ (j : Home). AllByRecursion (IsGiven j.last.next_table_id) j.last.tables) same (all_given i.last record_is))
    of None e (Some i) is has = absurd has
    of (Some k) e None is has = absurd has
    of None e None is has = let no : None ≡ Some h = is in cc

pub keeps_named : (image : Image) (c : Contents) (plan : SweepPlan) (old mid new : Meaning) → IsOpenable image c → IsSweepPlan (names_in (tree_of c)) c.keyspaces.living plan
    → ((id n : ℕ) → entry_at mid (table_name id n) ≡ entry_at old (table_name id n)) → RemovesNames (Contains (planned plan)) mid new → KeepsNamed old new c.homes
keeps_named image c plan old mid new openable is same run id h at k d lt =
    let given = home_given image c openable id h at in
    let are = openable.catalog.are in
    let table = get_or h.last.tables k d in
    let fits = All-from_recursion (IsGiven h.last.next_table_id) h.last.tables given.1 k d lt in
    let named = subst (λ (l : List ℕ). Contains l table.id) (sym (names_home (tree_of c) are id h at given.0)) (contains_map (λ (t : TableInfo). t.id) h.last.tables k d lt) in
    table_kept (names_in (tree_of c)) c.keyspaces.living plan is id table.id given.0 (lives_small c.keyspaces are id given.0) fits.0 named mid new run ∙ same id table.id
