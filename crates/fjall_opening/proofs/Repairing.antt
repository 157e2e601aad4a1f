-- A folder that is mended or begun, and then swept.
use Rattle.std.proofs.Common.{◌≡◌, ◌⊎◌, inl, inr, ⊎_elim, ℕ, ◌<◌, ◌^◌, ◌==◌, Bool, true, false, if◌then◌else◌, List, [], ◌∷◌, ◌++◌, map, length, codes, Option, Result, Ok, Err, refl, sym, ◌∙◌, ap, subst}
use Rattle.std.specs.Prelude.{OnOk}
use Rattle.std.specs.List.{Contains}
use Rattle.std.specs.FinMap.{get, get-empty}
use Rattle.std.specs.Ordering.{nat_cmp}
use Rattle.std.proofs.lemmas.List.Elements.{All-contains}
use Rattle.fjall_base.specs.Disk.{Image, Name, DiskState, Meaning, LeavesOnly, state_in}
use Rattle.fjall_base.specs.declared.error.Error.{Error}
use Rattle.fjall_files.specs.Regions.{is_under}
use Rattle.fjall_journal.specs.Batches.{Written, shown}
use Rattle.fjall_manifest.specs.Records.{Fields}
use Rattle.fjall_files.specs.Names.{journal_name, table_name}
use Rattle.fjall_base.specs.Store.{Store, Command, fold, kept}
use Rattle.fjall_meta.specs.Keyspaces.{Keyspaces}
use Rattle.fjall_manifest.specs.Homes.{Home}
use Rattle.fjall_meta.specs.declared.living.LivingKeyspace.{LivingKeyspace}
use Rattle.fjall_table.specs.declared.table_info.TableInfo.{TableInfo}
use Rattle.fjall_manifest.specs.declared.catalog.Catalog.{Catalog}
use Rattle.fjall_manifest.specs.Catalog.{listed}
use Rattle.fjall_meta.specs.Contents.{store_held}
use Rattle.fjall_recovery.specs.declared.folder.RecoveredFolder.{RecoveredFolder}
use Rattle.fjall_recovery.specs.Amid.{StandsAmid}
use Rattle.fjall_recovery.specs.Homes.{last_in, stored_in}
use Rattle.fjall_recovery.specs.Folders.{Contents, IsFinished, IsSound, IsOpenable, ShowsContents, ImageStandsFor, store_of_contents}
use Rattle.fjall_recovery.specs.Journals.{WholeJournal, batches_in}
use Rattle.fjall_recovery.specs.Places.{Journaling, LiesInRoot, LiesInTree, RestsInTree, journals_with, texts_of}
use Rattle.fjall_recovery.proofs.Amidst.{told_twice}
use Rattle.fjall_recovery.proofs.Shown.{shows_alike}
use Rattle.fjall_recovery.proofs.Holding.{tree_of}
use Rattle.fjall_recovery.proofs.Roots.{batches_are}
use Rattle.fjall_repair.specs.declared.plan.SweepPlan.{SweepPlan}
use Rattle.fjall_opening.specs.Opened.{IsRepaired, nothing}
use Rattle.fjall_opening.specs.Readings.{IsSweepOf, names_read}
use Rattle.fjall_repair.specs.Sweeps.{FindsTables, IsSweepPlan, KeyspaceLives, RemovesNames, TablesNamed, names_in, no_names, planned}
use Rattle.fjall_opening.proofs.Agreeing.{names_agree}
use Rattle.fjall_repair.proofs.Planned.{planned_spare, planned_within}
use Rattle.fjall_repair.proofs.Removals as Removals
use Rattle.fjall_repair.proofs.Spared.{IsSpare}
use Rattle.fjall_opening.proofs.Rooted.{IsSpareWithin, root_stays, store_stays}

-- what follows of what a success gives
pub on_ok_then : (result : Result Unit Error) (P Q : Type 0) → (P → Q) → OnOk result P → OnOk result Q
on_ok_then (Ok done) P Q to is = to is
on_ok_then (Err e) P Q to is = tt

-- tables that stay as they are are found as before
pub finds_still : (old new : DiskState) (names : TablesNamed) (list : List Name) → ((n : ℕ) → n < 2 ^ 64 → (new (table_name 0 n)).now ≡ (old (table_name 0 n)).now) → FindsTables old names list → FindsTables new names list
finds_still old new names list same finds n small some = finds n small (λ none. some (same n small ∙ none))

module _ (contents : Contents) (mid new : Meaning) (plan : SweepPlan) (records : List Fields) (j : Journaling) (root : LiesInRoot (state_in mid) j) (later : j.later ≡ []) (same : batches_in (journals_with j []) ≡ batches_in contents.journals)
    (rests : RestsInTree (state_in mid) records (tree_of contents)) (is : IsSweepPlan (names_in (tree_of contents)) contents.keyspaces.living plan) (run : RemovesNames (Contains (planned plan)) mid new) where
  spare : RemovesNames (IsSpareWithin (tree_of contents)) mid new
  spare = Removals.weaker (Contains (planned plan)) (IsSpareWithin (tree_of contents)) mid new (λ name has. (
    All-contains (IsSpare (tree_of contents)) (planned plan) name (planned_spare (state_in mid) records (tree_of contents) rests plan is) has,
    All-contains (λ n. is_under (codes "keyspaces") n ≡ true) (planned plan) name (planned_within (names_in (tree_of contents)) contents.keyspaces.living plan is) has,
  )) run

  -- at each moment of the sweep the folder stands for its store
  pub stands : LeavesOnly mid new (λ image. ImageStandsFor image (store_of_contents contents))
  stands = subst (λ (store : Store). LeavesOnly mid new (λ image. ImageStandsFor image store)) (ap (λ (b : List Written). store_held contents.keyspaces (stored_in contents.homes contents.versions) (map shown b)) same)
      (store_stays mid new j records (tree_of contents) root rests later spare)

  -- its root lies as before
  pub root_kept : LiesInRoot (state_in new) j
  root_kept = root_stays mid new j records (tree_of contents) root rests later spare

  -- and at its end the folder is repaired
  pub repaired : (active : Name) (end : ℕ) (journals : List WholeJournal) → journal_name j.active ≡ active → length (texts_of j.whole) ≡ end → journals_with j [] ≡ journals → LiesInTree (state_in new) records (tree_of contents)
      → IsRepaired (state_in new) contents journals active end
  repaired active end journals active_is end_is are tree = record {
    j = j;
    records = records;
    root = root_stays mid new j records (tree_of contents) root rests later spare;
    tree = tree;
    later = later;
    active_is = active_is;
    end_is = end_is;
    batches = same;
    journals_are = are;
  }

-- a plan by names that agree
plan_along : (names other : TablesNamed) (living : List LivingKeyspace) (plan : SweepPlan) → ((id : ℕ) → (id ≡ 0) ⊎ KeyspaceLives living id → names id ≡ other id) → IsSweepPlan names living plan → IsSweepPlan other living plan
plan_along names other living plan agree is = record {
  tables = λ k d lt.
      let un = is.tables k d lt in
      record {
        id = un.id;
        table = un.table;
        id_fits = un.id_fits;
        table_fits = un.table_fits;
        name_is = un.name_is;
        counts = un.counts;
        unnamed = λ has. un.unnamed (subst (λ (l : List ℕ). Contains l un.table) (sym (agree un.id un.counts)) has);
      };
  homes = is.homes;
}

-- a plan by what was read is one by what the folder holds
pub plan_of : (image : Image) (found : RecoveredFolder) (contents : Contents) (plan : SweepPlan) → IsFinished image found → ShowsContents found contents → IsSweepOf found plan → IsSweepPlan (names_in (tree_of contents)) contents.keyspaces.living plan
plan_of image found contents plan read shows is =
    plan_along (names_read found) (names_in (tree_of contents)) contents.keyspaces.living plan (names_agree image found read contents shows)
    (subst (λ (s : Keyspaces). IsSweepPlan (names_read found) s.living plan) shows.keyspaces is)

pub finds_of : (state : DiskState) (found : RecoveredFolder) (contents : Contents) (list : List Name) → ShowsContents found contents → FindsTables state (names_read found) list → FindsTables state (names_in (tree_of contents)) list
finds_of state found contents list shows finds n small some = ⊎_elim
    (λ has. inl (subst (λ (last : Catalog). Contains (map (λ (t : TableInfo). t.id) (listed last.table)) n) shows.last has))
    (λ has. inr has) (finds n small some)

-- the records of a database without keyspaces name no table
nothing_named : (id : ℕ) → no_names id ≡ names_in (tree_of nothing) id
nothing_named id = of (id == 0)
  where
    of : (b : Bool) → no_names id ≡ map (λ (t : TableInfo). t.id) (if b then listed nothing.last.table else (last_in (get nothing.homes id)).tables)
    of true = refl
    of false = sym (ap (λ (h : Option Home). map (λ (t : TableInfo). t.id) (last_in h).tables) (get-empty nat_cmp id))

pub nothing_planned : (plan : SweepPlan) → IsSweepPlan no_names [] plan → IsSweepPlan (names_in (tree_of nothing)) [] plan
nothing_planned plan is = plan_along no_names (names_in (tree_of nothing)) [] plan (λ id counts. nothing_named id) is

-- a folder that an opening finds right holds sound contents, where it stands for a store
pub sound_amid : (image : Image) (found : RecoveredFolder) (contents : Contents) (base : Store) (pending : List Command) → ShowsContents found contents → IsOpenable image contents → StandsAmid base [] pending image
    → (c : Contents) × IsSound image c × ShowsContents found c
sound_amid image found contents base pending shows openable amid = of amid.stands
  where
    of : ImageStandsFor image (kept (fold base amid.front)) → (c : Contents) × IsSound image c × ShowsContents found c
    of (inl (c, sound, is)) = (c, sound, shows_alike found image contents c openable sound.openable shows)
    of (inr (begun, is)) = absurd (told_twice openable.marker begun.marker)

-- journals without batches end where they begin
pub no_end : (j : Journaling) → batches_in (journals_with j []) ≡ [] → length (texts_of j.whole) ≡ 0
no_end j none =
    let whole : j.whole ≡ [] = front j.whole [] (behind (batches_in j.sealed) (j.whole ++ []) (sym (batches_are j []) ∙ none)) in
    ap (λ (b : List Written). length (texts_of b)) whole
  where
    behind : (xs ys : List Written) → xs ++ ys ≡ [] → ys ≡ []
    behind [] ys is = is
    behind (x ∷ xs) ys is = cc

    front : (xs ys : List Written) → xs ++ ys ≡ [] → xs ≡ []
    front [] ys is = refl
    front (x ∷ xs) ys is = cc
