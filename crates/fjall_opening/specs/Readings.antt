-- What is so of a folder as it was read, and of the plans that were made of it.
use Rattle.std.specs.Prelude.{All, ℕ, List, map, string_bytes}
use Rattle.fjall_base.specs.Disk.{DiskState, Meaning, Name}
use Rattle.fjall_files.specs.Calls.{seen}
use Rattle.fjall_journal.specs.Batches.{shown}
use Rattle.fjall_manifest.specs.Catalog.{listed}
use Rattle.fjall_meta.specs.declared.recovery.Persisted.{Persisted}
use Rattle.fjall_trees.specs.Forests.{Forest}
use Rattle.fjall_trees.specs.Views.{forest_of}
use Rattle.fjall_recovery.specs.Journals.{batches_in}
use Rattle.fjall_recovery.specs.declared.folder.RecoveredFolder.{RecoveredFolder}
use Rattle.fjall_recovery.specs.Folders.{Contents, IsFinished, IsOpenable, IsSound, ShowsContents}
use Rattle.fjall_table.specs.Blocks.{Entry}
use Rattle.fjall_recovery.specs.Homes.{HaveVersions, Versions}
use Rattle.fjall_replay.specs.Known.{AreAtHome}
use Rattle.fjall_replay.specs.Parted.{AreLeftBy}
use Rattle.fjall_replay.specs.Opening.{HaveEntries, IsOpenedOn, KnowsStored, ShowsEntries, told_by}
use Rattle.fjall_opening.specs.declared.opened.Opened.{Opened}
use Rattle.fjall_repair.specs.declared.plan.SweepPlan.{SweepPlan}
use Rattle.fjall_opening.specs.Opened.{HasJournals, TakesOver}
use Rattle.fjall_opening.specs.Replaying.{ShowBeyond}
use Rattle.fjall_repair.specs.Steps.{active_of}
use Rattle.fjall_repair.specs.Sweeps.{FindsAll, FindsTables, IsSweepPlan, TablesNamed, names_of}

-- P is so of what the folder on the disk holds, where it was read as this
abbrev pub WhereRead : Meaning → RecoveredFolder → (Contents → Type 0) → Type 0
WhereRead disk found P = (c : Contents) → IsFinished (seen disk) found → ShowsContents found c → P c

-- the same where an opening finds nothing wrong in the folder
abbrev pub WhereOpenable : Meaning → RecoveredFolder → (Contents → Type 0) → Type 0
WhereOpenable disk found P = (c : Contents) → IsFinished (seen disk) found → ShowsContents found c → IsOpenable (seen disk) c → P c

-- the same where the folder is sound
abbrev pub WhereSound : Meaning → RecoveredFolder → (Contents → Type 0) → Type 0
WhereSound disk found P = (c : Contents) → IsFinished (seen disk) found → ShowsContents found c → IsSound (seen disk) c → P c

-- the ids of the tables that last records name, as they were read
abbrev pub names_read : RecoveredFolder → TablesNamed
names_read found = names_of (listed found.catalog.catalog.table) found.homes.items

-- the plan is of what no record of the folder that was read names
abbrev pub IsSweepOf : RecoveredFolder → SweepPlan → Type 0
IsSweepOf found plan = IsSweepPlan (names_read found) found.catalog.keyspaces.living plan

-- each table of tree 0's folder is the one that is named, or one that the plan removes
abbrev pub FindsNamed : DiskState → RecoveredFolder → SweepPlan → Type 0
FindsNamed state found plan = FindsTables state (names_read found) (map string_bytes plan.tables.items)

-- the plan has all that no record of the folder that was read names
abbrev pub FindsUnnamed : DiskState → RecoveredFolder → SweepPlan → Type 0
FindsUnnamed state found plan = FindsAll state (names_read found) found.catalog.keyspaces.living found.folder_ids.items plan

-- the persisted numbers that the last records of all the keyspaces that live tell
abbrev pub persisted_of : RecoveredFolder → List Persisted
persisted_of found = map told_by found.homes.items

-- This is opened of the folder that was read from this disk, with that active journal, and over the tables there. Its trees show
-- what files hold and what all batches make beyond that, and have in memory what one journal after another left there.
pub record TakesRead (disk : Meaning) (o : Opened) (active : Name) (found : RecoveredFolder) : Type 0 where
  pub loaded : Forest
  pub takes : TakesOver o active found.journals.end found.catalog.catalog found.catalog.keyspaces loaded
  pub trees : (c : Contents) → IsOpenable (seen disk) c → ShowsContents found c → ShowBeyond c.keyspaces (persisted_of found) loaded (map shown (batches_in c.journals)) (forest_of o.trees)
  pub left : (c : Contents) → IsOpenable (seen disk) c → ShowsContents found c → AreLeftBy c.keyspaces c.homes c.journals (forest_of o.trees)
  pub journals : HasJournals o found.journals.sealed (active_of found.journal_ids.items) found.journals.watermarks
  pub opened : (c : Contents) → IsOpenable (seen disk) c → ShowsContents found c → All (IsOpenedOn disk c) loaded
  pub named : AreAtHome o.records loaded
  pub reads : (c : Contents) → IsOpenable (seen disk) c → ShowsContents found c → (entries : ℕ → List (List Entry)) → HaveEntries disk c entries → ShowsEntries disk c entries loaded
  pub sound : (c : Contents) → IsOpenable (seen disk) c → ShowsContents found c → (versions : Versions) → HaveVersions c.homes versions → KnowsStored disk c versions o.records loaded
