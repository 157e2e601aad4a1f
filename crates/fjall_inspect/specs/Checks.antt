-- What a check says of a folder.
use Rattle.std.specs.Prelude.{◌≡◌, ◌⊎◌, ℕ, List, [], Option, None, Some, map, string_bytes}
use Rattle.std.specs.List.{filter}
use Rattle.std.specs.FinMap.{get}
use Rattle.fjall_base.specs.declared.error.Error.{Error}
use Rattle.fjall_base.specs.Disk.{DiskState, Image, Name, standing}
use Rattle.fjall_journal.specs.declared.recovery_mode.RecoveryMode.TheVariants.{TolerateCorruptTail}
use Rattle.fjall_table.specs.Blocks.{Entry}
use Rattle.fjall_manifest.specs.Homes.{Home}
use Rattle.fjall_manifest.specs.Reading.{AreRight}
use Rattle.fjall_manifest.specs.Catalog.{listed}
use Rattle.fjall_recovery.specs.declared.folder.RecoveredFolder.{RecoveredFolder}
use Rattle.fjall_recovery.specs.Folders.{Contents, IsOpenable, IsUnfinished, ReadsFolder}
use Rattle.fjall_recovery.specs.Refusals.{FolderRefusesIn}
use Rattle.fjall_repair.specs.declared.mending.plan.MendPlan.{MendPlan}
use Rattle.fjall_repair.specs.declared.plan.SweepPlan.{SweepPlan}
use Rattle.fjall_repair.specs.Steps.{End, IsMendPlan, end_of, tree_end}
use Rattle.fjall_repair.specs.Sweeps.{FindsAll, IsSweepPlan, TablesNamed, names_of, planned}
use Rattle.fjall_inspect.specs.declared.report.Cut.{Cut}
use Rattle.fjall_inspect.specs.declared.report.Report.{Report}
use Rattle.fjall_inspect.specs.Faults.{AreToldOf, HomeTells}

-- ---- a folder that passes

-- every block of a home's tables is right
abbrev pub HasRightTables : Home → Type 0
HasRightTables h = (lists : List (List Entry)) × AreRight h.last.tables h.texts lists

-- An opening finds nothing wrong in the folder, which holds this, and every block of its keyspaces' tables is right.
pub record IsRight (image : Image) (c : Contents) : Type 0 where
  pub openable : IsOpenable image c
  pub tables : (id : ℕ) (h : Home) → get c.homes id ≡ Some h → HasRightTables h

-- The folder is right; or its making was cut short, so that an opening begins it anew.
abbrev pub Passes : Image → Type 0
Passes image = ((c : Contents) × IsRight image c) ⊎ IsUnfinished image

-- ---- what is told of it

-- nothing is wrong: no opening is refused, and there is no fault
abbrev pub IsClean : Report → Type 0
IsClean report = (report.refusal ≡ None) × (report.faults.items ≡ [])

-- a cut: the file, and from which byte on
abbrev pub cut_of : Cut → Name × ℕ
cut_of cut = (string_bytes cut.file, cut.offset)

-- those of these ends behind which something is to be cut
abbrev pub cuts_at : List End → List (Name × ℕ)
cuts_at ends = map (λ e. (e.name, e.len)) (filter (λ e. e.cut) ends)

-- the tables that the folder's last records name
abbrev pub names_read : RecoveredFolder → TablesNamed
names_read f = names_of (listed f.catalog.catalog.table) f.homes.items

-- What an opening of the folder that was read as this cuts off and removes: what stands behind whole batches and records, and
-- what no record names.
pub record TellsMending (state : DiskState) (f : RecoveredFolder) (report : Report) : Type 0 where
  pub mending : MendPlan
  pub mends : IsMendPlan f (tree_end f.catalog) mending
  pub cuts : map cut_of report.cuts.items ≡ cuts_at (map end_of mending.ends.items)
  pub sweep : SweepPlan
  pub unnamed : IsSweepPlan (names_read f) f.catalog.keyspaces.living sweep
  pub whole : FindsAll state (names_read f) f.catalog.keyspaces.living f.folder_ids.items sweep
  pub removals : map string_bytes report.removals.items ≡ planned sweep

-- What is told of a folder that an opening reads as this: each wrong block of its tables, in their order, and what is cut off and
-- removed. Of one whose making was cut short nothing is told.
abbrev pub TellsRead : DiskState → Report → Option RecoveredFolder → Type 0
TellsRead state report None = (report.faults.items ≡ []) × (report.cuts.items ≡ []) × (report.removals.items ≡ [])
TellsRead state report (Some f) = AreToldOf (HomeTells (standing state)) f.homes.items report.faults.items × TellsMending state f report

-- What is told: why an opening refuses the folder, or what stands in it that an opening reads.
abbrev pub Tells : DiskState → Report → Option Error → Type 0
Tells state report (Some error) = FolderRefusesIn TolerateCorruptTail (standing state) error
Tells state report None = (folder : Option RecoveredFolder) × ReadsFolder (standing state) folder × TellsRead state report folder
