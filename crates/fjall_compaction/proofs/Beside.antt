-- What stands in sight while tables and a record are written: beside the files that are written nothing changes.
use Rattle.std.proofs.Common.{◌≡◌, inl, inr, ℕ, ◌+◌, ◌<◌, ◌≤◌, ◌^◌, false, List, [], ◌∷◌, length, Result, Ok, Err, OnErr, OnOk, sym, ◌∙◌, ap, subst, arith}
use Rattle.fjall_base.specs.declared.error.Error.{Error}
use Rattle.fjall_base.specs.Disk.{DiskEntry, DiskState, IsFile, Meaning, Name, Place, SyncFolder, Took, state_in}
use Rattle.fjall_files.specs.Names.{current_name, keyspace_folder, table_name}
use Rattle.fjall_files.specs.Regions.{Within, is_under}
use Rattle.fjall_files.proofs.Changes.{settle-now, within_state}
use Rattle.fjall_files.proofs.Fitting.{folder_of-current, folder_of-table}
use Rattle.fjall_manifest.proofs.Naming.{beside, no_current, other_table, some_folder}
use Rattle.fjall_jobs.specs.declared.made_table.MadeTable.{MadeTable}
use Rattle.fjall_table_reader.specs.Files.{bytes_in, entry_at}
use Rattle.fjall_compaction.specs.FlushPlans.{HaveFiles, KeepsBeside, KeepsTables}
use Rattle.fjall_compaction.specs.MergePlans.{MergeKeepsTables}
use Rattle.fjall_compaction.specs.Putting.{KeepsBesideTables}

-- ---- calls of the disk

-- a sync of a folder changes nothing in sight
pub settled_seen : (folder : Name) (old new : Meaning) (r : Result Unit Error) (q : Name) → OnOk r (Took old new (SyncFolder folder ∷ [])) → OnErr r (Took old new [])
    → (state_in new q).now ≡ (state_in old q).now
settled_seen folder old new (Ok done) q ok err = ap (λ (s : DiskState). (s q).now) ok.state ∙ settle-now (state_in old) folder q
settled_seen folder old new (Err e) q ok err = ap (λ (s : DiskState). (s q).now) err.state

-- ---- the file of records

some_current : (id : ℕ) → current_name id ≡ [] → ⊥
some_current id is = cc

current_beside : (id n : ℕ) → n < 2 ^ 64 → is_under (current_name id) (table_name id n) ≡ false
current_beside id n small =
    beside (keyspace_folder id) (current_name id) (table_name id n) (some_folder id) (folder_of-current id) (folder_of-table id n small) (no_current id n)

-- tables of other numbers are neither of the two files
pub tables_stay : (id next : ℕ) (old new : Meaning) → next < 2 ^ 64 → KeepsBeside id next old new → KeepsTables id next old new
tables_stay id next old new fits keeps n small other = keeps (table_name id n) (current_beside id n small) (other_table id next n fits small other)

module _ (id : ℕ) (mid new : Meaning) (run : Within (current_name id) mid new) where
  -- what stands outside it is as it was
  outside : (q : Name) → is_under (current_name id) q ≡ false → (state_in new q).now ≡ (state_in mid q).now
  outside q out = ap (λ (p : Place). p.now) (within_state (current_name id) (some_current id) mid new run q out)

  -- the tables have their files still
  files_stay : (next : ℕ) (tables : List MadeTable) → next + length tables < 2 ^ 64 → HaveFiles mid id next tables → HaveFiles new id next tables
  files_stay next [] fits files = tt
  files_stay next (t ∷ tables) fits files =
      let same : entry_at new (table_name id next) ≡ entry_at mid (table_name id next) = outside (table_name id next) (current_beside id next (omega (arith, fits))) in
      (subst IsFile (sym same) files.0, ap (λ (e : DiskEntry). bytes_in e) same ∙ files.1, files_stay (next + 1) tables (omega (arith, fits)) files.2)

  pub files_stay_then : (next : ℕ) (tables : List MadeTable) (r : Result Unit Error) → next + length tables < 2 ^ 64 → HaveFiles mid id next tables → OnOk r (HaveFiles new id next tables)
  files_stay_then next tables (Ok done) fits files = files_stay next tables fits files
  files_stay_then next tables (Err e) fits files = tt

  -- nor do others change
  pub record_beside : (next : ℕ) (old : Meaning) → KeepsBeside id next old mid → KeepsBeside id next old new
  record_beside next old keeps q out_current out_table = outside q out_current ∙ keeps q out_current out_table

  pub record_keeps : (next count : ℕ) (old : Meaning) → MergeKeepsTables id next count old mid → MergeKeepsTables id next count old new
  record_keeps next count old keeps n small out = outside (table_name id n) (current_beside id n small) ∙ keeps n small out

-- ---- the files of new tables

module _ (id next count : ℕ) (old new : Meaning) (keeps : KeepsBesideTables id next count old new) where
  pub few_beside : count ≤ 1 → KeepsBeside id next old new
  few_beside few q out_current out_table =
      keeps q (λ n from until. let same : next ≡ n = omega (arith, from, until, few) in subst (λ (m : ℕ). is_under (table_name id m) q ≡ false) same out_table)

  pub all_beside : next + count < 2 ^ 64 → MergeKeepsTables id next count old new
  all_beside fits n small out =
      keeps (table_name id n) (λ m from until. other_table id m n (omega (arith, until, fits)) small (λ e. elim out [ inl less ↦ omega (arith, e, less, from) | inr more ↦ omega (arith, e, more, until) ]))
