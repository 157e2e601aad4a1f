-- The home after tables were put beside its own: all of its tables are safe.
use Rattle.std.proofs.Common.{◌≡◌, ℕ, zero, suc, ◌+◌, List, [], ◌∷◌, ◌++◌, drop, subst, sym}
use Rattle.fjall_base.specs.Disk.{DiskState}
use Rattle.fjall_jobs.specs.declared.made_table.MadeTable.{MadeTable}
use Rattle.fjall_manifest.specs.Homes.{AreSafe, Home}
use Rattle.fjall_manifest.specs.Records.{Fields}
use Rattle.fjall_table.specs.declared.table_info.TableInfo.{TableInfo}
use Rattle.fjall_compaction.specs.Flushes.{Flush, texts_of}
use Rattle.fjall_compaction.specs.Flushes as flushes
use Rattle.fjall_compaction.specs.FlushPlans.{IsPut}
use Rattle.fjall_compaction.specs.Merges.{Merge}
use Rattle.fjall_compaction.specs.Merges as merges
use Rattle.fjall_compaction.specs.Putting.{ArePut, AreSafeFrom}

module _ (state : DiskState) (id : ℕ) where
  safe_left : (n : ℕ) (tables : List TableInfo) (texts : List (List ℕ)) → AreSafe state id tables texts → AreSafe state id (drop n tables) (drop n texts)
  safe_left zero tables texts safe = safe
  safe_left (suc n) [] [] safe = tt
  safe_left (suc n) [] (b ∷ texts) safe = absurd safe
  safe_left (suc n) (t ∷ tables) [] safe = absurd safe
  safe_left (suc n) (t ∷ tables) (b ∷ texts) safe = safe_left n tables texts safe.1

  safe_both : (tables more : List TableInfo) (texts others : List (List ℕ)) → AreSafe state id tables texts → AreSafe state id more others → AreSafe state id (tables ++ more) (texts ++ others)
  safe_both [] more [] others one two = two
  safe_both [] more (b ∷ texts) others one two = absurd one
  safe_both (t ∷ tables) more [] others one two = absurd one
  safe_both (t ∷ tables) more (b ∷ texts) others one two = (one.0, safe_both tables more texts others one.1 two)

  -- the new ones, at whichever level they stand
  flushed : (next : ℕ) (tables : List MadeTable) → AreSafeFrom state id next tables → AreSafe state id (flushes.flushed_infos next tables) (texts_of tables)
  flushed next [] safe = tt
  flushed next (t ∷ tables) safe = (safe.0, flushed (next + 1) tables safe.1)

  merged : (next : ℕ) (tables : List MadeTable) → AreSafeFrom state id next tables → AreSafe state id (merges.merged_infos next tables) (texts_of tables)
  merged next [] safe = tt
  merged next (t ∷ tables) safe = (safe.0, merged (next + 1) tables safe.1)

  -- they stand behind the others, or in the place of those that were taken
  pub flush_put : (records : List Fields) (f : Flush) (h : Home) → ArePut state id records h f.tables → IsPut state id records h (flushes.home_after f h)
  flush_put records f h put = record {
    rests = put.rests;
    tables = safe_both h.last.tables (flushes.flushed_infos h.last.next_table_id f.tables) h.texts (texts_of f.tables) put.rests.tables (flushed h.last.next_table_id f.tables put.safe);
  }

  pub merge_put : (records : List Fields) (m : Merge) (h : Home) (tables : List MadeTable) → m.tables ≡ tables → ArePut state id records h tables → IsPut state id records h (merges.home_after m h)
  merge_put records m h tables made put = record {
    rests = put.rests;
    tables = safe_both (merges.merged_infos h.last.next_table_id m.tables) (drop m.table_count h.last.tables) (texts_of m.tables) (drop m.table_count h.texts)
        (merged h.last.next_table_id m.tables (subst (AreSafeFrom state id h.last.next_table_id) (sym made) put.safe)) (safe_left m.table_count h.last.tables h.texts put.rests.tables);
  }
