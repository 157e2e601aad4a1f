-- Why an ingestion can't be planned.
use Rattle.std.proofs.Common.{◌≡◌, ℕ, ◌+◌, ◌<◌, ◌^◌, List, length, min, arith}
use Rattle.fjall_base.specs.declared.error.Error.{Error}
use Rattle.fjall_base.specs.declared.error.Error.TheVariants.{NumbersUsedUp, TooManyItems}
use Rattle.fjall_jobs.specs.declared.made_table.MadeTable.{MadeTable}
use Rattle.fjall_manifest.specs.Records.{Fields, body}
use Rattle.fjall_reading.specs.Ingestions.{KeyOp}
use Rattle.fjall_compaction.specs.Flushes.{record_after_flush}
use Rattle.fjall_compaction.specs.Ingests.{as_flush}
use Rattle.fjall_compaction.specs.IngestionPlans.{AreIngestionTables, IsIngestRefusal, OnceIngested}
use Rattle.fjall_compaction.specs.Room.{HasPlace, IsPlaceRefusal, LacksNextId, body_len}
use Rattle.fjall_compaction.proofs.Room.{flush_len, ids_by_count, placed_by_count, refused_by_count}
use Rattle.fjall_compaction.proofs.Tables.{table_count}

-- there are as many tables as are counted on
pub as_counted : (number : ℕ) (items : List KeyOp) (tables : List MadeTable) → AreIngestionTables number items tables → length tables ≡ min (length items) 1
as_counted number items tables are = table_count tables are.0 number items are.1 are.2 are.3

-- where so many tables and clears stay
module _ (number : ℕ) (items : List KeyOp) (last : Fields) (tables made clears : ℕ) (some : tables ≡ length last.tables) (one : made ≡ min (length items) 1) (more : clears ≡ length last.clears) where
  is_long : (new : List MadeTable) → length new ≡ min (length items) 1 → length (body (record_after_flush (as_flush number new) last)) ≡ body_len (tables + made) (clears + 0)
  is_long new counted = let all = flush_len (as_flush number new) last in omega (arith, all, some, one, more, counted)

  is_next : (new : List MadeTable) → length new ≡ min (length items) 1 → (record_after_flush (as_flush number new) last).next_table_id ≡ last.next_table_id + made
  is_next new counted = omega (arith, one, counted)

  pub refused : (error : Error) → IsPlaceRefusal (body_len (tables + made) (clears + 0)) (last.next_table_id + made) error → IsIngestRefusal number items last error
  refused TooManyItems is = λ new counted. refused_by_count (record_after_flush (as_flush number new) last) _ _ (is_long new counted) (is_next new counted) TooManyItems is
  refused NumbersUsedUp is = λ new counted. refused_by_count (record_after_flush (as_flush number new) last) _ _ (is_long new counted) (is_next new counted) NumbersUsedUp is
  refused error is = absurd is

  pub placed : body_len (tables + made) (clears + 0) < 2 ^ 32 → last.next_table_id + made < 2 ^ 64 → OnceIngested number items last HasPlace
  placed room left = λ new counted. placed_by_count (record_after_flush (as_flush number new) last) _ _ (is_long new counted) (is_next new counted) room left

  pub ids_first : (error : Error) → IsPlaceRefusal (body_len (tables + made) (clears + 0)) (last.next_table_id + made) error → (new : List MadeTable) → length new ≡ min (length items) 1
      → LacksNextId (record_after_flush (as_flush number new) last) → error ≡ NumbersUsedUp
  ids_first error is new counted lacks = ids_by_count (record_after_flush (as_flush number new) last) _ _ (is_long new counted) (is_next new counted) error is lacks
