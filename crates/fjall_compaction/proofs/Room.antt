-- Records by counting: how long those after a flush, a merge and an ingestion are, and what refuses them.
use Rattle.std.proofs.Common.{◌≡◌, ℕ, ◌+◌, ◌<◌, ◌^◌, drop, length, length-append, Result, Ok, Err, IfErr, IsOkUnless, refl, sym, subst, arith}
use Rattle.fjall_base.specs.declared.error.Error.{Error}
use Rattle.fjall_base.specs.declared.error.Error.TheVariants.{NumbersUsedUp, OutOfMemory, TooManyItems}
use Rattle.fjall_manifest.specs.Records.{Fields, Fits, body}
use Rattle.fjall_manifest.proofs.Records.{length_body}
use Rattle.fjall_compaction.specs.Flushes.{Flush, flushed_infos, record_after_flush}
use Rattle.fjall_compaction.specs.Merges.{Merge}
use Rattle.fjall_compaction.specs.Merges as merges
use Rattle.fjall_compaction.specs.Room.{HasPlace, IsPlaceRefusal, IsRecordRefusal, LacksNextId, body_len}
use Rattle.fjall_compaction.proofs.FlushAfterHomes as flushed
use Rattle.fjall_compaction.proofs.MergeAfterRecords as merged

-- ---- how long they are

pub flush_len : (f : Flush) (last : Fields) → length (body (record_after_flush f last)) ≡ body_len (length last.tables + length f.tables) (length last.clears + length f.clears)
flush_len f last =
    let all = length_body (record_after_flush f last) in
    let tables = length-append last.tables (flushed_infos last.next_table_id f.tables) in
    let made = flushed.infos_count last.next_table_id f.tables in
    let clears = length-append last.clears f.clears in
    omega (arith, all, tables, made, clears)

pub merge_len : (m : Merge) (last : Fields)
    → length (body (merges.record_after_merge m last)) ≡ body_len (length (drop m.table_count last.tables) + length m.tables) (length (drop m.clear_count last.clears) + length m.clears)
merge_len m last =
    let all = length_body (merges.record_after_merge m last) in
    let tables = length-append (merges.merged_infos last.next_table_id m.tables) (drop m.table_count last.tables) in
    let made = merged.infos_count last.next_table_id m.tables in
    let clears = length-append m.clears (drop m.clear_count last.clears) in
    omega (arith, all, tables, made, clears)

-- ---- what refuses them

-- what is told by counting is so of the record
module _ (next : Fields) (len id : ℕ) (long : length (body next) ≡ len) (at : next.next_table_id ≡ id) where
  pub refused_by_count : (error : Error) → IsPlaceRefusal len id error → IsRecordRefusal next error
  refused_by_count TooManyItems is = omega (arith, long, is)
  refused_by_count NumbersUsedUp is = let room = is.0 in let used = is.1 in (omega (arith, long, room), omega (arith, at, used))
  refused_by_count error is = absurd is

  pub placed_by_count : len < 2 ^ 32 → id < 2 ^ 64 → HasPlace next
  placed_by_count room left = (omega (arith, long, room), omega (arith, at, left))

  -- where it has room and no id is left, that is told
  pub ids_by_count : (error : Error) → IsPlaceRefusal len id error → LacksNextId next → error ≡ NumbersUsedUp
  ids_by_count TooManyItems is lacks = let room = lacks.0 in absurd (omega (arith, long, is, room))
  ids_by_count NumbersUsedUp is lacks = refl
  ids_by_count error is lacks = absurd is

-- where it has a place, what memory alone refuses is refused in this order
pub memory_last : {A : Type 0} (next : Fields) (result : Result A Error) → HasPlace next → IsOkUnless result OutOfMemory → IfErr result (IsRecordRefusal next)
memory_last next (Ok x) place only = tt
memory_last next (Err error) place only = subst (IsRecordRefusal next) (sym only) place

-- a record that can be written had a place
pub fits_placed : (next : Fields) → Fits next → HasPlace next
fits_placed next fits = (fits.len, fits.room.next_table_id)

-- which doesn't lack an id
pub place_lacks_none : (next : Fields) → HasPlace next → LacksNextId next → ⊥
place_lacks_none next place lacks = let left = place.1 in let used = lacks.1 in omega (arith, left, used)

-- ---- the record after a flush, and the one after a merge

-- where so many tables and clears stay
module _ (f : Flush) (last : Fields) (tables clears : ℕ) (some : tables ≡ length last.tables) (more : clears ≡ length last.clears) where
  flush_is : length (body (record_after_flush f last)) ≡ body_len (tables + length f.tables) (clears + length f.clears)
  flush_is = let all = flush_len f last in omega (arith, all, some, more)

  pub flush_refused : (error : Error) → IsPlaceRefusal (body_len (tables + length f.tables) (clears + length f.clears)) (last.next_table_id + length f.tables) error → IsRecordRefusal (record_after_flush f last) error
  flush_refused error is = refused_by_count (record_after_flush f last) _ _ flush_is refl error is

  pub flush_ids : (error : Error) → IsPlaceRefusal (body_len (tables + length f.tables) (clears + length f.clears)) (last.next_table_id + length f.tables) error → LacksNextId (record_after_flush f last) → error ≡ NumbersUsedUp
  flush_ids error is lacks = ids_by_count (record_after_flush f last) _ _ flush_is refl error is lacks

  pub flush_placed : body_len (tables + length f.tables) (clears + length f.clears) < 2 ^ 32 → last.next_table_id + length f.tables < 2 ^ 64 → HasPlace (record_after_flush f last)
  flush_placed room left = placed_by_count (record_after_flush f last) _ _ flush_is refl room left

-- where so many stay, and so many are new
module _ (m : Merge) (last : Fields) (tables made clears new : ℕ) (some : tables ≡ length (drop m.table_count last.tables)) (made_is : made ≡ length m.tables)
    (more : clears ≡ length (drop m.clear_count last.clears)) (new_is : new ≡ length m.clears) where
  merge_is : length (body (merges.record_after_merge m last)) ≡ body_len (tables + made) (clears + new)
  merge_is = let all = merge_len m last in omega (arith, all, some, made_is, more, new_is)

  next_is : (merges.record_after_merge m last).next_table_id ≡ last.next_table_id + made
  next_is = omega (arith, made_is)

  pub merge_refused : (error : Error) → IsPlaceRefusal (body_len (tables + made) (clears + new)) (last.next_table_id + made) error → IsRecordRefusal (merges.record_after_merge m last) error
  merge_refused error is = refused_by_count (merges.record_after_merge m last) _ _ merge_is next_is error is

  pub merge_placed : body_len (tables + made) (clears + new) < 2 ^ 32 → last.next_table_id + made < 2 ^ 64 → HasPlace (merges.record_after_merge m last)
  merge_placed room left = placed_by_count (merges.record_after_merge m last) _ _ merge_is next_is room left
