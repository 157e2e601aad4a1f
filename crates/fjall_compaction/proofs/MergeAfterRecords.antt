-- The record after a merge is one where the record before was.
use Rattle.std.proofs.Common.{◌≡◌, ◌≢◌, ℕ, zero, suc, ◌+◌, ◌<◌, ◌≤◌, ◌^◌, List, [], ◌∷◌, ◌++◌, All, drop, length, map, take, refl, sym, ap, subst, arith}
use Rattle.std.specs.List.{AllPairs}
use Rattle.std.specs.List.Sorted.{IsStrictlyIncreasing}
use Rattle.std.proofs.lemmas.List.{map-append}
use Rattle.std.proofs.lemmas.List.Elements.{All-append, All-cons, All-drop, All-head, All-nil, All-tail, All-weaker}
use Rattle.std.proofs.lemmas.List.Kept.{AllPairs-cons}
use Rattle.fjall_compaction.proofs.Taken.{rises}
use Rattle.fjall_jobs.specs.declared.made_table.MadeTable.{MadeTable}
use Rattle.fjall_replay.proofs.Turns.{ascends}
use Rattle.fjall_tree.specs.Trees.{IsShape}
use Rattle.fjall_tree.proofs.Merged.{shape_merged}
use Rattle.fjall_memtable.specs.Parts.{empty_from}
use Rattle.fjall_table.specs.Blocks.{Entry}
use Rattle.fjall_table.specs.declared.table_info.TableInfo.{TableInfo}
use Rattle.fjall_manifest.specs.Records.{Fields, Fits, IsRecord}
use Rattle.fjall_memtable.specs.Jobs.{merged_clears}
use Rattle.fjall_compaction.specs.Merges.{Merge, MergesTables, merged_infos, record_after_merge}

-- ---- ids of tables

abbrev ids : List TableInfo → List ℕ
ids tables = map (λ (t : TableInfo). t.id) tables

pub infos_count : (next : ℕ) (tables : List MadeTable) → length (merged_infos next tables) ≡ length tables
infos_count next [] = refl
infos_count next (t ∷ tables) = let rest = infos_count (next + 1) tables in omega (arith, rest)

-- the new ones lie between the next one and so many behind it
pub new_below : (next : ℕ) (tables : List MadeTable) → All (λ t. t.id < next + length tables) (merged_infos next tables)
new_below next [] = All-nil (λ (t : TableInfo). t.id < next + 0)
new_below next (t ∷ tables) =
    All-cons (λ (i : TableInfo). i.id < next + length (t ∷ tables)) _ (merged_infos (next + 1) tables) (omega arith)
    (All-weaker (λ (i : TableInfo). i.id < next + 1 + length tables) (λ i. i.id < next + length (t ∷ tables)) (λ i lt. omega (arith, lt)) (merged_infos (next + 1) tables) (new_below (next + 1) tables))

pub new_from : (next : ℕ) (tables : List MadeTable) → All (λ t. next ≤ t.id) (merged_infos next tables)
new_from next [] = All-nil (λ (t : TableInfo). next ≤ t.id)
new_from next (t ∷ tables) =
    All-cons (λ (i : TableInfo). next ≤ i.id) _ (merged_infos (next + 1) tables) (omega arith)
    (All-weaker (λ (i : TableInfo). next + 1 ≤ i.id) (λ i. next ≤ i.id) (λ i le. omega (arith, le)) (merged_infos (next + 1) tables) (new_from (next + 1) tables))

each_id : (P : ℕ → Type 0) (tables : List TableInfo) → All (λ t. P t.id) tables → All P (ids tables)
each_id P [] all = All-nil P
each_id P (t ∷ tables) all = All-cons P t.id (ids tables) (All-head (λ (i : TableInfo). P i.id) t tables all) (each_id P tables (All-tail (λ (i : TableInfo). P i.id) t tables all))

new_differ : (next : ℕ) (tables : List MadeTable) → AllPairs (λ a b. a ≢ b) (ids (merged_infos next tables))
new_differ next [] = λ i j d lt within. absurd (omega (arith, within))
new_differ next (t ∷ tables) =
    AllPairs-cons (λ a b. a ≢ b) next (ids (merged_infos (next + 1) tables))
    (All-weaker (λ n. next + 1 ≤ n) (λ n. next ≢ n) (λ n le e. omega (arith, le, e)) (ids (merged_infos (next + 1) tables))
    (each_id (λ n. next + 1 ≤ n) (merged_infos (next + 1) tables) (new_from (next + 1) tables))) (new_differ (next + 1) tables)

-- numbers from a bound on that differ, and below it such that differ
both_differ : (bound : ℕ) (xs ys : List ℕ) → AllPairs (λ a b. a ≢ b) xs → AllPairs (λ a b. a ≢ b) ys → All (λ n. bound ≤ n) xs → All (λ n. n < bound) ys → AllPairs (λ a b. a ≢ b) (xs ++ ys)
both_differ bound [] ys one two high low = two
both_differ bound (x ∷ xs) ys one two high low =
    let first = All-head (λ n. bound ≤ n) x xs high in
    AllPairs-cons (λ a b. a ≢ b) x (xs ++ ys)
    (All-append (λ n. x ≢ n) xs ys (λ k d lt. one zero (suc k) d (omega arith) (omega (arith, lt))) (All-weaker (λ n. n < bound) (λ n. x ≢ n) (λ n lt e. omega (arith, first, lt, e)) ys low))
    (both_differ bound xs ys (λ i j d lt within. one (suc i) (suc j) d (omega (arith, lt)) (omega (arith, within))) two (All-tail (λ n. bound ≤ n) x xs high) low)

left_differ : (n : ℕ) (tables : List TableInfo) → AllPairs (λ a b. a ≢ b) (ids tables) → AllPairs (λ a b. a ≢ b) (ids (drop n tables))
left_differ zero tables differ = differ
left_differ (suc n) [] differ = differ
left_differ (suc n) (t ∷ tables) differ = left_differ n tables (λ i j d lt within. differ (suc i) (suc j) d (omega (arith, lt)) (omega (arith, within)))

-- ---- clears

-- the clears that are left ascend, and each is below 2^63
clears_left : (w k : ℕ) (clears : List ℕ) → All (λ n. n < 2 ^ 63) clears → IsStrictlyIncreasing clears → IsShape (merged_clears w (take k clears) ++ drop k clears) (record { sealed = []; active = empty_from (2 ^ 63) })
clears_left w k clears small rise = shape_merged w k clears (record { sealed = []; active = empty_from (2 ^ 63) }) (record { low = small; ascend = ascends clears rise })

-- ---- the record

module _ (m : Merge) (lists entries : List (List Entry)) (last : Fields) (is : MergesTables m lists entries last) where
  told : (record_after_merge m last).clears ≡ merged_clears is.watermark (take m.clear_count last.clears) ++ drop m.clear_count last.clears
  told = ap (λ (l : List ℕ). l ++ drop m.clear_count last.clears) is.clears

  pub is_record : Fits (record_after_merge m last) → IsRecord last → IsRecord (record_after_merge m last)
  is_record fits was =
      let consistent = was.consistent in
      let infos = merged_infos last.next_table_id m.tables in
      let left = drop m.table_count last.tables in
      let clears = clears_left is.watermark m.clear_count last.clears consistent.numbers consistent.ascending in
      let below = All-drop (λ (t : TableInfo). t.id < last.next_table_id) m.table_count last.tables consistent.given in
      record {
        fits = fits;
        consistent = record {
          persisted = consistent.persisted;
          highest = consistent.highest;
          given = All-append (λ (t : TableInfo). t.id < last.next_table_id + length m.tables) infos left (new_below last.next_table_id m.tables)
              (All-weaker (λ (t : TableInfo). t.id < last.next_table_id) (λ t. t.id < last.next_table_id + length m.tables) (λ t lt. omega (arith, lt)) left below);
          once = subst (AllPairs (λ a b. a ≢ b)) (sym (map-append (λ (t : TableInfo). t.id) infos left))
              (both_differ last.next_table_id (ids infos) (ids left) (new_differ last.next_table_id m.tables) (left_differ m.table_count last.tables consistent.once)
              (each_id (λ n. last.next_table_id ≤ n) infos (new_from last.next_table_id m.tables)) (each_id (λ n. n < last.next_table_id) left below));
          numbers = subst (All (λ n. n < 2 ^ 63)) (sym told) clears.low;
          ascending = subst IsStrictlyIncreasing (sym told) (rises _ clears.ascend);
        };
      }
