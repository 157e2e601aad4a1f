-- What a merge made is known whole: a table's bytes have one list of entries.
use Rattle.std.proofs.Common.{◌≡◌, ◌≢◌, ℕ, List, [], ◌∷◌, Option, Some, None, ap, subst}
use Rattle.std.specs.Prelude.{IsSomeAnd}
use Rattle.std.proofs.Math.Logic.{∥∥₁_elim}
use Rattle.std.proofs.Props.{props}
use Rattle.std.specs.Coded.{Coded-set, coded_list, coded_ℕ}
use Rattle.fjall_base.specs.Lists.{last_of}
use Rattle.fjall_jobs.specs.declared.made_table.MadeTable.{MadeTable}
use Rattle.fjall_jobs.specs.declared.merge_made.MergeMade.{MergeMade}
use Rattle.fjall_jobs.specs.Keeping.{AreSorted}
use Rattle.fjall_jobs.specs.Made.{merge_clears, merge_tables, merged_target, merged_task}
use Rattle.fjall_jobs.specs.Merges.{IsMerged}
use Rattle.fjall_jobs.specs.Sequences.{AreMadeTables, AreParted}
use Rattle.fjall_jobs.specs.Tasks.{Task}
use Rattle.fjall_jobs.proofs.Made.{was_merged}
use Rattle.fjall_memtable.specs.Kept.{AreClosedAt, IsClosedInTime}
use Rattle.fjall_memtable.specs.Sorted.{flat}
use Rattle.fjall_table.specs.Blocks.{Entry, IsOrdered}
use Rattle.fjall_table.specs.Tables.{first_key}
use Rattle.fjall_memtable.specs.Jobs.{Same, merged, merged_clears}
use Rattle.fjall_engine.proofs.MadeFlushes.{all_made_prop, coded_entry, one_lists, ordered_prop, same_prop}

-- ---- tables that are closed at a size

in_time_prop : (target : ℕ) (table : List Entry) → IsProp (IsClosedInTime target table)
in_time_prop target table = hlevel (props, Coded-set (coded_list coded_entry))

ends_prop : (last : Option Entry) (key : List ℕ) → IsProp (IsSomeAnd last (λ v. v.key ≢ key))
ends_prop None key = hlevel props
ends_prop (Some v) key = hlevel props

closed_prop : (target : ℕ) (lists : List (List Entry)) → IsProp (AreClosedAt target lists)
closed_prop target [] = hlevel props
closed_prop target (l ∷ []) = hlevel (props, in_time_prop target l)
closed_prop target (l ∷ k ∷ lists) = hlevel (props, in_time_prop target l, ends_prop (last_of l) (first_key k), closed_prop target (k ∷ lists))

-- ---- what a merge made

abbrev IsMergedIn : ℕ → Task → List MadeTable → List ℕ → List (List Entry) → Type 0
IsMergedIn target task tables clears lists =
    AreMadeTables tables lists × AreParted (Some target) lists × IsOrdered (flat lists) × Same (flat lists) (merged task.watermark task.clears (flat task.runs))
    × (clears ≡ merged_clears task.watermark task.clears)

merged_in_prop : (target : ℕ) (task : Task) (tables : List MadeTable) (clears : List ℕ) (lists : List (List Entry)) → IsProp (IsMergedIn target task tables clears lists)
merged_in_prop target task tables clears lists =
    hlevel (
      props,
      all_made_prop tables lists,
      closed_prop target lists,
      ordered_prop (flat lists),
      same_prop (flat lists) (merged task.watermark task.clears (flat task.runs)),
      Coded-set (coded_list coded_ℕ) clears (merged_clears task.watermark task.clears),
    )

abbrev merged_in : (target : ℕ) (task : Task) (tables : List MadeTable) (clears : List ℕ) (lists : List (List Entry)) → IsMergedIn target task tables clears lists → IsMerged target task tables clears
merged_in target task tables clears lists is = record { lists = lists; made = is.0; parted = is.1; ordered = is.2; kept = is.3; clears_are = is.4 }

merged_prop : (target : ℕ) (task : Task) (tables : List MadeTable) (clears : List ℕ) → IsProp (IsMerged target task tables clears)
merged_prop target task tables clears x y =
    subst (λ (lists : List (List Entry)). (is : IsMergedIn target task tables clears lists) → x ≡ merged_in target task tables clears lists is) (one_lists tables x.lists y.lists x.made y.made)
    (λ is. ap (merged_in target task tables clears x.lists) (merged_in_prop target task tables clears x.lists (x.made, x.parted, x.ordered, x.kept, x.clears_are) is))
    (y.made, y.parted, y.ordered, y.kept, y.clears_are)

-- what was made of a task is so, where its runs are sorted
pub merged_of : (made : MergeMade) → AreSorted (merged_task made).runs → IsMerged (merged_target made) (merged_task made) (merge_tables made) (merge_clears made)
merged_of made sorted =
    ∥∥₁_elim (was_merged made) (merged_prop (merged_target made) (merged_task made) (merge_tables made) (merge_clears made)) (λ is. is sorted)
