-- The input of a merge, and what is made of it.
use Rattle.std.proofs.Common.{◌≡◌, ◌∙◌, ℕ, ◌+◌, ◌<◌, Bool, true, List, [], ◌∷◌, ◌++◌, None, Some, Vec, Global, take, length, get_or, ap, subst, sym}
use Rattle.std.specs.declared.sync.Arc.{Arc}
use Rattle.fjall_table.specs.Blocks.{Entry, IsOrdered}
use Rattle.fjall_memtable.specs.Jobs.{Same, merged, merged_clears}
use Rattle.fjall_memtable.specs.Kept.{kept_of}
use Rattle.fjall_memtable.specs.SortedPages.{barrier}
use Rattle.fjall_memtable.specs.Sorted.{flat, sorted}
use Rattle.fjall_memtable.proofs.Keeping.{kept_ordered, merge_kept}
use Rattle.fjall_cursors.proofs.Heads.{taken_run}
use Rattle.fjall_jobs.specs.declared.keeper.Rule.{Rule}
use Rattle.fjall_jobs.specs.declared.made_table.MadeTable.{MadeTable}
use Rattle.fjall_jobs.specs.Blocks.{entries_in}
use Rattle.fjall_jobs.specs.Keeping.{AreSorted, kept_by}
use Rattle.fjall_jobs.specs.MergeInputs.{table_runs}
use Rattle.fjall_jobs.specs.Merges.{IsMerged}
use Rattle.fjall_jobs.specs.Sequences.{MakesTables}
use Rattle.fjall_jobs.specs.Tasks.{Task}

-- one table more
pub table_more : (tables : List (Vec (Arc (List Entry) Global) Global)) (i : ℕ) (table : Vec (Arc (List Entry) Global) Global) (runs : List (List Entry)) (run : List Entry)
    → i < length tables → table ≡ get_or tables i table → runs ≡ take i (table_runs tables) → run ≡ flat (entries_in table.items) → runs ++ run ∷ [] ≡ take (i + 1) (table_runs tables)
table_more tables i table runs run lt is so_far here =
    sym (taken_run (λ (t : Vec (Arc (List Entry) Global) Global). flat (entries_in t.items)) tables i table lt is
    ∙ ap (λ (l : List (List Entry)). l ++ flat (entries_in table.items) ∷ []) (sym so_far) ∙ ap (λ (r : List Entry). runs ++ r ∷ []) (sym here))

-- what is kept of an input that a job can go through
pub merged_is : (target : ℕ) (task : Task) (rule : Rule) (tables : List MadeTable) (clears : List ℕ) → AreSorted task.runs → rule.watermark ≡ task.watermark → rule.spends ≡ true
    → rule.bound ≡ barrier (task.watermark + 1) task.clears → clears ≡ merged_clears task.watermark task.clears
    → MakesTables (Some target) tables (kept_by rule None (sorted (flat task.runs))) → IsMerged target task tables clears
merged_is target task rule tables clears are watermark spends bound clears_are made =
    let vs = flat task.runs in
    let rules : kept_by rule None (sorted vs) ≡ kept_of true task.watermark (barrier (task.watermark + 1) task.clears) None (sorted vs) =
    ap (λ (s : Bool). kept_of s rule.watermark rule.bound None (sorted vs)) spends
    ∙ ap (λ (w : ℕ). kept_of true w rule.bound None (sorted vs)) watermark
    ∙ ap (λ (b : ℕ). kept_of true task.watermark b None (sorted vs)) bound in
    let all : flat made.0 ≡ kept_of true task.watermark (barrier (task.watermark + 1) task.clears) None (sorted vs) = made.3 ∙ rules in
    record {
      lists = made.0;
      made = made.1;
      parted = made.2;
      ordered = subst IsOrdered (sym all) (kept_ordered true task.watermark (barrier (task.watermark + 1) task.clears) vs);
      kept = subst (λ (l : List Entry). Same l (merged task.watermark task.clears vs)) (sym all) (merge_kept task.watermark task.clears vs are.once);
      clears_are = clears_are;
    }
