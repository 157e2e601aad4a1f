use Rattle.std.proofs.Common.{◌∙◌, ◌++◌, ℕ, List, ap}
use Rattle.fjall_memtable.specs.Views.{value_at}
use Rattle.fjall_memtable.proofs.Merging.{a_merge_keeps_views}
use Rattle.fjall_memtable.specs.Sorted.{flat}
use Rattle.fjall_jobs.proofs.laws.what_a_merge_made_keeps_views.Goals as goal

pub returns : goal.returns
returns c target task tables made_clears made once key instant bound high rest above below clears_below from =
    ap (λ (clears : List ℕ). value_at key instant (clears ++ rest) (flat made.lists ++ above)) made.clears_are
    ∙ a_merge_keeps_views key instant task.watermark bound high task.clears rest (flat task.runs) (flat made.lists) above once made.kept below clears_below from
