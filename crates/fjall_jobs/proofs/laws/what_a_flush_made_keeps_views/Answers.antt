use Rattle.std.proofs.Common.{◌∙◌, ◌++◌, ℕ, List, ap}
use Rattle.fjall_memtable.specs.Views.{value_at}
use Rattle.fjall_memtable.proofs.Hiding.{a_flush_keeps_views}
use Rattle.fjall_memtable.specs.Sorted.{flat}
use Rattle.fjall_jobs.proofs.laws.what_a_flush_made_keeps_views.Goals as goal

pub returns : goal.returns
returns c task tables made_clears made once key instant high before after below above =
    ap (λ (clears : List ℕ). value_at key instant (before ++ (clears ++ after)) (below ++ (flat made.lists ++ above))) made.clears_are
    ∙ a_flush_keeps_views key instant task.watermark high before task.clears after below (flat task.runs) (flat made.lists) above once made.kept
