use Rattle.std.proofs.Common.{Bool, is_some, ◌∙◌, rules}
use Rattle.std.proofs.lemmas.Iterator.{YieldsList-from_slice}
use Rattle.std.proofs.lemmas.Iterator.Consumers.{YieldsList-from_filter, count_from_yields_List}
use Rattle.std.proofs.lemmas.List.Sums.{length-filter}
use Rattle.fjall_trees.specs.declared.trees.KeyspaceTree.{KeyspaceTree}
use Rattle.fjall_trees.specs.Lists.{planted}
use Rattle.fjall_trees.proofs.Counting.{count_planted, tells_some}
use Rattle.fjall_trees.proofs.trees.Trees.merge_count.Goals as goal

pub returns : goal.returns
returns c =
    let ks = c.args.self.now.trees.items in
    let merges : KeyspaceTree → Bool = λ k. is_some (planted k).shape.merge in
    count_from_yields_List c.filter.result _ c.count.ensures.ran
    (YieldsList-from_filter _ merges (YieldsList-from_slice ks cc) c.filter.ensures.closure (λ x b q k. (search rules, tells_some b (planted x.now).shape.merge (search rules)))) ∙ length-filter merges ks ∙ count_planted (λ k. is_some k.shape.merge) ks
