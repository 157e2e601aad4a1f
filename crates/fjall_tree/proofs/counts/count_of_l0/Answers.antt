use Rattle.std.proofs.Common.{Bool, ◌∙◌, rules}
use Rattle.std.proofs.lemmas.Iterator.{YieldsList-from_slice}
use Rattle.std.proofs.lemmas.Iterator.Consumers.{YieldsList-from_filter, count_from_yields_List}
use Rattle.std.proofs.lemmas.List.Sums.{length-filter}
use Rattle.fjall_table_reader.specs.Readers.{Reader}
use Rattle.fjall_tree.specs.Trees.{is_l0}
use Rattle.fjall_tree.proofs.counts.count_of_l0.Goals as goal

pub returns : goal.returns
returns c =
    let low : Reader → Bool = λ t. is_l0 t.info.level in
    count_from_yields_List c.filter.result _ c.count.ensures.ran
    (YieldsList-from_filter _ low (YieldsList-from_slice c.args.tables.now cc) c.filter.ensures.closure (λ x b q k. (search rules, search rules))) ∙ length-filter low c.args.tables.now
