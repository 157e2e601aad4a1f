use Rattle.std.proofs.Common.{◌≡◌, ◌∙◌, ◌-◌, ap, arith, drop, max, ℕ, take}
use Rattle.fjall_base.specs.Pairs.{key_range}
use Rattle.fjall_table.proofs.Lookups.{filter_len}
use Rattle.fjall_table_reader.specs.Ahead.{before_start, up_to_end}
use Rattle.fjall_table_reader.proofs.Searches.{within_found}
use Rattle.fjall_table_reader.proofs.block.Block.within.Goals as goal

pub returns-clause-entries : goal.returns-clause-entries
returns-clause-entries c =
    let is : c.max.result ≡ max c.count_up_to-end.result c.count_before-start.result = omega arith in
    ap (λ (n : ℕ). take (n - c.count_before-start.result) (drop c.count_before-start.result c.args.self.now)) is
    ∙ within_found (key_range c.args.range) c.args.self.now c.count_before-start.result c.count_up_to-end.result c.count_up_to-end.ensures.ordered c.count_before-start.ensures c.count_up_to-end.ensures.count

pub returns-clause-end : goal.returns-clause-end
returns-clause-end c =
    let l = filter_len (before_start (key_range c.args.range).0) c.args.self.now in
    let m = filter_len (up_to_end (key_range c.args.range).1) c.args.self.now in
    omega (arith, l, m, c.count_before-start.ensures, c.count_up_to-end.ensures.count)
