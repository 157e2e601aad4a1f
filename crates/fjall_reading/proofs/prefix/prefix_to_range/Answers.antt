use Rattle.std.proofs.Common.{rules, ◌≡◌, ◌∙◌, ap}
use Rattle.fjall_base.specs.Pairs.{KeyRange, is_within}
use Rattle.fjall_reading.specs.Prefixes.{prefix_range}
use Rattle.fjall_reading.proofs.Prefixing.{within_prefix}
use Rattle.fjall_reading.proofs.prefix.prefix_to_range.Goals as goal

pub returns-clause-keys : goal.returns-clause-keys
returns-clause-keys c = λ key bytes.
    let is : ◌≡◌ {A = KeyRange} (c.in_ok-start.start, c.in_ok-end.end) (prefix_range c.args.prefix.now) = search rules in
    ap (λ range. is_within range key) is ∙ within_prefix c.args.prefix.now key bytes
