use Rattle.std.proofs.Common.{rules, ◌≡◌, ◌∙◌, ap}
use Rattle.fjall_base.specs.Pairs.{KeyRange, is_within, key_range}
use Rattle.fjall_reading.specs.Prefixes.{range_behind}
use Rattle.fjall_reading.proofs.Prefixing.{within_behind}
use Rattle.fjall_reading.proofs.prefix.prefixed_range.Goals as goal

pub returns-clause-keys : goal.returns-clause-keys
returns-clause-keys c = λ key bytes.
    let range = key_range c.args.range in
    let is : ◌≡◌ {A = KeyRange} (c.in_ok-start.start, c.in_ok-end.end) (range_behind c.args.prefix.now range) = search rules in
    ap (λ found. is_within found key) is ∙ within_behind c.args.prefix.now range key bytes
