use Rattle.std.proofs.Common.{◌≡◌, length}
use Rattle.fjall_base.specs.Pairs.{byte_order}
use Rattle.fjall_table.proofs.keys.compare_by_words.Given as goal

abbrev pub invariant-words : goal.invariant-words
invariant-words l = byte_order l.rest l.other_rest ≡ byte_order l.fn.key l.fn.other

abbrev pub decreases-words : goal.decreases-words
decreases-words l = length l.rest
