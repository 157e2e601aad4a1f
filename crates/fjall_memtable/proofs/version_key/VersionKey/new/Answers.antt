use Rattle.fjall_memtable.specs.Stamps.{front_bytes}
use Rattle.fjall_memtable.specs.Tails.{rest_of, front_len_of}
use Rattle.fjall_memtable.proofs.Fronts.{are_parts}
use Rattle.fjall_memtable.proofs.version_key.VersionKey.new.Goals as goal

pub invariant_of-result : goal.invariant_of-result
invariant_of-result c =
    let words = c.words_of-first in
    let tail = c.in_ok-tail.tail in
    are_parts c.args.key.now (front_bytes words.result.0 words.result.1) (rest_of tail) (front_len_of tail) words.ensures c.in_ok-tail.ensures.rest c.in_ok-tail.ensures.len
