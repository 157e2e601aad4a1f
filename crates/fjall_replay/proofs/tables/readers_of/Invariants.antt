use Rattle.std.proofs.Common.{◌≡◌, length, map, take}
use Rattle.fjall_replay.specs.Opening.{reader_of}
use Rattle.fjall_replay.proofs.tables.readers_of.Given as goal

abbrev pub invariant-loop-file : goal.invariant-loop-file
invariant-loop-file l = l.readers.items ≡ map reader_of (take (length l.yielded) l.fn.files.items)
