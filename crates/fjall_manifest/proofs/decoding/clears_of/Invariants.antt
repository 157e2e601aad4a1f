use Rattle.std.proofs.Common.{◌≡◌, ◌-◌}
use Rattle.fjall_base.specs.Fields.{many_at, number_at}
use Rattle.fjall_manifest.proofs.Loops.{with_front}
use Rattle.fjall_manifest.proofs.decoding.clears_of.Given as goal

abbrev pub invariant-loop : goal.invariant-loop
invariant-loop l = with_front l.clears.items (many_at (number_at 8) (l.count - l.counter) l.rest) ≡ many_at (number_at 8) l.count l.bytes
