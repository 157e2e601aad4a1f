use Rattle.std.proofs.Common.{◌≡◌, ◌-◌}
use Rattle.fjall_base.specs.Fields.{many_at}
use Rattle.fjall_manifest.specs.Records.{table_at}
use Rattle.fjall_manifest.proofs.Loops.{with_front}
use Rattle.fjall_manifest.proofs.decoding.tables_of.Given as goal

abbrev pub invariant-loop : goal.invariant-loop
invariant-loop l = with_front l.tables.items (many_at table_at (l.count - l.counter) l.rest) ≡ many_at table_at l.count l.bytes
