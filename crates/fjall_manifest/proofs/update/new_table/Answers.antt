use Rattle.std.proofs.Common.{◌++◌}
use Rattle.fjall_meta.specs.Entries.{entries_of}
use Rattle.fjall_manifest.proofs.Pairs.{pairs_some}
use Rattle.fjall_manifest.proofs.update.new_table.Goals as goal

pub returns-then-id-eq18446744073709551615-clause-cause : goal.returns-then-id-eq18446744073709551615-clause-cause
returns-then-id-eq18446744073709551615-clause-cause c =
    let table = rw (c.in_ok-writer.ensures.ok) at c.in_ok-bytes.ensures.table in
    (pairs_some c.in-Some.bytes.items (entries_of (c.args.front.now ++ c.args.behind.now)) (rw c.in-Some.is at table), c.if-id-eq18446744073709551615.true)
