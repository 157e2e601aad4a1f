use Rattle.std.proofs.Common.{arith}
use Rattle.fjall_table.proofs.TableWriting.{two_closed}
use Rattle.fjall_table.proofs.closed_blocks.ClosedBlocks.entry_count.Goals as goal

pub returns-clause-small : goal.returns-clause-small
returns-clause-small c =
    let two = two_closed c.self.inside.bytes.items c.self.inside.index.items c.self.inside.entry_count _ c.self.invariant in
    omega (arith, two, c.self.inside.bytes.small, c.self.inside.bytes.ok.0)
