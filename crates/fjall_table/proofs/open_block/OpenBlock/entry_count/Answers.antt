use Rattle.std.proofs.Common.{arith}
use Rattle.fjall_table.proofs.TableWriting.{two_open}
use Rattle.fjall_table.proofs.open_block.OpenBlock.entry_count.Goals as goal

pub returns-clause-small : goal.returns-clause-small
returns-clause-small c =
    let two = two_open c.self.inside.payload.items c.self.inside.entry_count _ c.self.invariant in
    omega (arith, two, c.self.inside.payload.small, c.self.inside.payload.ok.0)
