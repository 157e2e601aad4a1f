use Rattle.std.proofs.Common.{arith}
use Rattle.fjall_journal.proofs.Entries.{entry_shorter}
use Rattle.fjall_journal.proofs.Rests.{rest_entry}
use Rattle.fjall_journal.proofs.parsing.entry_or_torn.Goals as goal

pub returns-in-Ok-clause-shorter : goal.returns-in-Ok-clause-shorter
returns-in-Ok-clause-shorter c = entry_shorter c.args.bytes.now c.in-Ok.found.0 c.in-Ok.found.1.now (λ i. omega (arith, c.type_inv.bytes i)) c.in-Ok.ensures

pub returns-in-Ok-clause-rest : goal.returns-in-Ok-clause-rest
returns-in-Ok-clause-rest c = rest_entry c.args.text.now c.args.bytes.now c.in-Ok.found.0 c.in-Ok.found.1.now (λ i. omega (arith, c.type_inv.bytes i)) c.requires c.in-Ok.ensures
