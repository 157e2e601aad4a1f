use Rattle.std.proofs.Common.{List, ℕ, Bor, arith}
use Rattle.fjall_journal.proofs.Readings.{found, stopped}
use Rattle.fjall_journal.proofs.parsing.batch_of.Goals as goal

pub returns-clause-batch : goal.returns-clause-batch
returns-clause-batch c = found (λ (x : Bor (List ℕ)). x.now) c.args.bytes.now c.parse_batch.result (λ i. omega (arith, c.type_inv.bytes i)) c.parse_batch.ensures.gives

pub returns-clause-tail : goal.returns-clause-tail
returns-clause-tail c = stopped (λ (x : Bor (List ℕ)). x.now) c.args.bytes.now c.parse_batch.result (λ i. omega (arith, c.type_inv.bytes i)) c.parse_batch.ensures.gives
