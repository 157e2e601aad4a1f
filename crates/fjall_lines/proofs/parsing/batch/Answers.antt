use Rattle.fjall_lines.proofs.Batches.{no_batch}
use Rattle.fjall_lines.proofs.parsing.batch.Goals as goal

pub returns-then-is_empty : goal.returns-then-is_empty
returns-then-is_empty c = no_batch (λ word. word.now) c.args.words.now c.is_empty.result c.is_empty.ensures c.if-is_empty.true
