use Rattle.std.proofs.Common.{rules}
use Rattle.fjall.proofs.indexed.IndexedKeyspace.keep_in.Goals as goal

pub returns-clause-kept : goal.returns-clause-kept
returns-clause-kept g c = record { old = c.in_ok-old.old; batch = c.in_ok-items.items; is = search rules; kept = search rules }
