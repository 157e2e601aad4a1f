use Rattle.std.proofs.Common.{[]}
use Rattle.std.proofs.lemmas.List.{append-nil}
use Rattle.fjall_options.proofs.options.policy.Policy.into_bytes.Goals as goal

pub returns-clause-back : goal.returns-clause-back
returns-clause-back g c = rw (← c.self.view_is) (rw append-nil at (c.self.invariant.3 []))
