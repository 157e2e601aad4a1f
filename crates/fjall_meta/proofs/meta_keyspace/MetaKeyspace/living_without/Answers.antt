use Rattle.std.proofs.Common.{◌==◌, not, subst}
use Rattle.fjall_meta.specs.Keyspaces.{AreKeyspaces}
use Rattle.fjall_meta.proofs.Changes.{some_are}
use Rattle.fjall_meta.proofs.meta_keyspace.MetaKeyspace.living_without.Goals as goal

pub returns-in-Some-clause-lawful : goal.returns-in-Some-clause-lawful
returns-in-Some-clause-lawful c = some_are c.args.self.now.living c.args.self.now.next (λ k. not (k.id == c.args.id)) (subst AreKeyspaces c.self.view_is c.self.invariant)

pub returns-in-None-clause-lawful : goal.returns-in-None-clause-lawful
returns-in-None-clause-lawful c = some_are c.args.self.now.living c.args.self.now.next (λ k. not (k.id == c.args.id)) (subst AreKeyspaces c.self.view_is c.self.invariant)
