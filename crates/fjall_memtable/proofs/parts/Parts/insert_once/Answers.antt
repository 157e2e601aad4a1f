use Rattle.fjall_memtable.specs.Held.{held_of}
use Rattle.fjall_memtable.specs.Shares.{shared}
use Rattle.fjall_memtable.proofs.Apart.{apart_with}
use Rattle.fjall_memtable.proofs.parts.Parts.insert_once.Goals as goal

pub invariant_of-self : goal.invariant_of-self
invariant_of-self c = let m = c.args.self.now in record { apart = apart_with (shared m.sealed.items) (held_of m.active) (held_of c.insert_once.new.self) c.insert_once.ensures.from m.apart }
