use Rattle.std.proofs.Common.{ap}
use Rattle.fjall_memtable.specs.Parts.{HeldPart}
use Rattle.fjall_memtable.specs.Held.{held_of}
use Rattle.fjall_memtable.specs.Shares.{shared}
use Rattle.fjall_memtable.proofs.Apart.{apart_with}
use Rattle.fjall_memtable.proofs.parts.Parts.undo.Goals as goal

pub invariant_of-self : goal.invariant_of-self
invariant_of-self c = let m = c.args.self.now in record { apart = apart_with (shared m.sealed.items) (held_of m.active) (held_of c.undo.new.self) (ap (λ (h : HeldPart). h.from) c.undo.ensures) m.apart }
