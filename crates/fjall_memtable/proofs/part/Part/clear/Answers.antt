use Rattle.fjall_memtable.specs.Held.{held_of}
use Rattle.fjall_memtable.proofs.Changes.{clear_put}
use Rattle.fjall_memtable.proofs.part.Part.clear.Goals as goal

pub invariant_of-self-2 : goal.invariant_of-self-2
invariant_of-self-2 c =
    let m = c.args.self.now in
    record { held = clear_put c.args.number (held_of m) c.max-self.result c.push.new.self.items c.max-self.ensures c.in_ok-push.ensures.items m.held c.requires.from c.requires.small c.requires.last }
