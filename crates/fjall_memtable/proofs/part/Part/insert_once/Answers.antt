use Rattle.std.proofs.Common.{ap, arith, Ok}
use Rattle.std.specs.Option.{option_map}
use Rattle.fjall_memtable.specs.Entries.{entries_kept, version}
use Rattle.fjall_memtable.specs.Held.{held_of}
use Rattle.fjall_memtable.proofs.Changes.{version_put}
use Rattle.fjall_memtable.proofs.part.Part.insert_once.Goals as goal

pub invariant_of-self-then-is_new : goal.invariant_of-self-then-is_new
invariant_of-self-then-is_new c =
    let m = c.args.self.now in
    record {
      held = version_put (version c.args.key.now c.args.number (option_map (λ v. v.now) c.args.value)) (held_of m) c.max-self.result (entries_kept c.insert_once.new.self) c.max-self.ensures (c.in_ok-is_new.ensures.new (ap Ok c.if-is_new.true))
          (record { some = c.requires.some; key = c.requires.key; number = omega arith; value = c.requires.value }) m.held c.requires.from c.requires.small;
    }
