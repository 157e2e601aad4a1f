use Rattle.std.proofs.Common.{arith}
use Rattle.std.specs.Option.{option_map}
use Rattle.fjall_memtable.specs.Entries.{entries_kept, version}
use Rattle.fjall_memtable.specs.Held.{held_of}
use Rattle.fjall_memtable.proofs.Changes.{version_put}
use Rattle.fjall_memtable.proofs.part.Part.insert.Goals as goal

pub invariant_of-self-2 : goal.invariant_of-self-2
invariant_of-self-2 c =
    let m = c.args.self.now in
    record {
      held = version_put (version c.args.key.now c.args.number (option_map (λ v. v.now) c.args.value)) (held_of m) c.max-self.result (entries_kept c.insert.new.self) c.max-self.ensures c.in_ok-insert.ensures.ok
          (record { some = c.requires.some; key = c.requires.key; number = omega arith; value = c.requires.value }) m.held c.requires.from c.requires.small;
    }
