use Rattle.std.proofs.Common.{ap, Ok}
use Rattle.std.specs.Option.{option_map}
use Rattle.fjall_memtable.specs.Entries.{version}
use Rattle.fjall_memtable.specs.Memories.{memory_of}
use Rattle.fjall_tree.specs.Shapes.{shape_of}
use Rattle.fjall_tree.proofs.Puts.{put_once}
use Rattle.fjall_tree.proofs.tree.Tree.put.Goals as goal

pub returns-clause-ok : goal.returns-clause-ok
returns-clause-ok c =
    put_once (version c.args.key.now c.args.number (option_map (λ v. v.now) c.args.value)) (shape_of c.args.self.now) (memory_of c.insert_once.new.self)
    c.in_ok-insert_once.field-0 c.in_ok-insert_once.ensures.told (λ is. c.in_ok-insert_once.ensures.new (ap Ok is)) (λ is. c.in_ok-insert_once.ensures.there (ap Ok is))
