use Rattle.std.proofs.Common.{◌∙◌, map}
use Rattle.fjall_memtable.specs.Places.{entry_at_place}
use Rattle.fjall_memtable.proofs.Ranges.{part_is, ordered_part}
use Rattle.fjall_memtable.proofs.memtable.Memtable.part.Goals as goal

pub returns-clause-versions : goal.returns-clause-versions
returns-clause-versions c = let m = c.args.self.now in (λ i. map (entry_at_place (c.as_slice.ensures.value i)) (c.range.ensures.between tt i)) ∙ part_is m.text.items c.args.start c.args.end m.map.entries

pub returns-clause-ordered : goal.returns-clause-ordered
returns-clause-ordered c = let m = c.args.self.now in ordered_part c.as_slice.result.now c.args.start c.args.end m.map.entries c.range.result c.range.ensures.ordered (c.range.ensures.between tt)
