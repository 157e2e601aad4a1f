use Rattle.std.proofs.Common.{List, sym, subst, ◌∙◌, map}
use Rattle.fjall_table.specs.Blocks.{IsOrdered}
use Rattle.fjall_memtable.specs.declared.place.Place.{Place}
use Rattle.fjall_memtable.specs.Stamps.{Stamp}
use Rattle.fjall_memtable.specs.Places.{entry_at_place}
use Rattle.fjall_memtable.proofs.Orders.{ordered_is}
use Rattle.fjall_memtable.proofs.Finds.{everything}
use Rattle.fjall_memtable.proofs.memtable.Memtable.versions.Goals as goal

pub returns-clause-versions : goal.returns-clause-versions
returns-clause-versions c = let m = c.args.self.now in let all = c.range.ensures.between tt ∙ everything m.map.entries in λ i. map (entry_at_place (c.as_slice.ensures.value i)) (all i)

pub returns-clause-ordered : goal.returns-clause-ordered
returns-clause-ordered c =
    let m = c.args.self.now in
    let all = c.range.ensures.between tt ∙ everything m.map.entries in
    subst (λ (es : List (Stamp × Place)). IsOrdered (map (entry_at_place c.as_slice.result.now) es)) (sym all) (ordered_is c.as_slice.result.now m.map.entries c.range.ensures.ordered)
