use Rattle.std.proofs.Common.{List, map, subst, sym}
use Rattle.fjall_table.specs.Blocks.{seen}
use Rattle.fjall_table.specs.TableReading.{IsBlockFrom}
use Rattle.fjall_table.specs.declared.table_entry.TableEntry.{TableEntry}
use Rattle.fjall_table_reader.specs.Places.{AreFronts}
use Rattle.fjall_table_reader.proofs.Places.{places_block, places_placed}
use Rattle.fjall_table_reader.proofs.block.read_places.Goals as goal

pub returns-clause-block : goal.returns-clause-block
returns-clause-block c =
    let key = c.args.handle.now.first_key.now in
    let text = c.args.framed.now in
    let is = subst (λ (vs : List TableEntry). IsBlockFrom key text (map seen vs)) (sym c.deref-2.ensures.value) c.in_ok-entries.ensures.block in
    places_block key text (map seen c.deref-2.result.now) c.in_ok-places.places.items is c.in_ok-places.ensures

pub returns-clause-placed : goal.returns-clause-placed
returns-clause-placed c =
    let key = c.args.handle.now.first_key.now in
    let text = c.args.framed.now in
    let is = subst (λ (vs : List TableEntry). IsBlockFrom key text (map seen vs)) (sym c.deref-2.ensures.value) c.in_ok-entries.ensures.block in
    let are = subst (λ (vs : List TableEntry). AreFronts c.in_ok-fronts.fronts.items (map seen vs)) (sym c.deref-2.ensures.value) (subst (λ (vs : List TableEntry). AreFronts c.in_ok-fronts.fronts.items (map seen vs)) c.deref.ensures.value c.in_ok-fronts.ensures.fronts) in
    places_placed key text (map seen c.deref-2.result.now) c.in_ok-places.places.items c.in_ok-fronts.fronts.items is c.in_ok-places.ensures are
