use Rattle.std.proofs.Common.{ap, sym, subst, ◌∙◌, map, ◌++◌, ◌∷◌, []}
use Rattle.std.specs.List.{AllByRecursion}
use Rattle.fjall_table.specs.Blocks.{Entry}
use Rattle.fjall_memtable.specs.declared.place.Place.{Place}
use Rattle.fjall_memtable.specs.Stamps.{Stamp}
use Rattle.fjall_memtable.specs.Places.{entry_at_place, IsPlaced}
use Rattle.fjall_memtable.proofs.Finds.{all_but_last, the_last, read_is, map_back}
use Rattle.fjall_memtable.proofs.versions.Versions.next_back.Goals as goal

pub invariant_of-self-2 : goal.invariant_of-self-2
invariant_of-self-2 c =
    let t = c.self.inside.text.now in
    let x : Stamp × Place = (c.in_ok-key.key.now, c.in_ok-key.place.now) in
    all_but_last (IsPlaced t) c.next_back.new.self x (subst (AllByRecursion (IsPlaced t)) c.in_ok-key.ensures.steps c.self.invariant)

pub returns : goal.returns
returns c =
    let t = c.self.inside.text.now in
    let x : Stamp × Place = (c.in_ok-key.key.now, c.in_ok-key.place.now) in
    let placed = the_last (IsPlaced t) c.next_back.new.self x (subst (AllByRecursion (IsPlaced t)) c.in_ok-key.ensures.steps c.self.invariant) in
    let read = read_is t x c.key_in.result.now c.number.result _ placed c.key_in.ensures c.number.ensures c.value_in.ensures in
    sym c.self.view_is ∙ ap (map (entry_at_place t)) c.in_ok-key.ensures.steps ∙ map_back (entry_at_place t) c.next_back.new.self x ∙ ap (λ (e : Entry). map (entry_at_place t) c.next_back.new.self ++ e ∷ []) (sym read)
