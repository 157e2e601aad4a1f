use Rattle.std.proofs.Common.{ℕ, ap, sym, ◌∙◌, length, subst, List, Some, ◌≤◌}
use Rattle.std.specs.Map.Iter.{deref_pair}
use Rattle.std.proofs.lemmas.Map.Iter.{rest_more, rest_all}
use Rattle.fjall_memtable.specs.declared.place.Place.{Place}
use Rattle.fjall_memtable.specs.Stamps.{Stamp}
use Rattle.fjall_memtable.specs.Places.{end_of, key_at, value_at}
use Rattle.fjall_memtable.proofs.Finds.{newest_some, newest_other, newest_none, first_placed, read_is}
use Rattle.fjall_memtable.proofs.memtable.Memtable.first_from.Goals as goal

pub key_in-requires : goal.key_in-requires
key_in-requires c =
    let m = c.args.self.now in
    let x : Stamp × Place = (c.in-Some.found.now, c.in-Some.place.now) in
    let first = rest_more deref_pair c.range.result c.next.new.self c.next.result (c.in-Some.found, c.in-Some.place) c.in-Some.is c.next.ensures.steps in
    let placed = first_placed m.text.items c.args.from m.map.entries c.range.result x c.next.new.self m.all.placed (c.range.ensures.between tt) first in
    subst (λ (t : List ℕ). end_of c.in-Some.place.now ≤ length t) (sym c.as_slice.ensures.value) placed.fits

pub value_in-requires : goal.value_in-requires
value_in-requires c =
    let m = c.args.self.now in
    let x : Stamp × Place = (c.in-Some.found.now, c.in-Some.place.now) in
    let first = rest_more deref_pair c.range.result c.next.new.self c.next.result (c.in-Some.found, c.in-Some.place) c.in-Some.is c.next.ensures.steps in
    let placed = first_placed m.text.items c.args.from m.map.entries c.range.result x c.next.new.self m.all.placed (c.range.ensures.between tt) first in
    subst (λ (t : List ℕ). end_of c.in-Some.place.now ≤ length t) (sym c.as_slice-in-Equal.ensures.value) placed.fits

pub returns-in-Equal : goal.returns-in-Equal
returns-in-Equal c =
    let m = c.args.self.now in
    let t = m.text.items in
    let x : Stamp × Place = (c.in-Some.found.now, c.in-Some.place.now) in
    let first = rest_more deref_pair c.range.result c.next.new.self c.next.result (c.in-Some.found, c.in-Some.place) c.in-Some.is c.next.ensures.steps in
    let placed = first_placed t c.args.from m.map.entries c.range.result x c.next.new.self m.all.placed (c.range.ensures.between tt) first in
    let newest = newest_some t c.args.from m.map.entries c.range.result x c.next.new.self c.compare_keys.result c.range.ensures.ordered (c.range.ensures.between tt) first c.compare_keys.ensures c.in-Equal.is in
    let read = read_is t x c.key_in.result.now c.number.result _ placed (c.key_in.ensures ∙ ap (λ (u : List ℕ). key_at u x.1) c.as_slice.ensures.value) c.number.ensures (c.value_in.ensures ∙ ap (λ (u : List ℕ). value_at u x.1) c.as_slice-in-Equal.ensures.value) in
    ap Some read ∙ sym newest

pub returns-in-Some : goal.returns-in-Some
returns-in-Some c =
    let m = c.args.self.now in
    let x : Stamp × Place = (c.in-Some.found.now, c.in-Some.place.now) in
    let first = rest_more deref_pair c.range.result c.next.new.self c.next.result (c.in-Some.found, c.in-Some.place) c.in-Some.is c.next.ensures.steps in
    sym (newest_other m.text.items c.args.from m.map.entries c.range.result x c.next.new.self c.compare_keys.result c.range.ensures.ordered (c.range.ensures.between tt) first c.compare_keys.ensures c.in_default.not-Equal)

pub returns : goal.returns
returns c =
    let m = c.args.self.now in
    sym (newest_none m.text.items c.args.from m.map.entries c.range.result c.range.ensures.ordered (c.range.ensures.between tt) (rest_all deref_pair c.range.result c.next.new.self c.next.result c.in-None.is c.next.ensures.steps))
