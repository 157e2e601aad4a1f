use Rattle.std.proofs.Common.{◌≡◌, ◌≤◌, ◌<◌, ◌^◌, ap, length, sym, ◌∙◌, arith, vec_capacity}
use Rattle.std.proofs.lemmas.List.{length-map}
use Rattle.std.specs.FinMap as fin
use Rattle.fjall_tx.specs.Owns.{Own, item_of, items_of}
use Rattle.fjall_tx.proofs.Keys.{same_entries}
use Rattle.fjall_tx.proofs.own_writes.OwnWrites.len.Goals as goal

pub returns-clause-len : goal.returns-clause-len
returns-clause-len c =
    c.len.ensures.len ∙ ap length (sym (same_entries c.self.inside.writes.entries c.len.ensures.ordered) ∙ ap (λ (own : Own). fin.entries own) c.self.view_is) ∙ sym (fin.len-entries c.args.self.now)

pub returns-clause-few : goal.returns-clause-few
returns-clause-few c =
    let es = c.self.inside.writes.entries in
    let same : length es ≡ length (fin.entries c.args.self.now) = ap length (sym (same_entries es c.len.ensures.ordered) ∙ ap (λ (own : Own). fin.entries own) c.self.view_is) in
    let as_many : length (items_of c.args.self.now) ≡ length (fin.entries c.args.self.now) = length-map (fin.entries c.args.self.now) item_of in
    let room : length es ≤ vec_capacity c.self.inside.room = c.self.invariant.1 in
    let small : vec_capacity c.self.inside.room < 2 ^ 63 = c.self.inside.room.small in
    omega (arith, same, as_many, room, small)
