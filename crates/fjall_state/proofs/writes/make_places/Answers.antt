use Rattle.std.proofs.Common.{subst, sym}
use Rattle.std.specs.Prelude.{OnOk}
use Rattle.fjall_journal.specs.Ops.{op_of}
use Rattle.fjall_changes.specs.Given.{meant}
use Rattle.fjall_changes.specs.declared.journaling.Change.{Change}
use Rattle.fjall_state.specs.Changes.{HavePlaces}
use Rattle.fjall_state.proofs.Watermarks.{one_placed}
use Rattle.fjall_state.proofs.writes.make_places.Goals as goal

pub returns-in-Item-clause-places : goal.returns-in-Item-clause-places
returns-in-Item-clause-places c =
    subst (λ (change : Change). OnOk c.make_place.result (HavePlaces c.make_place.new.self (meant change))) (sym c.in-Item.is)
    (one_placed c.make_place.result c.make_place.new.self (c.in-Item.id, c.in-Item.field-1.now, op_of c.in-Item.field-2) c.make_place.ensures.place)
