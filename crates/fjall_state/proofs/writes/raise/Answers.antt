use Rattle.std.proofs.Common.{subst}
use Rattle.fjall_journal.specs.Ops.{op_of}
use Rattle.fjall_changes.specs.Given.{meant}
use Rattle.fjall_changes.specs.declared.journaling.Change.{Change}
use Rattle.fjall_state.specs.Changes.{HavePlaces}
use Rattle.fjall_state.proofs.Watermarks.{place_of_one}
use Rattle.fjall_state.proofs.writes.raise.Goals as goal

pub raise-requires : goal.raise-requires
raise-requires c =
    record { place = place_of_one c.args.watermarks.now (c.in-Item.id, c.in-Item.field-1.now, op_of c.in-Item.field-2) (subst (λ (change : Change). HavePlaces c.args.watermarks.now (meant change)) c.in-Item.is c.requires.places) }
