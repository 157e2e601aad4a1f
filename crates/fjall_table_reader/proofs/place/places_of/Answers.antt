use Rattle.std.proofs.Common.{arith, map}
use Rattle.fjall_table.specs.Blocks.{IsEntry, seen}
use Rattle.fjall_table.proofs.TableBlocks.{is_at}
use Rattle.fjall_table_reader.proofs.Places.{got_or, placing_more, room_less}
use Rattle.fjall_table_reader.proofs.place.places_of.Goals as goal

pub new-place-requires-clause-entry : goal.new-place-requires-clause-entry
new-place-requires-clause-entry c = is_at IsEntry (map seen c.args.entries.now) c.loop-entry.entry-index _ c.requires.entries (got_or seen c.args.entries.now c.loop-entry.entry-index _ (omega arith))

pub new-place-requires-clause-fits : goal.new-place-requires-clause-fits
new-place-requires-clause-fits c = room_less _ _ _ _ _ _ c.loop-entry.invariant (got_or seen c.args.entries.now c.loop-entry.entry-index _ (omega arith)) c.requires.fits

pub end-next-requires : goal.end-next-requires
end-next-requires c = rw c.new-place.ensures (room_less _ _ _ _ _ _ c.loop-entry.invariant (got_or seen c.args.entries.now c.loop-entry.entry-index _ (omega arith)) c.requires.fits)

pub loop-entry-preserved : goal.loop-entry-preserved
loop-entry-preserved c =
    rw (c.in_ok-push.ensures.items, c.end-next.ensures, c.new-place.ensures)
    (placing_more _ _ _ _ _ _ c.loop-entry.invariant (got_or seen c.args.entries.now c.loop-entry.entry-index _ (omega arith)))
