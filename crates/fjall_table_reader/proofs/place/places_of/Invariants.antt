use Rattle.std.proofs.Common.{map}
use Rattle.fjall_table.specs.Blocks.{seen}
use Rattle.fjall_table_reader.proofs.Places.{Placing}
use Rattle.fjall_table_reader.proofs.place.places_of.Given as goal

abbrev pub invariant-loop-entry : goal.invariant-loop-entry
invariant-loop-entry l = Placing l.at (map seen l.entries) l.places.items l.next l.entry-index
