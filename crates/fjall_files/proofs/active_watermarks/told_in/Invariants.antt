use Rattle.std.proofs.Common.{◌≡◌, ◌++◌}
use Rattle.std.specs.BTreeMap.{IsOrdered}
use Rattle.std.specs.Ordering.{nat_cmp}
use Rattle.fjall_files.specs.Places.{JournalPlaces, told}
use Rattle.fjall_files.proofs.active_watermarks.told_in.Given as goal

abbrev pub invariant-loop-keyspace_id : goal.invariant-loop-keyspace_id
invariant-loop-keyspace_id l =
    ((seen : JournalPlaces) × (l.places.entries ≡ seen ++ l.keyspace_id-iterator) × (l.lsns.entries ≡ told seen)) × IsOrdered nat_cmp l.lsns
