use Rattle.std.proofs.Common.{◌≡◌, ◌++◌, map}
use Rattle.std.specs.BTreeMap.{IsOrdered}
use Rattle.std.specs.Ordering.{nat_cmp}
use Rattle.fjall_files.specs.Marks.{JournalMarks}
use Rattle.fjall_files.proofs.Placing.{place_of}
use Rattle.fjall_files.proofs.active_watermarks.placed.Given as goal

abbrev pub invariant-loop-keyspace_id : goal.invariant-loop-keyspace_id
invariant-loop-keyspace_id l =
    ((seen : JournalMarks) × (l.lsns.entries ≡ seen ++ l.keyspace_id-iterator) × (l.places.entries ≡ map place_of seen)) × IsOrdered nat_cmp l.places
