use Rattle.std.proofs.Common.{◌≡◌, ◌++◌, ℕ, None, map}
use Rattle.fjall_base.specs.Pairs.{Pairs}
use Rattle.fjall_journal.specs.Ops.{item_in}
use Rattle.fjall_reading.specs.Cursors.{left}
use Rattle.fjall_reading.specs.Readers.{all_of}
use Rattle.fjall_index_entries.specs.Repairs.{removals}
use Rattle.fjall_index_entries.proofs.repair.add_removals.Given as goal

-- what was added, and behind it the removals of what is left, is all
abbrev pub invariant-loop : goal.invariant-loop
invariant-loop g l = record {
  added : (pairs found : Pairs) → g.R.Pages.shows l.fn.reader l.main pairs → g.R.Pages.shows l.fn.reader l.index found
      → map item_in l.items.items ++ removals (g.E.Extract.field_of l.extract) l.index pairs (left l.stood found)
      ≡ map item_in l.fn.items.items ++ removals (g.E.Extract.field_of l.extract) l.index pairs (all_of found);
  same : (i : ℕ) (map : Pairs) → g.R.Pages.shows l.fn.reader i map → g.R.Pages.shows l.reader i map;
  reads : g.R.Pages.reads l.fn.reader l.main None l.reader;
  keyspace : l.stood.id ≡ l.index;
}
