use Rattle.std.proofs.Common.{◌≡◌, ◌++◌, ℕ, None, map}
use Rattle.fjall_base.specs.Pairs.{Pairs}
use Rattle.fjall_journal.specs.Ops.{item_in}
use Rattle.fjall_reading.specs.Cursors.{left}
use Rattle.fjall_reading.specs.Readers.{all_of}
use Rattle.fjall_index_entries.specs.Repairs.{additions, lacks_long}
use Rattle.fjall_index_entries.proofs.repair.add_additions.Given as goal

-- what was added, and behind it what is lacking of what is left, is all; an entry that is too long is left where there is one
abbrev pub invariant-loop : goal.invariant-loop
invariant-loop g l = record {
  added : (pairs found : Pairs) → g.R.Pages.shows l.fn.reader l.main pairs → g.R.Pages.shows l.fn.reader l.index found
      → map item_in l.items.items ++ additions (g.E.Extract.field_of l.extract) l.index found (left l.pairs pairs)
      ≡ map item_in l.fn.items.items ++ additions (g.E.Extract.field_of l.extract) l.index found (all_of pairs);
  fits : (pairs found : Pairs) → g.R.Pages.shows l.fn.reader l.main pairs → g.R.Pages.shows l.fn.reader l.index found
      → lacks_long (g.E.Extract.field_of l.extract) found (left l.pairs pairs) ≡ lacks_long (g.E.Extract.field_of l.extract) found (all_of pairs);
  same : (i : ℕ) (map : Pairs) → g.R.Pages.shows l.fn.reader i map → g.R.Pages.shows l.reader i map;
  reads : g.R.Pages.reads l.fn.reader l.main None l.reader;
  keyspace : l.pairs.id ≡ l.main;
}
