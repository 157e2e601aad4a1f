use Rattle.std.proofs.Common.{◌≡◌, ◌≤◌, ℕ, None}
use Rattle.fjall_base.specs.Pairs.{Pairs}
use Rattle.fjall_reading.specs.Cursors.{left}
use Rattle.fjall_reading.specs.Readers.{all_of}
use Rattle.fjall_index_entries.proofs.Tallying.{plus, tally}
use Rattle.fjall_index_entries.proofs.check.is_index.Given as goal

-- what was counted, and what is left to be, is the whole
abbrev pub invariant-loop : goal.invariant-loop
invariant-loop g l = record {
  whole : (map found : Pairs) → g.R.Pages.shows l.fn.reader l.main map → g.R.Pages.shows l.fn.reader l.index found
      → plus l.count (tally (g.E.Extract.field_of l.extract) found (left l.pairs map)) ≡ tally (g.E.Extract.field_of l.extract) found (all_of map);
  same : (i : ℕ) (map : Pairs) → g.R.Pages.shows l.fn.reader i map → g.R.Pages.shows l.reader i map;
  reads : g.R.Pages.reads l.fn.reader l.main None l.reader;
  keyspace : l.pairs.id ≡ l.main;
  few : l.count ≤ l.counter;
}
