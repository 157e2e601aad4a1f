use Rattle.std.proofs.Common.{◌≡◌, ◌++◌, ℕ, true, None}
use Rattle.fjall_base.specs.Pairs.{Pairs}
use Rattle.fjall_reading.specs.ReadIters.{IsShown, left_of}
use Rattle.fjall_index_entries.specs.Finding.{keys_in}
use Rattle.fjall_index_entries.proofs.keys.take_keys.Given as goal

-- the keys that were taken, and behind them those that are left, are all
abbrev pub invariant-loop : goal.invariant-loop
invariant-loop g l = record {
  keys : (map : Pairs) → IsShown g.R.Pages.shows l.initial.pairs map → l.keys.items ++ keys_in (left_of map l.pairs) ≡ keys_in (left_of map l.initial.pairs);
  shown : (map : Pairs) → IsShown g.R.Pages.shows l.initial.pairs map → IsShown g.R.Pages.shows l.pairs map;
  same : (i : ℕ) (map : Pairs) → g.R.Pages.shows l.initial.pairs.reader.now i map → g.R.Pages.shows l.pairs.reader.now i map;
  short : l.initial.pairs.short ≡ true → l.pairs.short ≡ true;
  reads : g.R.Pages.reads l.initial.pairs.reader.now l.initial.pairs.cursor.id None l.pairs.reader.now;
  same_keyspace : l.pairs.cursor.id ≡ l.initial.pairs.cursor.id;
  same_reader : l.pairs.reader.ghost_name ≡ l.initial.pairs.reader.ghost_name;
}
