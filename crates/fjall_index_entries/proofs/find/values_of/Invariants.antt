use Rattle.std.proofs.Common.{◌≡◌, ◌++◌, ℕ, None, drop}
use Rattle.fjall_base.specs.Pairs.{Pairs}
use Rattle.fjall_index_entries.specs.Finding.{behind_all, valued}
use Rattle.fjall_index_entries.proofs.find.values_of.Given as goal

-- what was found, and behind it what is left, is all
abbrev pub invariant-loop-entry : goal.invariant-loop-entry
invariant-loop-entry g l = record {
  found : (map : Pairs) → g.R.Pages.shows l.fn.reader (g.K.Identified.identity l.main) map → l.found.items ++ valued map (behind_all l.front (drop l.entry-index l.entries)) ≡ valued map (behind_all l.front l.entries);
  reads : g.R.Pages.reads l.fn.reader (g.K.Identified.identity l.main) None l.reader;
  same : (i : ℕ) (map : Pairs) → g.R.Pages.shows l.fn.reader i map → g.R.Pages.shows l.reader i map;
}
