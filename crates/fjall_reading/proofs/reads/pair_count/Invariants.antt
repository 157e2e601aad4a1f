use Rattle.std.proofs.Common.{◌≡◌, ℕ, ◌+◌, ◌-◌, ◌^◌, ◌≤◌, min, length, None}
use Rattle.fjall_base.specs.Pairs.{Pairs}
use Rattle.fjall_reading.specs.Readers.{count_of}
use Rattle.fjall_reading.specs.Rests.{middle}
use Rattle.fjall_reading.proofs.Counting.{left_to_count}
use Rattle.fjall_reading.proofs.reads.pair_count.Given as goal

-- those that were counted and those that are left are all pairs
abbrev pub invariant-loop-rest : goal.invariant-loop-rest
invariant-loop-rest g l = record {
  counted : (map : Pairs) → g.P.Pages.shows l.fn.pages l.id map → min (l.count + length (middle l.rest map)) (2 ^ 64 - 1) ≡ count_of map;
  fits : l.count ≤ 2 ^ 64 - 1;
  same : (i : ℕ) (map : Pairs) → g.P.Pages.shows l.fn.pages i map → g.P.Pages.shows l.pages i map;
  read : g.P.Pages.paging l.fn.pages l.fn.id None l.pages;
}

abbrev pub decreases-loop-rest : goal.decreases-loop-rest
decreases-loop-rest g l = left_to_count l.count l.rest
