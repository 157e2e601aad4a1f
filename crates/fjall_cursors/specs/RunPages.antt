-- Pages that are being made.
use Rattle.std.specs.Prelude.{◌≡◌, ◌-◌, List, ◌++◌, Option, Some, None, length, slice_get}
use Rattle.std.specs.Option.{option_map}
use Rattle.fjall_base.specs.Pairs.{Bytes}
use Rattle.fjall_table.specs.Blocks.{Entry}
use Rattle.fjall_memtable.specs.SortedPages.{pairs_back, pairs_of}
use Rattle.fjall_cursors.specs.Keyed.{found_in}
use Rattle.fjall_cursors.specs.declared.front_page.FrontPage.{FrontPage}
use Rattle.fjall_cursors.specs.declared.back_page.BackPage.{BackPage}

-- ---- from the start

-- the pairs so far
abbrev pub front_pairs : FrontPage → List (Bytes × Bytes)
front_pairs page = page.pairs.items

-- the key that was settled last: one that has no pair, or that of the last pair
abbrev pub settled_key : Option Bytes → List (Bytes × Bytes) → Option Bytes
settled_key (Some key) pairs = Some key
settled_key None pairs = option_map (λ pair. pair.0) (slice_get pairs (length pairs - 1))

-- all pairs of it, where these versions are still to be looked at
abbrev pub front_with : FrontPage → List Entry → List (Bytes × Bytes)
front_with page versions = page.pairs.items ++ pairs_of page.instant page.bound (settled_key page.bare page.pairs.items) versions

-- ---- several versions

-- The first of what was left were looked at, one behind another, and the rest is left: what is made of the rest is what was made of all.
pub record LooksOver (left rest : List Entry) (all all_new : List Entry → List (Bytes × Bytes)) : Type 0 where
  pub front : List Entry
  pub passed : left ≡ front ++ rest
  pub looked : (versions : List Entry) → all_new versions ≡ all (front ++ versions)

-- ---- from behind

-- the pairs so far, the last one first
abbrev pub back_pairs : BackPage → List (Bytes × Bytes)
back_pairs page = page.pairs.before

-- all pairs of it, where these versions are still to be looked at
abbrev pub back_with : BackPage → List Entry → List (Bytes × Bytes)
back_with page versions = page.pairs.before ++ pairs_back page.instant page.bound (found_in page.bound page.pairs.last) versions
