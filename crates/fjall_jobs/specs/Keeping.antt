-- What a job keeps of its input.
use Rattle.std.specs.Prelude.{◌≡◌, ℕ, false, List, ◌++◌, Option, Some, None}
use Rattle.std.specs.List.{All, AllByRecursion}
use Rattle.fjall_table.specs.Blocks.{Entry, IsEntry, IsOrdered}
use Rattle.fjall_memtable.specs.Jobs.{OnceEach}
use Rattle.fjall_memtable.specs.Kept.{kept_of}
use Rattle.fjall_memtable.specs.Sorted.{IsInTurn, flat}
use Rattle.fjall_jobs.specs.declared.keeper.Keeper.{Keeper}
use Rattle.fjall_jobs.specs.declared.keeper.Rule.{Rule}
use Rattle.fjall_jobs.specs.Sequences.{IsSequence}

-- the version before, of which the key and the number are known; none where there is no number
abbrev pub before_of : List ℕ → Option ℕ → Option Entry
before_of key None = None
before_of key (Some number) = Some (record { key = key; number = number; value = None })

-- what a rule keeps of versions in order, behind that one
abbrev pub kept_by : Rule → Option Entry → List Entry → List Entry
kept_by rule before versions = kept_of rule.spends rule.watermark rule.bound before versions

-- What was written, and what is kept of the versions that are still to come, are all of these in order.
pub record KeepsVersions (k : Keeper) (rest whole : List Entry) : Type 0 where
  pub closed : List (List Entry)
  pub sequence : IsSequence k.tables closed
  pub all : (flat closed ++ k.tables.writer) ++ kept_by k.rule (before_of k.last_key.items k.last_number) rest ≡ whole
  pub ordered : IsOrdered whole

-- The same, once a version was looked at that isn't yet the one before.
pub record HasLooked (k : Keeper) (v : Entry) (rest whole : List Entry) : Type 0 where
  pub closed : List (List Entry)
  pub sequence : IsSequence k.tables closed
  pub all : (flat closed ++ k.tables.writer) ++ kept_by k.rule (Some v) rest ≡ whole
  pub ordered : IsOrdered whole

-- Runs that a job can go through: each is in order, no key has two versions of one number in them, and each version is one that
-- a table can hold.
pub record AreSorted (runs : List (List Entry)) : Type 0 where
  pub ordered : All (IsInTurn false) runs
  pub once : OnceEach (flat runs)
  pub entries : AllByRecursion IsEntry (flat runs)
