-- The refusals of an index: their numbers and names.
use Rattle.std.specs.Prelude.{ℕ, List, codes}
use Rattle.fjall_base.specs.Errors as engine
use Rattle.fjall_index_entries.specs.declared.error.IndexError.{IndexError}
use Rattle.fjall_index_entries.specs.declared.error.IndexError.TheVariants.{Engine, IndexStale, SameKeyspace}

-- the engine's numbers, and two behind them
abbrev pub number_of : IndexError → ℕ
number_of (Engine error) = engine.number_of error
number_of IndexStale = 23
number_of SameKeyspace = 24

-- the engine's names, and two more
abbrev pub name_of : IndexError → List ℕ
name_of (Engine error) = engine.name_of error
name_of IndexStale = codes "IndexStale"
name_of SameKeyspace = codes "SameKeyspace"
