-- What a check of an index tells.
use Rattle.std.specs.Prelude.{◌≡◌, ℕ, Result, Err, OnOk}
use Rattle.fjall_machine.specs.Machine.{present}
use Rattle.fjall_core.specs.Holding.{Held}
use Rattle.fjall_core.specs.CoreStanding.{ReadsOn}
use Rattle.fjall_core.specs.Standing.{StandFor, CoreState}
use Rattle.fjall_core.specs.Transactions.{Kept}
use Rattle.fjall_index_entries.specs.Index.{FieldOf}
use Rattle.fjall_index_entries.specs.Keeping.{IsIndexed}
use Rattle.fjall_index_entries.specs.declared.error.IndexError.{IndexError}
use Rattle.fjall_index_entries.specs.declared.error.IndexError.TheVariants.{IndexStale}

-- done only where the index is kept at the present of whichever state the core stands for
abbrev pub TellsIndexed : {T E : Type 0} → FieldOf → ℕ → ℕ → Held → Kept → Result T E → Type 0
TellsIndexed field main index core kept result = (t : CoreState) → StandFor core kept t → ReadsOn core t.state → OnOk result (IsIndexed field main index (present t.state).maps)

-- and refused as stale only where it isn't
abbrev pub TellsStale : {T : Type 0} → FieldOf → ℕ → ℕ → Held → Kept → Result T IndexError → Type 0
TellsStale field main index core kept result = (t : CoreState) → StandFor core kept t → ReadsOn core t.state → result ≡ Err IndexStale → IsIndexed field main index (present t.state).maps → ⊥
