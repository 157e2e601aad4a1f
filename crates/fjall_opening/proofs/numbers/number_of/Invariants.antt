use Rattle.std.proofs.Common.{◌≡◌, ◌∷◌, All, map, max, take}
use Rattle.fjall_manifest.specs.Records.{view}
use Rattle.fjall_manifest.specs.Catalog.{fields}
use Rattle.fjall_recovery.specs.Folders.{past_records}
use Rattle.fjall_opening.specs.Opened.{HasNumbers, records_of}
use Rattle.fjall_opening.proofs.numbers.number_of.Given as goal

abbrev pub invariant-loop-home : goal.invariant-loop-home
invariant-loop-home l = All HasNumbers (records_of l.found)
    → l.number ≡ max l.found.journals.least (past_records (fields l.found.catalog.catalog ∷ map (λ h. view h.record) (take l.home-index l.home-items)))
