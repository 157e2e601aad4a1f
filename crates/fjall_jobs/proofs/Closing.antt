-- A table is closed.
use Rattle.std.proofs.Common.{◌≡◌, ℕ, List, [], ◌∷◌, ◌++◌, Option, Some, Vec, Global, subst, sym, length}
use Rattle.std.specs.Option.{MatchOption}
use Rattle.fjall_table.specs.Blocks.{Entry}
use Rattle.fjall_table.specs.Tables.{IsTable}
use Rattle.fjall_jobs.specs.declared.made_table.MadeTable.{MadeTable}
use Rattle.fjall_jobs.specs.Sequences.{AreMadeTables}
use Rattle.fjall_jobs.proofs.Parting.{made_more}

-- what the writer of a table with these entries finishes with
abbrev pub closes : Option (Vec ℕ Global) → List Entry → Type 0
closes found entries = MatchOption found (entries ≡ []) (λ bytes. IsTable bytes.items entries)

-- the tables with one more
pub one_closed : (tables : List MadeTable) (closed : List (List Entry)) (entries : List Entry) (found : Option (Vec ℕ Global)) (bytes : Vec ℕ Global) (count : ℕ)
    → AreMadeTables tables closed → closes found entries → found ≡ Some bytes → (new : List MadeTable)
    → new ≡ tables ++ (record { bytes = bytes; entry_count = count }) ∷ [] → count ≡ length entries → AreMadeTables new (closed ++ entries ∷ [])
one_closed tables closed entries found bytes count are table is new new_is counted =
    subst (λ (l : List MadeTable). AreMadeTables l (closed ++ entries ∷ [])) (sym new_is)
    (made_more tables closed (record { bytes = bytes; entry_count = count }) entries are
    (record { table = subst (λ (o : Option (Vec ℕ Global)). closes o entries) is table; count = counted }))
