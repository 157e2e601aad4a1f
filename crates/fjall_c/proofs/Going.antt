-- Transactions that are open.
use Rattle.std.proofs.Common.{◌≡◌, ◌<◌, ℕ, Option, Some, MatchOption, ap, get_or, length, refl, subst, sym, ◌∙◌}
use Rattle.std.proofs.lemmas.Option.{slice_get-get_or}
use Rattle.std.specs.Prelude.{slice_get, slice_set}
use Rattle.fjall_base.specs.declared.error.Error.{Error}
use Rattle.fjall_base.specs.declared.error.Error.TheVariants.{SnapshotClosed}
use Rattle.fjall_core.specs.Holding.{Held}
use Rattle.fjall_core.specs.Transactions.{Tx}
use Rattle.fjall_c.specs.Live.{Live}
use Rattle.fjall_c.specs.Transactions.{OfOne, Within, place_of}

-- a call of the transaction that was found at a place
pub of_one : (id : ℕ) (Refuses : Error → Type 0) (Does : ℕ → Tx → Live → Live → Type 0) (old new : Live) (place : ℕ) (tx : Tx)
    → place_of id old.going ≡ Some place → place < length old.going → tx ≡ get_or old.going place tx → Does place tx old new → OfOne id Refuses Does old new
of_one id Refuses Does old new place tx found lt at does =
    subst (λ (o : Option ℕ). MatchOption o (Refuses SnapshotClosed × (new ≡ old)) (λ p. (t : Tx) × (slice_get old.going p ≡ Some t) × Does p t old new)) (sym found)
    (tx, slice_get-get_or old.going place tx lt ∙ ap (λ (t : Tx). Some t) (sym at), does)

-- a call within it, which leaves this engine and this of it
pub within_one : (id : ℕ) (Refuses : Error → Type 0) (Does : Held → Tx → Held → Tx → Type 0) (old : Live) (left : Held) (place : ℕ) (tx after : Tx)
    → place_of id old.going ≡ Some place → place < length old.going → tx ≡ get_or old.going place tx → Does old.engine tx left after
    → OfOne id Refuses (Within Does) old (record old { engine = left; going = slice_set old.going place after })
within_one id Refuses Does old left place tx after found lt at does =
    of_one id Refuses (Within Does) old (record old { engine = left; going = slice_set old.going place after }) place tx found lt at (after, does, refl)
