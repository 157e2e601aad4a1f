-- What lies in a place, and what its ends know.
use Rattle.std.specs.Prelude.{ℕ, ◌≡◌, ◌⊎◌, List, [], ◌∷◌, Option, None, Some}
use mathlib.Core.Option.{some}
use lib.ListN.{get_elem?}
use Rattle.fjall_shared.specs.Labels.{Label}

module _ {M : Type 0} (made_of : M → Label) where
  -- all of these were made of the job
  abbrev pub AreOf : Label → List M → Type 0
  AreOf label [] = Unit {0}
  AreOf label (made ∷ rest) = (made_of made ≡ label) × AreOf label rest

  -- the job is chosen, each end knows it, and what lies there was made of it
  pub record Chosen (items : List M) (views : List (Option Label)) : Type 0 where
    pub job : Label
    pub items_are : AreOf job items
    pub each : (by : ℕ) (v : Option Label) → get_elem? views by ≡ some v → v ≡ Some job

  abbrev pub fresh : List (Option Label)
  fresh = None ∷ []

  -- no job is chosen, and nothing lies there
  pub record Fresh (items : List M) (views : List (Option Label)) : Type 0 where
    pub items_are : items ≡ []
    pub views_are : views ≡ fresh

  abbrev pub Kept : List M → List (Option Label) → Type 0
  Kept items views = Fresh items views ⊎ Chosen items views
