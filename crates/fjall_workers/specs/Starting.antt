-- Workers that are started one after another.
use Rattle.std.specs.Prelude.{◌≡◌, ℕ, ◌+◌, List, [], ◌∷◌, ◌++◌, length, Result, Ok}

-- calls at this index and those behind it start these workers, in order, and take the spawner from `f` to `last`
abbrev pub StartsFrom : {F H E : Type 0} → (F → ℕ → Result H E → F → Type 0) → ℕ → F → List H → F → Type 0
StartsFrom step index f [] last = f ≡ last
StartsFrom {F} step index f (worker ∷ more) last =
    (g : F) × step f index (Ok worker) g × StartsFrom step (index + 1) g more last

-- so many calls, from index 0 on, each start one worker, and these stand behind the old ones
pub record Starts {F H E : Type 0} (step : F → ℕ → Result H E → F → Type 0) (count : ℕ) (f : F) (old new : List H) (last : F) : Type 0 where
  pub workers : List H
  pub behind : new ≡ old ++ workers
  pub counted : length workers ≡ count
  pub calls : StartsFrom step 0 f workers last
