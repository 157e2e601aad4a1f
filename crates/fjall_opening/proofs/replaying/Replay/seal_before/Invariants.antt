use Rattle.std.proofs.Common.{◌≡◌, ◌-◌, ◌∷◌, Bool, ℕ, List, drop, length}
use Rattle.fjall_journal.specs.Batches.{Shown}
use Rattle.fjall_trees.specs.Forests.{Forest}
use Rattle.fjall_trees.specs.Views.{forest_of}
use Rattle.fjall_opening.specs.Replaying.{AreAt, ArePast, MayGoOn, made_of}
use Rattle.fjall_opening.proofs.replaying.Replay.seal_before.Given as goal

abbrev pub invariant-sealing : goal.invariant-sealing
invariant-sealing l = record {
  at : (loaded : Forest) (front : List Shown) → AreAt l.self loaded front l.fn.progress.place (forest_of l.fn.progress.trees) → AreAt l.self loaded front l.progress.place (forest_of l.progress.trees);
  past : ArePast l.self l.fn.progress.place l.number → ArePast l.self l.progress.place l.number;
  least : l.progress.least ≡ l.fn.progress.least;
  ended : MayGoOn l.self l.fn.progress → MayGoOn l.self l.progress;
  made : (counted : ℕ → ℕ → Bool) (batch : Shown) (rest : List Shown) → batch.number ≡ l.number
      → made_of counted (drop l.progress.place l.self.sealed.now) (batch ∷ rest) (forest_of l.progress.trees)
      ≡ made_of counted (drop l.fn.progress.place l.self.sealed.now) (batch ∷ rest) (forest_of l.fn.progress.trees);
}

abbrev pub decreases-sealing : goal.decreases-sealing
decreases-sealing l = length l.self.sealed.now - l.progress.place
