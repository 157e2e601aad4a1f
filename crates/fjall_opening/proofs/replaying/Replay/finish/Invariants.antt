use Rattle.std.proofs.Common.{◌≡◌, ◌-◌, [], Bool, ℕ, List, drop, length}
use Rattle.fjall_journal.specs.Batches.{Shown}
use Rattle.fjall_trees.specs.Forests.{Forest}
use Rattle.fjall_trees.specs.Views.{forest_of}
use Rattle.fjall_opening.specs.Replaying.{AreAt, made_of}
use Rattle.fjall_opening.proofs.replaying.Replay.finish.Given as goal

abbrev pub invariant-sealing : goal.invariant-sealing
invariant-sealing l = record {
  at : (loaded : Forest) (front : List Shown) → AreAt l.self loaded front l.fn.progress.place (forest_of l.fn.progress.trees) → AreAt l.self loaded front l.rest.place (forest_of l.rest.trees);
  made : (counted : ℕ → ℕ → Bool)
      → made_of counted (drop l.rest.place l.self.sealed.now) [] (forest_of l.rest.trees) ≡ made_of counted (drop l.fn.progress.place l.self.sealed.now) [] (forest_of l.fn.progress.trees);
}

abbrev pub decreases-sealing : goal.decreases-sealing
decreases-sealing l = length l.self.sealed.now - l.rest.place
