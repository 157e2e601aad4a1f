use Rattle.std.proofs.Common.{◌≡◌, ◌∷◌, map, take}
use Rattle.fjall_repair.specs.Steps.{end_of, home_end}
use Rattle.fjall_repair.proofs.mending.plan.ends_of.Given as goal

abbrev pub invariant-loop-home : goal.invariant-loop-home
invariant-loop-home l = map end_of l.ends.items ≡ end_of l.fn.journal ∷ end_of l.fn.tree ∷ map home_end (take l.home-index l.homes)
