use Rattle.std.proofs.Common.{◌≡◌, map, take, string_bytes}
use Rattle.fjall_repair.specs.Steps.{folder_names}
use Rattle.fjall_repair.proofs.mending.plan.folders_of.Given as goal

abbrev pub invariant-loop-home : goal.invariant-loop-home
invariant-loop-home l = map string_bytes l.folders.items ≡ folder_names (map (λ h. h.id) (take l.home-index l.homes))
