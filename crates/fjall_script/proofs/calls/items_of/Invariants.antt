use Rattle.std.proofs.Common.{◌≡◌, ◌++◌, drop, map}
use Rattle.fjall_script.specs.Requests.{item_of}
use Rattle.fjall_script.proofs.calls.items_of.Given as goal

-- the items so far, and those of the writes to come
abbrev pub invariant-loop-id : goal.invariant-loop-id
invariant-loop-id l = l.items.items ++ map item_of (drop l.id-index l.writes) ≡ map item_of l.writes
