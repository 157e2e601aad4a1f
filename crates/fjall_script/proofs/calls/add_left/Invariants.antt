use Rattle.std.proofs.Common.{◌≡◌, ◌++◌, drop}
use Rattle.fjall_script.specs.Requests.{left_of}
use Rattle.fjall_script.proofs.calls.add_left.Given as goal

-- the calls so far, and those for the jobs to come
abbrev pub invariant-loop-other : goal.invariant-loop-other
invariant-loop-other l = l.calls.items ++ left_of l.job (drop l.other-index l.begun) ≡ l.fn.calls.items ++ left_of l.job l.begun
