use Rattle.std.proofs.Common.{◌≡◌, ◌+◌, ◌≤◌, drop}
use Rattle.fjall_script.specs.Requests.{numbers_in}
use Rattle.fjall_script.proofs.calls.asked_in.Given as goal

-- those asked for so far, and those of the lines to come
abbrev pub invariant-loop-found : goal.invariant-loop-found
invariant-loop-found l = record { all : l.asked + numbers_in (drop l.found-index l.commands) ≡ l.fn.earlier + numbers_in l.commands; few : l.asked ≤ l.fn.earlier + l.found-index }
