-- So far each call has started one worker.
use Rattle.std.proofs.Common.{◌≡◌, ◌+◌}
use Rattle.std.specs.Vec.{vec_capacity, vec_len}
use Rattle.fjall_workers.specs.Starting.{Starts}
use Rattle.fjall_workers.proofs.pool.claim_and_spawn.Given as goal

abbrev pub invariant-loop-index : goal.invariant-loop-index
invariant-loop-index g l = record {
  callable : goal.F-IsAlwaysCallable g l.spawn;
  len : vec_len l.started ≡ vec_len l.initial.started + l.index;
  room : vec_capacity l.started ≡ vec_capacity l.initial.started;
  starts : Starts (goal.F-step g) l.index l.initial.spawn l.initial.started.items l.started.items l.spawn;
}
