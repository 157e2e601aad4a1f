use Rattle.std.proofs.Common.{◌≡◌, ◌≤◌, length, take, vec_len, vec_capacity}
use Rattle.fjall_core.specs.Jobs.{KeepsJobs}
use Rattle.fjall_calls.proofs.SoFar.{RunSoFar}
use Rattle.fjall_calls.proofs.serving.run.Given as goal

abbrev pub invariant-loop-call : goal.invariant-loop-call
invariant-loop-call g l = record {
  runs : RunSoFar g.D.Disk.honest l.jobs.items l.fn.core.engine l.fn.core.transactions (take (length l.yielded) l.fn.calls.items) l.replies.items l.core.engine l.core.transactions l.listed.items;
  keeps : KeepsJobs l.core.engine.memory l.jobs.items l.replies.items;
  count : vec_len l.replies ≡ length l.yielded;
  listed_count : vec_len l.listed ≤ length l.yielded;
  jobs_count : vec_len l.jobs ≤ length l.yielded;
  room : length l.fn.calls.items ≤ vec_capacity l.replies;
  listed_room : length l.fn.calls.items ≤ vec_capacity l.listed;
  jobs_room : length l.fn.calls.items ≤ vec_capacity l.jobs;
}
