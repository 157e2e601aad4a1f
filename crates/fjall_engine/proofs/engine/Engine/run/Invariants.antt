use Rattle.std.proofs.Common.{◌≡◌, ◌≤◌, IsTrue, length, vec_len, vec_capacity}
use Rattle.fjall_machine.specs.Machine.{State}
use Rattle.fjall_engine.specs.Durables.{Durable}
use Rattle.fjall_engine.specs.Jobs.{KeepsJobs}
use Rattle.fjall_engine.specs.Standing.{ReadsOn, StandsFor, StandsOn, OwesAll}
use Rattle.fjall_engine.proofs.ResolvedRuns.{so_far}
use Rattle.fjall_engine.proofs.RunsOverCrashes.{RunsKnown, SoFar}
use Rattle.fjall_engine.proofs.engine.Engine.run.Given as goal

abbrev pub invariant-loop-call : goal.invariant-loop-call
invariant-loop-call g l = record {
  runs : IsTrue g.D.Disk.honest → RunsKnown l.jobs.items l.fn.self (so_far l.fn.calls.items (length l.yielded) l.replies.items) l.replies.items l.self;
  crash : IsTrue g.D.Disk.honest → (s : State) (d : Durable) → StandsFor l.fn.self s → ReadsOn l.fn.self s → StandsOn l.fn.self s.parts.entries d
      → SoFar l.jobs.items l.self s d (so_far l.fn.calls.items (length l.yielded) l.replies.items) l.replies.items;
  owes : OwesAll l.fn.self (so_far l.fn.calls.items (length l.yielded) l.replies.items) l.replies.items l.self;
  keeps : KeepsJobs l.self.memory l.jobs.items l.replies.items;
  count : vec_len l.replies ≡ length l.yielded;
  jobs_count : vec_len l.jobs ≤ length l.yielded;
  room : length l.fn.calls.items ≤ vec_capacity l.replies;
  jobs_room : length l.fn.calls.items ≤ vec_capacity l.jobs;
}
