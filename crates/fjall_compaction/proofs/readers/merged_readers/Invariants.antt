use Rattle.std.proofs.Common.{ℕ, ◌+◌, ◌≤◌, length, take, vec_capacity, vec_len}
use Rattle.fjall_compaction.specs.MergePlans.{AreNamed}
use Rattle.fjall_compaction.proofs.MergeReading.{AreEach}
use Rattle.fjall_compaction.proofs.readers.merged_readers.Given as goal

abbrev pub invariant-loop-at : goal.invariant-loop-at
invariant-loop-at l = record {
  each : (id : ℕ) → AreNamed id l.fn.next l.fn.tables l.fn.files → AreEach id l.fn.next (take l.at l.fn.tables) l.readers.items;
  few : vec_len l.readers ≤ l.at;
  place : l.at ≤ length l.fn.tables;
  room : length l.fn.tables + l.fn.more ≤ vec_capacity l.readers;
}
