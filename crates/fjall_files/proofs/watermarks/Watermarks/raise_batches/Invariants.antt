use Rattle.std.proofs.Common.{◌++◌, List, map, take}
use Rattle.fjall_journal.specs.Batches.{Shown, view}
use Rattle.fjall_files.specs.Telling.{AreMarksOf, NoneFell}
use Rattle.fjall_files.proofs.watermarks.Watermarks.raise_batches.Given as goal

abbrev pub invariant-loop-batch : goal.invariant-loop-batch
invariant-loop-batch l = record {
  ok : (front : List Shown) → AreMarksOf front l.fn.self → AreMarksOf (front ++ map view (take l.batch-index l.batches)) l.self;
  never_falls : NoneFell l.fn.self l.self;
}
