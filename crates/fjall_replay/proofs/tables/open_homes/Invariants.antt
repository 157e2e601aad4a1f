use Rattle.std.proofs.Common.{◌≡◌, length, map, take}
use Rattle.fjall_trees.specs.Views.{forest_of}
use Rattle.fjall_replay.specs.Opening.{MayOpenAll, opened, told_by}
use Rattle.fjall_replay.proofs.Opening.{AreRecordsOf}
use Rattle.fjall_replay.proofs.tables.open_homes.Given as goal

abbrev pub invariant-loop-home : goal.invariant-loop-home
invariant-loop-home l = record {
  place : l.place ≡ length l.yielded;
  trees : forest_of l.trees ≡ map opened (take (length l.yielded) l.fn.homes.items);
  persisted : l.persisted ≡ map told_by (take (length l.yielded) l.fn.homes.items);
  records : AreRecordsOf (take (length l.yielded) l.fn.homes.items) l.records;
  may : MayOpenAll (map (λ k. k.id) (take (length l.yielded) l.keyspaces.living)) (take (length l.yielded) l.fn.homes.items);
}
