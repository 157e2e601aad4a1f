use Rattle.std.proofs.Common.{◌≡◌, All, map, take, drop}
use Rattle.fjall_meta.specs.Reading.{first_fault, pairs_of, IsStored}
use Rattle.fjall_meta.proofs.reading.keyspaces_of.Given as goal

abbrev pub invariant-loop-id : goal.invariant-loop-id
invariant-loop-id l = record {
  ids : map (λ k. k.id) l.living.items ≡ take l.id-index l.ids;
  stored : All (IsStored l.entries) l.living.items;
  fault : first_fault l.ids (pairs_of l.entries) ≡ first_fault (drop l.id-index l.ids) (pairs_of l.entries);
}
