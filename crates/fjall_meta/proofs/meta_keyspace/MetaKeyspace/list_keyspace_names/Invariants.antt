use Rattle.std.proofs.Common.{◌≡◌, map, take}
use Rattle.fjall_meta.proofs.meta_keyspace.MetaKeyspace.list_keyspace_names.Given as goal

abbrev pub invariant-loop-keyspace : goal.invariant-loop-keyspace
invariant-loop-keyspace l = l.names.items ≡ map (λ k. k.name) (take l.keyspace-index l.keyspace-items)
