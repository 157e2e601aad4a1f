use Rattle.std.proofs.Common.{◌≡◌, ℕ, List, map, take}
use Rattle.std.specs.BTreeSet.{contains}
use Rattle.std.specs.Ordering.{eq_by_cmp}
use Rattle.std.specs.Set.{is_member}
use Rattle.fjall_base.specs.Pairs.{byte_order}
use Rattle.fjall_meta.proofs.meta_keyspace.names_differ.Given as goal

abbrev pub invariant-loop-keyspace : goal.invariant-loop-keyspace
invariant-loop-keyspace l = (q : List ℕ) → contains byte_order l.names q ≡ is_member (eq_by_cmp byte_order) (map (λ k. k.name) (take l.keyspace-index l.living)) q
