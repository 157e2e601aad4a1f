use Rattle.std.proofs.Common.{◌∙◌, sym}
use Rattle.std.specs.declared.cmp.Ordering.TheVariants.{Less, Equal, Greater}
use Rattle.fjall_base.specs.Pairs.{byte_order}
use Rattle.fjall_memtable.specs.Stamps.{key_from, front_bytes}
use Rattle.fjall_memtable.specs.Tails.{rest_of, front_len_of}
use Rattle.fjall_memtable.proofs.Fronts.{keys_order_by}
use Rattle.fjall_memtable.proofs.version_key.VersionKey.compare_keys.Goals as goal

pub returns-in-Less : goal.returns-in-Less
returns-in-Less c =
    let a = c.self.inside in
    let b = c.other.inside in
    keys_order_by Less (key_from (front_bytes a.first a.second) (rest_of a.tail) (front_len_of a.tail)) (front_bytes a.first a.second) (rest_of a.tail) (front_len_of a.tail) c.self.invariant (key_from (front_bytes b.first b.second) (rest_of b.tail) (front_len_of b.tail)) (front_bytes b.first b.second) (rest_of b.tail) (front_len_of b.tail) c.other.invariant (sym c.compare_fronts.ensures ∙ c.in-Less.is)
    ∙ (λ i. byte_order (c.self.view_is i).key (c.other.view_is i).key)

pub returns-in-Greater : goal.returns-in-Greater
returns-in-Greater c =
    let a = c.self.inside in
    let b = c.other.inside in
    keys_order_by Greater (key_from (front_bytes a.first a.second) (rest_of a.tail) (front_len_of a.tail)) (front_bytes a.first a.second) (rest_of a.tail) (front_len_of a.tail) c.self.invariant (key_from (front_bytes b.first b.second) (rest_of b.tail) (front_len_of b.tail)) (front_bytes b.first b.second) (rest_of b.tail) (front_len_of b.tail) c.other.invariant (sym c.compare_fronts.ensures ∙ c.in-Greater.is)
    ∙ (λ i. byte_order (c.self.view_is i).key (c.other.view_is i).key)

pub returns-in-Equal : goal.returns-in-Equal
returns-in-Equal c =
    let a = c.self.inside in
    let b = c.other.inside in
    rw (c.compare.ensures)
    (keys_order_by Equal (key_from (front_bytes a.first a.second) (rest_of a.tail) (front_len_of a.tail)) (front_bytes a.first a.second) (rest_of a.tail) (front_len_of a.tail) c.self.invariant (key_from (front_bytes b.first b.second) (rest_of b.tail) (front_len_of b.tail)) (front_bytes b.first b.second) (rest_of b.tail) (front_len_of b.tail) c.other.invariant (sym c.compare_fronts.ensures ∙ c.in-Equal.is)
    ∙ (λ i. byte_order (c.self.view_is i).key (c.other.view_is i).key))
