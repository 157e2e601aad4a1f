-- Versions that a tree takes one by one, from the last to the first.
use Rattle.std.proofs.Common.{◌≡◌, ◌<◌, ◌≤◌, ◌^◌, Bool, true, false, cond, List, [], ◌∷◌, refl, ◌∙◌}
use Rattle.fjall_table.specs.Blocks.{Entry, IsEntry}
use Rattle.fjall_tree.specs.Puts.{has_stamp, put, put_all}
use Rattle.fjall_tree.specs.Trees.{Shape, written}

-- the version is one that the active memtable may have
pub record MayPut (v : Entry) (shape : Shape) : Type 0 where
  pub is : IsEntry v
  pub from : shape.memory.active.from ≤ v.number
  pub small : v.number < 2 ^ 63

pub put_from : (v : Entry) (shape : Shape) → (put v shape).memory.active.from ≡ shape.memory.active.from
unfolding put
put_from v shape = by (has_stamp v shape)
  where
    by : (b : Bool) → (cond b shape (written v shape)).memory.active.from ≡ shape.memory.active.from
    by true = refl
    by false = refl

pub put_all_from : (vs : List Entry) (shape : Shape) → (put_all vs shape).memory.active.from ≡ shape.memory.active.from
put_all_from [] shape = refl
put_all_from (v ∷ vs) shape = put_from v (put_all vs shape) ∙ put_all_from vs shape
