-- What is asked of a keyspace's map, and the reply that the map gives.
use Rattle.std.specs.Prelude.{◌≡◌, ℕ, Bool, Vec}
use Rattle.std.specs.declared.alloc.Global.{Global}
use Rattle.fjall_base.specs.Pairs.{Bytes, KeyRange, Pairs, lookup, page, pairs_between}
use Rattle.fjall_history.specs.declared.reply.Reply.{Reply}
use Rattle.fjall_history.specs.declared.reply.Reply.TheVariants as replies

-- the value of a key, or a page of the pairs of a range: the first or, from behind, the last of them, at most so many
pub data Query : Type 0 where
  Get : (key : Bytes) → Query
  Page : (range : KeyRange) (back : Bool) (max : ℕ) → Query

-- the reply that a map gives
abbrev pub Tells : Query → Pairs → Reply → Type 0
Tells (Get key) pairs reply = reply ≡ replies.Value (lookup pairs key)
Tells (Page range back max) pairs reply = (found : Vec (Bytes × Bytes) Global) × (reply ≡ replies.Pairs found) × (found.items ≡ page back max (pairs_between range pairs))
