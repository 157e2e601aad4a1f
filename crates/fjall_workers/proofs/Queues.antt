-- Queues in which each waits once.
use Rattle.std.proofs.Common.{suc, List, [], ◌∷◌, drop, ℕ, arith}
use Rattle.fjall_workers.specs.FlushQueues.{EachWaitsOnce}

pub without_first : (ids : List ℕ) → EachWaitsOnce ids → EachWaitsOnce (drop 1 ids)
without_first [] once = once
without_first (id ∷ ids) once = λ i j d below within same. once (suc i) (suc j) d (omega arith) (omega arith) same
