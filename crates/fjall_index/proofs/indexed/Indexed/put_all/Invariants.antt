use Rattle.std.proofs.Common.{IsTrue, Ok}
use Rattle.fjall_index.specs.Loading.{KeepsPairs}
use Rattle.fjall_index.proofs.indexed.Indexed.put_all.Given as goal

-- the pairs that have gone are kept
abbrev pub invariant-loop-key : goal.invariant-loop-key
invariant-loop-key g l = IsTrue g.D.Disk.honest
    → KeepsPairs (g.E.Extract.field_of l.self.extract) l.self.main l.self.index l.yielded l.fn.tx (Ok tt) l.tx l.fn.core.engine l.fn.core.transactions l.core.engine l.core.transactions
