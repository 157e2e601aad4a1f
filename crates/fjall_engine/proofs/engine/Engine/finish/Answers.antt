use Rattle.std.proofs.Common.{◌≡◌, ◌≤◌, IsTrue, arith, inl, rules, Err, Result, subst, sym}
use Rattle.fjall_base.specs.declared.error.Error.{Error}
use Rattle.fjall_engine.specs.CallParts.{Finishes}
use Rattle.fjall_engine.proofs.PutFlushes.{evicted_knows, evicted_later, eviction_poisons, finished_by}
use Rattle.fjall_engine.proofs.engine.Engine.finish.Goals as goal

pub returns-in_err-put_flush-clause-finishes : goal.returns-in_err-put_flush-clause-finishes
returns-in_err-put_flush-clause-finishes g c = λ of.
    let is : c.from_residual.result ≡ Err c.in_err-put_flush.field-0.0 = search rules in
    subst (λ (r : Result Unit Error). Finishes (IsTrue g.D.Disk.honest) c.args.self.now c.args.made.now r c.put_flush.new.self) (sym is) (inl (c.in_err-put_flush.ensures.puts of))

pub returns-clause-finishes : goal.returns-clause-finishes
returns-clause-finishes g c = λ of.
    finished_by (IsTrue g.D.Disk.honest) c.args.self.now c.put_flush.new.self c.evict.new.self c.args.made.now c.evict.result (c.in_ok-put_flush.ensures.puts of) c.evict.ensures.evicts

pub returns-clause-later : goal.returns-clause-later
returns-clause-later g c =
    let first = c.in_ok-put_flush.ensures.later in
    let second = evicted_later (IsTrue g.D.Disk.honest) c.put_flush.new.self c.evict.new.self c.evict.result c.evict.ensures.evicts in
    omega (arith, first, second)

pub returns-clause-poisons : goal.returns-clause-poisons
returns-clause-poisons g c = eviction_poisons (IsTrue g.D.Disk.honest) c.args.self.now c.put_flush.new.self c.evict.new.self c.evict.result c.evict.ensures.evicts

pub returns-clause-keeps : goal.returns-clause-keeps
returns-clause-keeps g c = λ task known.
    evicted_knows (IsTrue g.D.Disk.honest) c.put_flush.new.self c.evict.new.self c.evict.result c.evict.ensures.evicts task (c.in_ok-put_flush.ensures.keeps task known)
