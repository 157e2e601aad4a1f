use Rattle.std.proofs.Common.{rules, List, ap}
use Rattle.fjall_tx.specs.declared.oracle.Committed.{Committed}
use Rattle.fjall_core.proofs.Asking.{taken_back}
use Rattle.fjall_core.proofs.cores.Core.write_marked.Goals as goal

pub returns-then-is_err-clause-err : goal.returns-then-is_err-clause-err
returns-then-is_err-clause-err g c = λ are.
    let core = c.args.self.now in
    let back = taken_back core.transactions.commits c.push.new.self c.take_back.new.self core.engine.memory.next c.seqno.result _ c.seqno.ensures.held are c.in_default.ensures.appended c.take_back.ensures.taken in
    let same = ap (λ (l : List Committed). record core.transactions { commits = l }) back in
    search (rules, same)
