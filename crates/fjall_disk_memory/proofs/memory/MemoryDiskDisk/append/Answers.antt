use Rattle.std.proofs.Common.{inl, inr, ◌≡◌, false, rules}
use Rattle.std.specs.Result.{is_ok}
use Rattle.fjall_base.proofs.Results.{ok_at, ok_or_err}
use Rattle.fjall_disk_memory.proofs.Sent.{err_at, sent_none, sent_part}
use Rattle.fjall_disk_memory.proofs.memory.MemoryDiskDisk.append.Goals as goal

pub returns-then-strikes-clause-err : goal.returns-then-strikes-clause-err
returns-then-strikes-clause-err c =
    ok_or_err c.append.result _ _ _ (λ took. inr (c.min-part.result, record { state = took.state; steps = took.steps })) (λ took. inl (record { state = took.state; steps = took.steps }))
    c.append.ensures.ok c.append.ensures.err

pub returns-then-is_err-clause-sent : goal.returns-then-is_err-clause-sent
returns-then-is_err-clause-sent c =
    let failed : is_ok c.append.result ≡ false = search rules in
    let took = err_at c.append.result _ failed c.append.ensures.err in
    sent_none _ _ _ _ _ _ _ c.out_of_memory.ensures.io (record { state = took.state; steps = took.steps })

pub returns-then-strikes-clause-sent : goal.returns-then-strikes-clause-sent
returns-then-strikes-clause-sent c =
    let took = ok_at c.append.result _ c.if-is_err.ensures.negation c.append.ensures.ok in
    sent_part _ _ _ _ _ _ _ c.min-part.result c.fault.ensures.io (search rules) (search rules) (record { state = took.state; steps = took.steps })

pub returns-then-is_err-2-clause-sent : goal.returns-then-is_err-2-clause-sent
returns-then-is_err-2-clause-sent c =
    let failed : is_ok c.append-2.result ≡ false = search rules in
    let took = err_at c.append-2.result _ failed c.append-2.ensures.err in
    sent_none _ _ _ _ _ _ _ c.out_of_memory-then-is_err-2.ensures.io (record { state = took.state; steps = took.steps })
