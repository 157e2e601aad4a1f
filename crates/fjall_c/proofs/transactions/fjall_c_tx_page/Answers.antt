use Rattle.std.proofs.Common.{rules, ◌≡◌, Result, Vec, Global, subst}
use Rattle.fjall_base.specs.Pairs.{Bytes, KeyRange}
use Rattle.fjall_base.specs.declared.error.Error.{Error}
use Rattle.fjall_c.specs.Answers.{PutsPage, range_at}
use Rattle.fjall_c.specs.Live.{live_of}
use Rattle.fjall_c.specs.Transactions.{Pages, WithinOne}
use Rattle.fjall_c.specs.declared.session.Session.{Session}
use Rattle.fjall_c.proofs.Telling.{of_range}
use Rattle.fjall_c.proofs.transactions.fjall_c_tx_page.Goals as goal

pub returns-in-Ok-clause-answers : goal.returns-in-Ok-clause-answers
returns-in-Ok-clause-answers c =
    let a = c.args in
    let read = c.page_in-read in
    let put = c.put_page in
    let within = subst (λ (s : Session). WithinOne a.transaction (Pages a.keyspace c.in-Ok.range a.back a.max read.result) read.result (live_of s) (live_of read.new.self)) c.session_mut.ensures.value read.ensures.answers in
    of_range (range_at a.start_bound a.start.now a.end_bound a.end.now) _
    ((live_of read.new.self ≡ live_of a.database.now.session) × (put.new.page ≡ a.page.now) × (put.new.room ≡ a.room.now))
    (λ (range : KeyRange) (pairs : Result (Vec (Bytes × Bytes) Global) Error).
    WithinOne a.transaction (Pages a.keyspace range a.back a.max pairs) pairs (live_of a.database.now.session) (live_of read.new.self) × PutsPage a.page.now put.new.page a.room.now put.new.room pairs)
    c.range_of.result c.in-Ok.range read.result c.range_of.ensures c.in-Ok.is (search rules) (within, put.ensures.puts)
