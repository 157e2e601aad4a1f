use Rattle.std.proofs.Common.{rules, ◌∙◌, ap}
use Rattle.fjall_core.specs.Transactions.{Tx, having_read}
use Rattle.fjall_core.specs.Seeing.{whole_of}
use Rattle.fjall_core.proofs.Laying.{read_marked, sees_on}
use Rattle.fjall_core.proofs.transaction_reader.TransactionReader.read_count.Goals as goal

pub returns-in_err-mark_range-clause-same : goal.returns-in_err-mark_range-clause-same
returns-in_err-mark_range-clause-same g c i map seen =
    let mid = c.count_pairs.new.self in
    sees_on g.D.Disk.honest mid.reader.core.now mid.reader.core.now mid.reader.view mid.reader.view mid.transaction.now.own c.mark_range.new.self.own (λ i map shown. shown)
    (ap (λ (tx : Tx). tx.own) c.in_err-mark_range.ensures.unchanged) i map (c.in_ok-found.ensures.same i map seen)

pub returns-clause-same : goal.returns-clause-same
returns-clause-same g c i map seen =
    let mid = c.count_pairs.new.self in
    sees_on g.D.Disk.honest mid.reader.core.now mid.reader.core.now mid.reader.view mid.reader.view mid.transaction.now.own c.mark_range.new.self.own (λ i map shown. shown)
    (ap (λ (tx : Tx). tx.own) c.in_ok-mark_range.ensures.ok) i map (c.in_ok-found.ensures.same i map seen)

pub returns-clause-reads : goal.returns-clause-reads
returns-clause-reads g c =
    let self = c.args.self.now in
    let read = c.in_ok-found.ensures.reads in
    let grown = read_marked self.transaction.now c.mark_range.new.self (whole_of c.args.id)
    (c.in_ok-mark_range.ensures.ok ∙ ap (λ (tx : Tx). having_read tx (whole_of c.args.id)) c.in_ok-found.ensures.unmarked) in
    record { reads = read.reads; grown = grown; lent = search rules }
