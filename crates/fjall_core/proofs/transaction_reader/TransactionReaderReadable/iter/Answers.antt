use Rattle.std.proofs.Common.{ℕ, subst, sym}
use Rattle.fjall_core.specs.Seeing.{Sees, whole_of}
use Rattle.fjall_core.proofs.Laying.{read_either, only_marked, still_seen}
use Rattle.fjall_core.proofs.transaction_reader.TransactionReaderReadable.iter.Goals as goal

pub returns-clause-left : goal.returns-clause-left
returns-clause-left g c map seen =
    let self = c.args.self.now in
    let mid = c.mark_whole.new.self in
    let grown = read_either self.transaction.now mid.transaction.now (whole_of c.id-id.result) mid.short c.mark_whole.ensures.marked in
    let there : Sees g.D.Disk.honest mid.reader.core.now mid.reader.view mid.transaction.now.own c.id-id.result map = rw c.mark_whole.ensures.reader
    (still_seen g.D.Disk.honest self.reader.core.now self.reader.view self.transaction.now mid.transaction.now grown c.id-id.result map (subst (λ (id : ℕ). Sees g.D.Disk.honest self.reader.core.now self.reader.view self.transaction.now.own id map) (sym c.id-id.ensures) seen)) in
    c.new.ensures.left map there

pub returns-clause-same : goal.returns-clause-same
returns-clause-same g c i map seen =
    let self = c.args.self.now in
    let mid = c.mark_whole.new.self in
    let grown = read_either self.transaction.now mid.transaction.now (whole_of c.id-id.result) mid.short c.mark_whole.ensures.marked in
    rw (c.new.ensures.reader, c.mark_whole.ensures.reader) (still_seen g.D.Disk.honest self.reader.core.now self.reader.view self.transaction.now mid.transaction.now grown i map seen)

pub returns-clause-reads : goal.returns-clause-reads
returns-clause-reads g c =
    let self = c.args.self.now in
    let mid = c.mark_whole.new.self in
    let grown = read_either self.transaction.now mid.transaction.now (whole_of c.id-id.result) mid.short c.mark_whole.ensures.marked in
    rw (c.new.ensures.reader, c.mark_whole.ensures.reader) (only_marked g.D.Disk.honest self.reader.core self.reader.view self.transaction mid.transaction _ grown c.mark_whole.ensures.same_transaction)
