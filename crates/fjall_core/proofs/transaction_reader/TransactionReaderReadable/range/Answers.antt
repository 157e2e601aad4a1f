use Rattle.std.proofs.Common.{◌≡◌, ◌∙◌, ℕ, IfOk, Result, ap, subst, sym}
use Rattle.fjall_base.specs.Pairs.{KeyRange, key_range, pairs_between}
use Rattle.fjall_base.specs.declared.error.Error.{Error}
use Rattle.fjall_tx.specs.Marks.{OfRange}
use Rattle.fjall_core.specs.Seeing.{Sees}
use Rattle.fjall_core.proofs.Laying.{read_marked, read_nothing, only_marked, still_seen}
use Rattle.fjall_core.proofs.transaction_reader.TransactionReaderReadable.range.Goals as goal

pub returns-in-Ok-clause-left : goal.returns-in-Ok-clause-left
returns-in-Ok-clause-left g c whole map seen =
    let self = c.args.self.now in
    let mid = c.mark_between.new.self in
    let grown = read_marked self.transaction.now mid.transaction.now (OfRange c.id-id.result c.in-Ok.range.0 c.in-Ok.range.1) c.in-Ok.ensures.marked in
    let there : Sees g.D.Disk.honest mid.reader.core.now mid.reader.view mid.transaction.now.own c.id-id.result map = rw c.mark_between.ensures.reader
    (still_seen g.D.Disk.honest self.reader.core.now self.reader.view self.transaction.now mid.transaction.now grown c.id-id.result map (subst (λ (id : ℕ). Sees g.D.Disk.honest self.reader.core.now self.reader.view self.transaction.now.own id map) (sym c.id-id.ensures) seen)) in
    let is = subst (λ (r : Result KeyRange Error). IfOk r (λ x. x ≡ key_range c.args.range)) c.in-Ok.ensures.ok c.range_of-range.ensures.ok in
    let left = c.new.ensures.left map there in
    (left.0, left.1 ∙ ap (λ (range : KeyRange). pairs_between range map) is)

pub returns-in-Ok-clause-same : goal.returns-in-Ok-clause-same
returns-in-Ok-clause-same g c i map seen =
    let self = c.args.self.now in
    let mid = c.mark_between.new.self in
    let grown = read_marked self.transaction.now mid.transaction.now (OfRange c.id-id.result c.in-Ok.range.0 c.in-Ok.range.1) c.in-Ok.ensures.marked in
    rw (c.new.ensures.reader, c.mark_between.ensures.reader) (still_seen g.D.Disk.honest self.reader.core.now self.reader.view self.transaction.now mid.transaction.now grown i map seen)

pub returns-in-Ok-clause-reads : goal.returns-in-Ok-clause-reads
returns-in-Ok-clause-reads g c =
    let self = c.args.self.now in
    let mid = c.mark_between.new.self in
    let grown = read_marked self.transaction.now mid.transaction.now (OfRange c.id-id.result c.in-Ok.range.0 c.in-Ok.range.1) c.in-Ok.ensures.marked in
    rw (c.new.ensures.reader, c.mark_between.ensures.reader) (only_marked g.D.Disk.honest self.reader.core self.reader.view self.transaction mid.transaction _ grown c.mark_between.ensures.same_transaction)

pub returns-in-Err-clause-same : goal.returns-in-Err-clause-same
returns-in-Err-clause-same g c i map seen =
    let self = c.args.self.now in
    let mid = c.mark_between.new.self in
    let grown = read_nothing self.transaction.now mid.transaction.now c.in-Err.ensures.unmarked in
    rw (c.out_of_memory.ensures.reader, c.mark_between.ensures.reader) (still_seen g.D.Disk.honest self.reader.core.now self.reader.view self.transaction.now mid.transaction.now grown i map seen)

pub returns-in-Err-clause-reads : goal.returns-in-Err-clause-reads
returns-in-Err-clause-reads g c =
    let self = c.args.self.now in
    let mid = c.mark_between.new.self in
    let grown = read_nothing self.transaction.now mid.transaction.now c.in-Err.ensures.unmarked in
    rw (c.out_of_memory.ensures.reader, c.mark_between.ensures.reader) (only_marked g.D.Disk.honest self.reader.core self.reader.view self.transaction mid.transaction _ grown c.mark_between.ensures.same_transaction)
