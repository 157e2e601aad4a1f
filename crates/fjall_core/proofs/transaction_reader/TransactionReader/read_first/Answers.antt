use Rattle.std.proofs.Common.{rules, ◌≡◌, ◌∙◌, ap, refl, sym}
use Rattle.fjall_base.specs.Pairs.{Pairs}
use Rattle.fjall_tx.specs.Owns.{Own}
use Rattle.fjall_reading.specs.Readers.{all_of, first_of}
use Rattle.fjall_core.specs.Transactions.{Tx}
use Rattle.fjall_core.specs.Laid.{laid}
use Rattle.fjall_core.specs.ReadsGoing.{due_cause}
use Rattle.fjall_core.specs.Seeing.{whole_of}
use Rattle.fjall_core.proofs.Laying.{read_marked, sees_on}
use Rattle.fjall_core.proofs.transaction_reader.TransactionReader.read_first.Goals as goal

pub returns-in_err-found-clause-same : goal.returns-in_err-found-clause-same
returns-in_err-found-clause-same g c =
    let self = c.args.self.now in
    let own = self.transaction.now.own in
    sees_on g.D.Disk.honest self.reader.core.now c.laid_first.new.reader.core.now self.reader.view c.laid_first.new.reader.view own own c.laid_first.ensures.same refl

pub returns-in_err-mark_range-clause-same : goal.returns-in_err-mark_range-clause-same
returns-in_err-mark_range-clause-same g c =
    let self = c.args.self.now in
    sees_on g.D.Disk.honest self.reader.core.now c.laid_first.new.reader.core.now self.reader.view c.laid_first.new.reader.view self.transaction.now.own c.mark_range.new.self.own c.laid_first.ensures.same
    (ap (λ (tx : Tx). tx.own) c.in_err-mark_range.ensures.unchanged)

pub returns-clause-ok : goal.returns-clause-ok
returns-clause-ok g c map (below, shown, is) =
    let a = c.args in
    let seen : map ≡ laid c.own.result.now a.id below = is ∙ ap (λ (own : Own). laid own a.id below) (sym c.own.ensures) in
    c.in_ok-found.ensures.ok below shown ∙ ap (λ (m : Pairs). first_of (all_of m)) (sym seen)

pub returns-clause-same : goal.returns-clause-same
returns-clause-same g c =
    let self = c.args.self.now in
    sees_on g.D.Disk.honest self.reader.core.now c.laid_first.new.reader.core.now self.reader.view c.laid_first.new.reader.view self.transaction.now.own c.mark_range.new.self.own c.laid_first.ensures.same
    (ap (λ (tx : Tx). tx.own) c.in_ok-mark_range.ensures.ok)

pub returns-clause-reads : goal.returns-clause-reads
returns-clause-reads g c =
    let self = c.args.self.now in
    let grown = read_marked self.transaction.now c.mark_range.new.self (whole_of c.args.id) c.in_ok-mark_range.ensures.ok in
    record { reads = search rules; grown = grown; lent = search rules }

pub returns-in_err-mark_range-clause-cause : goal.returns-in_err-mark_range-clause-cause
returns-in_err-mark_range-clause-cause g c =
    let self = c.args.self.now in
    due_cause self.reader.core.now c.laid_first.new.reader.core.now self.reader.view c.args.id c.from_residual-in_err-mark_range.result c.in_ok-found.ensures.due (search rules)
