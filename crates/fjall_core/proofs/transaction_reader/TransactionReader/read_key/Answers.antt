use Rattle.std.proofs.Common.{rules, ◌∙◌, ap, refl, sym}
use Rattle.fjall_tx.specs.Owns.{Own}
use Rattle.fjall_tx.specs.Marks.{OfKey}
use Rattle.fjall_core.specs.Transactions.{Tx}
use Rattle.fjall_core.specs.Laid.{laid}
use Rattle.fjall_core.proofs.Laying.{read_marked, seen_laid, sees_on}
use Rattle.fjall_core.proofs.transaction_reader.TransactionReader.read_key.Goals as goal

pub returns-in_err-found-clause-same : goal.returns-in_err-found-clause-same
returns-in_err-found-clause-same g c =
    let self = c.args.self.now in
    let own = self.transaction.now.own in
    sees_on g.D.Disk.honest self.reader.core.now c.get.new.self.core.now self.reader.view c.get.new.self.view own own c.get.ensures.same refl

pub returns-in_err-name-clause-same : goal.returns-in_err-name-clause-same
returns-in_err-name-clause-same g c =
    let self = c.args.self.now in
    let own = self.transaction.now.own in
    sees_on g.D.Disk.honest self.reader.core.now c.get.new.self.core.now self.reader.view c.get.new.self.view own own c.get.ensures.same refl

pub returns-in_err-seen-clause-same : goal.returns-in_err-seen-clause-same
returns-in_err-seen-clause-same g c =
    let self = c.args.self.now in
    let own = self.transaction.now.own in
    sees_on g.D.Disk.honest self.reader.core.now c.get.new.self.core.now self.reader.view c.get.new.self.view own own c.get.ensures.same refl

pub returns-in_err-mark_read-clause-same : goal.returns-in_err-mark_read-clause-same
returns-in_err-mark_read-clause-same g c =
    let self = c.args.self.now in
    sees_on g.D.Disk.honest self.reader.core.now c.get.new.self.core.now self.reader.view c.get.new.self.view self.transaction.now.own c.mark_read.new.self.own c.get.ensures.same
    (ap (λ (tx : Tx). tx.own) c.in_err-mark_read.ensures.unchanged)

pub returns-clause-ok : goal.returns-clause-ok
returns-clause-ok g c map (below, shown, is) =
    let a = c.args in
    seen_laid c.own.result.now a.id below map a.key.now c.in_ok-name.name c.in_ok-found.found c.in_ok-seen.seen c.in_ok-seen.ensures.ok c.in_ok-name.ensures.value (c.in_ok-found.ensures.ok below shown)
    (is ∙ ap (λ (own : Own). laid own a.id below) (sym c.own.ensures))

pub returns-clause-same : goal.returns-clause-same
returns-clause-same g c =
    let self = c.args.self.now in
    sees_on g.D.Disk.honest self.reader.core.now c.get.new.self.core.now self.reader.view c.get.new.self.view self.transaction.now.own c.mark_read.new.self.own c.get.ensures.same
    (ap (λ (tx : Tx). tx.own) c.in_ok-mark_read.ensures.ok)

pub returns-in_err-found-clause-shown : goal.returns-in_err-found-clause-shown
returns-in_err-found-clause-shown g c own =
    let self = c.args.self.now in
    sees_on g.D.Disk.honest self.reader.core.now c.get.new.self.core.now self.reader.view c.get.new.self.view own own c.get.ensures.same refl

pub returns-in_err-name-clause-shown : goal.returns-in_err-name-clause-shown
returns-in_err-name-clause-shown g c own =
    let self = c.args.self.now in
    sees_on g.D.Disk.honest self.reader.core.now c.get.new.self.core.now self.reader.view c.get.new.self.view own own c.get.ensures.same refl

pub returns-in_err-seen-clause-shown : goal.returns-in_err-seen-clause-shown
returns-in_err-seen-clause-shown g c own =
    let self = c.args.self.now in
    sees_on g.D.Disk.honest self.reader.core.now c.get.new.self.core.now self.reader.view c.get.new.self.view own own c.get.ensures.same refl

pub returns-in_err-mark_read-clause-shown : goal.returns-in_err-mark_read-clause-shown
returns-in_err-mark_read-clause-shown g c own =
    let self = c.args.self.now in
    sees_on g.D.Disk.honest self.reader.core.now c.get.new.self.core.now self.reader.view c.get.new.self.view own own c.get.ensures.same refl

pub returns-clause-shown : goal.returns-clause-shown
returns-clause-shown g c own =
    let self = c.args.self.now in
    sees_on g.D.Disk.honest self.reader.core.now c.get.new.self.core.now self.reader.view c.get.new.self.view own own c.get.ensures.same refl

pub returns-clause-reads : goal.returns-clause-reads
returns-clause-reads g c =
    let self = c.args.self.now in
    let grown = read_marked self.transaction.now c.mark_read.new.self (OfKey c.args.id c.args.key.now) c.in_ok-mark_read.ensures.ok in
    record { reads = search rules; grown = grown; lent = search rules }
