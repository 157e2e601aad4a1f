use Rattle.std.proofs.Common.{◌≡◌, ℕ, IfOk, subst}
use Rattle.fjall_base.specs.Pairs.{Pairs, lookup}
use Rattle.fjall_core.specs.Seeing.{Sees}
use Rattle.fjall_core.proofs.transaction_reader.TransactionReaderReadable.get.Goals as goal

pub returns-clause-ok : goal.returns-clause-ok
returns-clause-ok g c =
    let self = c.args.self.now in
    subst (λ (id : ℕ). (map : Pairs) → Sees g.D.Disk.honest self.reader.core.now self.reader.view self.transaction.now.own id map → IfOk c.read_key.result (λ found. found ≡ lookup map c.args.key.now))
    c.id.ensures c.read_key.ensures.ok
