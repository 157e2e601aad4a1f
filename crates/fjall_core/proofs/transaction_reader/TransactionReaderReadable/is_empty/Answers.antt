use Rattle.std.proofs.Common.{ℕ, subst, sym, arith}
use Rattle.std.proofs.lemmas.Grind.{common_steps}
use Rattle.fjall_reading.specs.Readers.{all_of}
use Rattle.fjall_core.specs.Seeing.{Sees}
use Rattle.fjall_core.proofs.Laying.{none_of_first}
use Rattle.fjall_core.proofs.transaction_reader.TransactionReaderReadable.is_empty.Goals as goal

pub returns-clause-ok : goal.returns-clause-ok
returns-clause-ok g c map seen =
    let self = c.args.self.now in
    let here = c.in_ok-read_first.ensures.ok map (subst (λ (id : ℕ). Sees g.D.Disk.honest self.reader.core.now self.reader.view self.transaction.now.own id map) (sym c.id.ensures) seen) in
    let none = none_of_first (all_of map) in
    grind (arith, common_steps, here, none)
