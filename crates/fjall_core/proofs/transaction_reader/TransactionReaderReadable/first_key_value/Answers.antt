use Rattle.std.proofs.Common.{◌≡◌, ℕ, IfErr, IfOk, Result, Ok, Err, Option, Some, None, subst, sym}
use Rattle.fjall_base.specs.Pairs.{Bytes}
use Rattle.fjall_base.specs.declared.error.Error.{Error}
use Rattle.fjall_reading.specs.Readers.{FindsOf, all_of, first_of}
use Rattle.fjall_reading.specs.Rests.{error_in}
use Rattle.fjall_core.specs.Seeing.{Sees}
use Rattle.fjall_core.proofs.transaction_reader.TransactionReaderReadable.first_key_value.Goals as goal

-- a result that finds this, and the guard of it
found_so : (found : Result (Option (Bytes × Bytes)) Error) (wanted : Option (Bytes × Bytes)) (result : Option (Result (Bytes × Bytes) Error))
    → IfOk found (λ pair. FindsOf pair result × (error_in result ≡ None)) → IfErr found (λ error. result ≡ Some (Err error)) → IfOk found (λ pair. pair ≡ wanted) → FindsOf wanted result
found_so (Ok pair) wanted result told fault is = subst (λ (p : Option (Bytes × Bytes)). FindsOf p result) is told.0
found_so (Err error) wanted result told fault is = subst (λ (r : Option (Result (Bytes × Bytes) Error)). FindsOf wanted r) (sym fault) tt

pub returns-clause-found : goal.returns-clause-found
returns-clause-found g c map seen =
    let self = c.args.self.now in
    let here = c.read_first.ensures.ok map (subst (λ (id : ℕ). Sees g.D.Disk.honest self.reader.core.now self.reader.view self.transaction.now.own id map) (sym c.id.ensures) seen) in
    found_so c.read_first.result (first_of (all_of map)) c.guarded.result c.guarded.ensures.found c.guarded.ensures.fault here
