use Rattle.std.proofs.Common.{◌≡◌, IfOk, Some}
use Rattle.std.specs.FinMap.{get}
use Rattle.fjall_index.specs.Opening.{AreNamed}
use Rattle.fjall_index.proofs.OpeningStates.{arrives_then, if_refused, keeps_then}
use Rattle.fjall_index.proofs.indexed.both_of.Goals as goal

pub returns-in_err-main-clause-arrives : goal.returns-in_err-main-clause-arrives
returns-in_err-main-clause-arrives g c = λ h t stands reads.
    let (next, arrives, none) = c.keyspace_of.ensures.arrives h t stands reads in
    (next, arrives, if_refused c.from_residual.result _ c.from_residual.ensures.0)

pub returns-in_err-index-clause-arrives : goal.returns-in_err-index-clause-arrives
returns-in_err-index-clause-arrives g c = λ h.
    arrives_then c.args.core.now.engine c.keyspace_of.new.core.engine c.keyspace_of-2.new.core.engine c.args.core.now.transactions c.keyspace_of.new.core.transactions c.keyspace_of-2.new.core.transactions
    (λ s. get s.names c.in_ok-main.main ≡ Some c.args.main.now) (λ s. IfOk c.keyspace_of-2.result (λ id. get s.names id ≡ Some c.args.index.now)) _
    (c.in_ok-main.ensures.arrives h) (c.keyspace_of-2.ensures.arrives h) (λ s u stays main none. if_refused _ (λ ids. AreNamed c.args.main.now c.args.index.now ids u) (c.from_residual-in_err-index.ensures.0))

pub returns-in_err-index-clause-keeps : goal.returns-in_err-index-clause-keeps
returns-in_err-index-clause-keeps g c = λ h.
    keeps_then c.args.core.now.engine c.keyspace_of.new.core.engine c.keyspace_of-2.new.core.engine c.args.core.now.transactions c.keyspace_of.new.core.transactions c.keyspace_of-2.new.core.transactions
    (c.keyspace_of.ensures.keeps h) (c.keyspace_of-2.ensures.keeps h)

pub returns-clause-arrives : goal.returns-clause-arrives
returns-clause-arrives g c = λ h.
    arrives_then c.args.core.now.engine c.keyspace_of.new.core.engine c.keyspace_of-2.new.core.engine c.args.core.now.transactions c.keyspace_of.new.core.transactions c.keyspace_of-2.new.core.transactions
    (λ s. get s.names c.in_ok-main.main ≡ Some c.args.main.now) (λ s. get s.names c.in_ok-index.index ≡ Some c.args.index.now) (AreNamed c.args.main.now c.args.index.now (c.in_ok-main.main, c.in_ok-index.index))
    (c.in_ok-main.ensures.arrives h) (c.in_ok-index.ensures.arrives h) (λ s u stays main index. record { main_is = stays c.in_ok-main.main c.args.main.now main; index_is = index })

pub returns-clause-keeps : goal.returns-clause-keeps
returns-clause-keeps g c = λ h.
    keeps_then c.args.core.now.engine c.keyspace_of.new.core.engine c.keyspace_of-2.new.core.engine c.args.core.now.transactions c.keyspace_of.new.core.transactions c.keyspace_of-2.new.core.transactions
    (c.keyspace_of.ensures.keeps h) (c.keyspace_of-2.ensures.keeps h)
