use Rattle.std.proofs.Common.{◌≡◌, Some, subst}
use Rattle.std.specs.FinMap.{get}
use Rattle.fjall_machine.specs.Shapes.{OfCreation}
use Rattle.fjall_core.specs.Holding.{Held}
use Rattle.fjall_core.specs.CoreStanding.{Serves, number_reply}
use Rattle.fjall_core.proofs.Standing.{served_goes_on}
use Rattle.fjall_index.proofs.OpeningStates.{creation_arrives, creation_keeps, if_refused, still_arrives, still_keeps}
use Rattle.fjall_index.proofs.indexed.keyspace_of.Goals as goal

pub returns-in_err-options-clause-arrives : goal.returns-in_err-options-clause-arrives
returns-in_err-options-clause-arrives g c = λ h. still_arrives c.args.core.now.engine c.args.core.now.transactions _ (λ s. if_refused c.from_residual.result (λ id. get s.names id ≡ Some c.args.name.now) c.from_residual.ensures.0)

pub returns-in_err-options-clause-keeps : goal.returns-in_err-options-clause-keeps
returns-in_err-options-clause-keeps g c = λ h. still_keeps c.args.core.now.engine c.args.core.now.transactions

pub returns-clause-arrives : goal.returns-clause-arrives
returns-clause-arrives g c = λ h.
    let old = c.args.core.now.engine in
    let new = c.keyspace.new.self in
    let kept = c.args.core.now.transactions in
    let serves : Serves old (OfCreation c.args.name.now c.in_ok-options.options) (number_reply c.keyspace.result) new =
    subst (λ (k : Held). Serves k (OfCreation c.args.name.now c.in_ok-options.options) (number_reply c.keyspace.result) new) c.deref_mut.ensures.value (c.keyspace.ensures.serves h) in
    creation_arrives old new kept kept c.args.name.now c.in_ok-options.options c.keyspace.result
    (λ t stands reads. served_goes_on old new kept t (OfCreation c.args.name.now c.in_ok-options.options) (number_reply c.keyspace.result) stands reads serves)

pub returns-clause-keeps : goal.returns-clause-keeps
returns-clause-keeps g c = λ h.
    let old = c.args.core.now.engine in
    let new = c.keyspace.new.self in
    let kept = c.args.core.now.transactions in
    let serves : Serves old (OfCreation c.args.name.now c.in_ok-options.options) (number_reply c.keyspace.result) new =
    subst (λ (k : Held). Serves k (OfCreation c.args.name.now c.in_ok-options.options) (number_reply c.keyspace.result) new) c.deref_mut.ensures.value (c.keyspace.ensures.serves h) in
    creation_keeps old new kept kept c.args.name.now c.in_ok-options.options (number_reply c.keyspace.result)
    (λ t stands reads. served_goes_on old new kept t (OfCreation c.args.name.now c.in_ok-options.options) (number_reply c.keyspace.result) stands reads serves)
