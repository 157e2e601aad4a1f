use Rattle.std.proofs.Common.{IfOk, IsPermutation, List, ap, subst}
use Rattle.std.specs.FinMap.{values}
use Rattle.fjall_base.specs.Pairs.{Bytes}
use Rattle.fjall_engine.specs.Holding.{Held}
use Rattle.fjall_engine.specs.Standing.{store_in}
use Rattle.fjall_engine.proofs.CallsInMemory.{names_owes, names_serves}
use Rattle.fjall_engine.proofs.engine.Engine.list_keyspace_names.Goals as goal

pub returns-clause-serves : goal.returns-clause-serves
returns-clause-serves g c = λ _.
    let listed = ap (λ (core : Held). values (store_in core).names) c.self.view_is in
    let named = subst (λ (l : List Bytes). IfOk c.list_keyspace_names.result (λ names. IsPermutation l names.items)) listed c.list_keyspace_names.ensures.named in
    names_serves c.args.self.now c.list_keyspace_names.result named c.list_keyspace_names.ensures.sorted c.list_keyspace_names.ensures.only

pub returns-clause-owes : goal.returns-clause-owes
returns-clause-owes g c =
    let listed = ap (λ (core : Held). values (store_in core).names) c.self.view_is in
    let named = subst (λ (l : List Bytes). IfOk c.list_keyspace_names.result (λ names. IsPermutation l names.items)) listed c.list_keyspace_names.ensures.named in
    names_owes c.args.self.now c.list_keyspace_names.result named c.list_keyspace_names.ensures.sorted c.list_keyspace_names.ensures.only
