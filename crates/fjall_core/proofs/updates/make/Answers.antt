use Rattle.fjall_core.specs.Updating.{MakesValue}
use Rattle.fjall_core.proofs.Updating.{made_refused}
use Rattle.fjall_core.proofs.updates.make.Goals as goal

pub returns-clause-refused : goal.returns-clause-refused
returns-clause-refused g c =
    let a = c.args in
    made_refused (MakesValue g.F.FnOnce a.f) a.key a.found.now c.in_ok-new.new c.replace.result (record { lent = c.as_ref.result; is = c.as_ref.ensures.value; met = c.in_ok-new.ensures }) c.replace.ensures.refused
