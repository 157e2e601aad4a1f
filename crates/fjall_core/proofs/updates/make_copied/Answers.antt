use Rattle.std.proofs.Common.{IfErr, rules, subst}
use Rattle.fjall_core.specs.Updating.{IsMadeRefusal, MakesValue}
use Rattle.fjall_core.proofs.Updating.{made_refused}
use Rattle.fjall_core.proofs.updates.make_copied.Goals as goal

pub returns-in_err-replace-clause-refused : goal.returns-in_err-replace-clause-refused
returns-in_err-replace-clause-refused g c =
    let a = c.args in
    let why = made_refused (MakesValue g.F.FnOnce a.f) a.key a.found.now c.in_ok-new.new c.replace.result (record { lent = c.as_ref.result; is = c.as_ref.ensures.value; met = c.in_ok-new.ensures }) c.replace.ensures.refused in
    let so : IsMadeRefusal (MakesValue g.F.FnOnce a.f) a.key a.found.now c.in_err-replace.field-0.0 = subst (λ r. IfErr r (IsMadeRefusal (MakesValue g.F.FnOnce a.f) a.key a.found.now)) c.in_err-replace.was why in
    search (rules, so)
