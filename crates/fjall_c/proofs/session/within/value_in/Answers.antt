use Rattle.std.proofs.Common.{◌≡◌, rules, subst}
use Rattle.fjall_core.specs.Holding.{Held}
use Rattle.fjall_c.specs.Transactions.{ShowsIn, TellsValue}
use Rattle.fjall_c.proofs.Reading.{shows_so}
use Rattle.fjall_c.proofs.session.within.value_in.Goals as goal

pub returns : goal.returns
returns c =
    let a = c.args in
    let reader = c.new-reader in
    let left = c.value_by-found.new.reader.core.now in
    let tells = TellsValue a.key.now in
    let given : left ≡ c.engine-1.given.0 = search rules in
    subst (λ (e : Held). ShowsIn a.keyspace tells c.value_by-found.result a.engine.now a.view e) given
    (shows_so a.keyspace tells c.value_by-found.result a.engine.now reader.result.core.now left a.view reader.result.view reader.ensures.core reader.ensures.view c.value_by-found.ensures.shows)
