use Rattle.std.proofs.Common.{◌≡◌, rules, subst}
use Rattle.fjall_core.specs.Holding.{Held}
use Rattle.fjall_c.specs.Transactions.{ShowsIn, TellsPage}
use Rattle.fjall_c.proofs.Reading.{shows_so}
use Rattle.fjall_c.proofs.session.within.page_shown.Goals as goal

pub returns : goal.returns
returns c =
    let a = c.args in
    let reader = c.new-reader in
    let left = c.page_by-found.new.reader.core.now in
    let tells = TellsPage a.range.now a.back a.max in
    let given : left ≡ c.engine-1.given.0 = search rules in
    subst (λ (e : Held). ShowsIn a.keyspace tells c.page_by-found.result a.engine.now a.view e) given
    (shows_so a.keyspace tells c.page_by-found.result a.engine.now reader.result.core.now left a.view reader.result.view reader.ensures.core reader.ensures.view c.page_by-found.ensures.shows)
