use Rattle.std.proofs.Common.{◌≡◌, ◌∷◌, Err, subst, sym, rules}
use Rattle.fjall_table.specs.Blocks.{Entry, IsEntry, seen}
use Rattle.fjall_jobs.specs.Keeping.{KeepsVersions}
use Rattle.fjall_jobs.proofs.Keeping.{first_is}
use Rattle.fjall_jobs.proofs.keeper.Keeper.take_from.Goals as goal

pub returns-in_err-take-clause-only : goal.returns-in_err-take-clause-only
returns-in_err-take-clause-only g c v left rest whole is entry keeps =
    let e : c.from_residual.result ≡ Err c.in_err-take.field-0.0 = search rules in
    let same : seen c.in-Some.version ≡ v = first_is (g.R.Run.left c.args.run.now) v left c.first.result c.in-Some.version c.first.ensures c.in-Some.is is in
    rw e (c.in_err-take.ensures.only rest whole (subst IsEntry (sym same) entry) (subst (λ (w : Entry). KeepsVersions c.args.self.now (w ∷ rest) whole) (sym same) keeps))
