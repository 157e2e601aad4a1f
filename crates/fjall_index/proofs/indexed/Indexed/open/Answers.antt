use Rattle.std.proofs.Common.{rules, Err, ap}
use Rattle.fjall_index_entries.specs.declared.error.IndexError.{IndexError}
use Rattle.fjall_index.proofs.OpeningStates.{if_no_value, names_apart, not_stale, passed_on, same_arrives, same_keeps, stale_for_all, still_arrives, still_keeps}
use Rattle.fjall_index.proofs.indexed.Indexed.open.Goals as goal

pub returns-then-eq-clause-indexed : goal.returns-then-eq-clause-indexed
returns-then-eq-clause-indexed g c = λ h. still_arrives c.args.core.now.engine c.args.core.now.transactions (λ s. Unit {0}) (λ s. tt)

pub returns-then-eq-clause-stale : goal.returns-then-eq-clause-stale
returns-then-eq-clause-stale g c = λ h t stands reads.
    let (next, arrives, none) = still_arrives c.args.core.now.engine c.args.core.now.transactions (λ s. Unit {0}) (λ s. tt) t stands reads in
    (next, arrives, λ told. let bad : ⊥ = cc in absurd bad)

pub returns-then-eq-clause-keeps : goal.returns-then-eq-clause-keeps
returns-then-eq-clause-keeps g c = λ h. still_keeps c.args.core.now.engine c.args.core.now.transactions

pub returns-in_err-ids-clause-indexed : goal.returns-in_err-ids-clause-indexed
returns-in_err-ids-clause-indexed g c = λ h t stands reads.
    let (next, arrives, none) = c.both_of.ensures.arrives h t stands reads in
    (next, arrives, if_no_value c.from_residual.result _ c.from_residual.ensures.0)

pub returns-in_err-ids-clause-stale : goal.returns-in_err-ids-clause-stale
returns-in_err-ids-clause-stale g c = λ h t stands reads.
    let (next, arrives, none) = c.both_of.ensures.arrives h t stands reads in
    (next, arrives, λ told. absurd (not_stale c.from_residual.result c.in_err-ids.field-0.0 c.from_residual.ensures.1 told))

pub returns-in_err-check-clause-indexed : goal.returns-in_err-check-clause-indexed
returns-in_err-check-clause-indexed g c = λ h t stands reads.
    let (next, arrives, named) = c.in_ok-ids.ensures.arrives h t stands reads in (
      next,
      same_arrives g.D.Disk.honest t next c.both_of.new.core.engine c.check.new.core.engine c.both_of.new.core.transactions c.check.new.core.transactions h c.check.ensures.stand c.check.ensures.same arrives,
      if_no_value c.from_residual-in_err-check.result _ c.from_residual-in_err-check.ensures.0,
    )

pub returns-in_err-check-clause-stale : goal.returns-in_err-check-clause-stale
returns-in_err-check-clause-stale g c = λ h t stands reads.
    let (next, arrives, named) = c.in_ok-ids.ensures.arrives h t stands reads in (
      next,
      same_arrives g.D.Disk.honest t next c.both_of.new.core.engine c.check.new.core.engine c.both_of.new.core.transactions c.check.new.core.transactions h c.check.ensures.stand c.check.ensures.same arrives,
      λ told. stale_for_all c.both_of.new.core.engine c.both_of.new.core.transactions next (g.E.Extract.field_of c.args.extract) c.args.main.now c.args.index.now c.in_ok-ids.ids arrives.stands named
          (c.in_err-check.ensures.stale h next arrives.stands arrives.reads (ap (λ (e : IndexError). Err e) (passed_on c.from_residual-in_err-check.result c.in_err-check.field-0.0 c.from_residual-in_err-check.ensures.1 told))),
    )

pub returns-in_err-check-clause-keeps : goal.returns-in_err-check-clause-keeps
returns-in_err-check-clause-keeps g c = λ h.
    same_keeps g.D.Disk.honest c.args.core.now.engine c.both_of.new.core.engine c.check.new.core.engine c.args.core.now.transactions c.both_of.new.core.transactions c.check.new.core.transactions h c.check.ensures.stand c.check.ensures.same (c.both_of.ensures.keeps h)

pub returns-clause-indexed : goal.returns-clause-indexed
returns-clause-indexed g c = λ h t stands reads.
    let (next, arrives, named) = c.in_ok-ids.ensures.arrives h t stands reads in (
      next,
      same_arrives g.D.Disk.honest t next c.both_of.new.core.engine c.check.new.core.engine c.both_of.new.core.transactions c.check.new.core.transactions h c.check.ensures.stand c.check.ensures.same arrives,
      record {
        named = named;
        apart = names_apart _ c.args.main.now c.args.index.now c.in_ok-ids.ids (λ e. search (rules, e)) named;
        indexed = c.in_ok-check.ensures.indexed h next arrives.stands arrives.reads;
      },
    )

pub returns-clause-stale : goal.returns-clause-stale
returns-clause-stale g c = λ h t stands reads.
    let (next, arrives, named) = c.in_ok-ids.ensures.arrives h t stands reads in (
      next,
      same_arrives g.D.Disk.honest t next c.both_of.new.core.engine c.check.new.core.engine c.both_of.new.core.transactions c.check.new.core.transactions h c.check.ensures.stand c.check.ensures.same arrives,
      λ told. let bad : ⊥ = cc in absurd bad,
    )

pub returns-clause-keeps : goal.returns-clause-keeps
returns-clause-keeps g c = λ h.
    same_keeps g.D.Disk.honest c.args.core.now.engine c.both_of.new.core.engine c.check.new.core.engine c.args.core.now.transactions c.both_of.new.core.transactions c.check.new.core.transactions h c.check.ensures.stand c.check.ensures.same (c.both_of.ensures.keeps h)
