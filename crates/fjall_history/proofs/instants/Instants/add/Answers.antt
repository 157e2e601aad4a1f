use Rattle.std.proofs.Common.{◌≡◌, ◌+◌, ◌<◌, suc, length, arith, ap, sym, ◌∙◌, unwrap_or, is_some, false}
use Rattle.std.specs.Ordering.{nat_cmp}
use Rattle.std.specs.Map.{lookup}
use Rattle.std.specs.BTreeMap.{is_at}
use Rattle.std.proofs.lemmas.Map.Views.{All-values-insert_entry}
use Rattle.std.proofs.lemmas.Result.{err_from_is_err_and}
use Rattle.fjall_history.specs.Trackers.{instants_of, with_instant, is_open}
use Rattle.fjall_history.proofs.TrackerEntries.{with-insert_entry, count_le, open-lookup}
use Rattle.fjall_history.proofs.TrackerOpenings.{length-with_instant}
use Rattle.fjall_history.proofs.instants.Instants.add.Goals as goal

pub overflow_add-count : goal.overflow_add-count
overflow_add-count c =
    let e : c.unwrap_or-count.result ≡ unwrap_or (lookup (is_at (nat_cmp c.args.instant)) c.self.inside.counts.entries) 0 =
    c.unwrap_or-count.ensures ∙ ap (λ o. unwrap_or o 0) (c.copied.ensures ∙ c.get.ensures.value) in
    omega (arith, count_le c.args.instant c.self.inside.counts.entries, c.self.invariant.1, c.in-Some.ensures)

pub returns-clause-ok : goal.returns-clause-ok
returns-clause-ok c =
    ap instants_of c.in_ok-insert.ensures.entries
    ∙ with-insert_entry c.args.instant c.unwrap_or-count.result c.self.inside.counts.entries c.in_ok-insert.ensures.was_ordered c.self.invariant.0
    (sym (c.unwrap_or-count.ensures ∙ ap (λ o. unwrap_or o 0) (c.copied.ensures ∙ c.get.ensures.value)))
    ∙ ap (with_instant c.args.instant) c.self.view_is

pub invariant_of-self-2 : goal.invariant_of-self-2
invariant_of-self-2 c =
    let more : length (instants_of c.insert.new.self.entries) ≡ suc (length c.args.self.now) = ap length (returns-clause-ok c) ∙ length-with_instant c.args.instant c.args.self.now in (
      rw c.in_ok-insert.ensures.entries (All-values-insert_entry nat_cmp c.args.instant (c.unwrap_or-count.result + 1) (λ n. 0 < n) c.self.inside.counts.entries c.self.invariant.0 (omega arith)),
      omega (arith, c.in-Some.ensures.1, c.self.invariant.1, ap length c.self.view_is),
    )

pub returns-in_default-clause-cause : goal.returns-in_default-clause-cause
returns-in_default-clause-cause c = let full = c.in_default.ensures in omega (arith, c.self.invariant.1, ap length c.self.view_is)

pub returns-in_err-insert-clause-cause : goal.returns-in_err-insert-clause-cause
returns-in_err-insert-clause-cause c =
    let p = err_from_is_err_and c.from_residual.result c.from_residual.ensures.1 in
    let absent : is_open c.args.instant c.args.self.now ≡ false =
    sym (ap (is_open c.args.instant) c.self.view_is) ∙ sym (open-lookup c.args.instant c.self.inside.counts.entries c.self.invariant.0) ∙ ap is_some c.in_err-insert.ensures.absent in
    rw (p.1, p.2) (omega (arith, c.in-Some.ensures, c.self.invariant.1, ap length c.self.view_is), absent)
