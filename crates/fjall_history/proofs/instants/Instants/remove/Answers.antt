use Rattle.std.proofs.Common.{◌-◌, ℕ, ◌<◌, ◌≤◌, length, arith, ap, sym, ◌∙◌, is_some}
use Rattle.std.specs.BTreeMap.{BTreeMap}
use Rattle.fjall_history.specs.Trackers.{instants_of, without_instant, is_open}
use Rattle.fjall_history.proofs.TrackerEntries.{closes-written, closes-removed, closes-counted, some-counted, counted_le, open-lookup}
use Rattle.fjall_history.proofs.TrackerOpenings.{without-none}
use Rattle.fjall_history.proofs.instants.Instants.remove.Goals as goal

pub returns-in_default-clause-was_open : goal.returns-in_default-clause-was_open
returns-in_default-clause-was_open c =
    ap is_some c.in_default.ensures.value ∙ open-lookup c.args.instant c.self.inside.counts.entries c.self.invariant.0
    ∙ ap (is_open c.args.instant) c.self.view_is

pub returns-in_default-clause-removed : goal.returns-in_default-clause-removed
returns-in_default-clause-removed c =
    ap (λ (m : BTreeMap ℕ ℕ). instants_of m.entries) c.get_mut.follows.holds-at-none ∙ c.self.view_is
    ∙ sym (without-none c.args.instant c.args.self.now (sym (returns-in_default-clause-was_open c)))

pub overflow_sub-self : goal.overflow_sub-self
overflow_sub-self c =
    let there : 0 < c.in-Some.count.now = some-counted c.args.instant c.in-Some.count.now c.self.inside.counts.entries c.self.invariant.0 (sym c.in-Some.ensures.value) in
    let counted : c.in-Some.count.now ≤ length (instants_of c.self.inside.counts.entries) = counted_le c.args.instant c.in-Some.count.now c.self.inside.counts.entries (sym c.in-Some.ensures.value) in
    omega (arith, c.self.invariant.1)

pub returns-then-count-eq0-clause-was_open : goal.returns-then-count-eq0-clause-was_open
returns-then-count-eq0-clause-was_open c =
    ap is_some c.in-Some.ensures.value ∙ open-lookup c.args.instant c.self.inside.counts.entries c.self.invariant.0
    ∙ ap (is_open c.args.instant) c.self.view_is

pub returns-then-count-eq0-clause-removed : goal.returns-then-count-eq0-clause-removed
returns-then-count-eq0-clause-removed c =
    (closes-removed c.args.instant c.in-Some.count.now c.self.inside.counts.entries _ _ c.self.invariant.0 (sym c.in-Some.ensures.value) c.if-count-eq0.true (c.get_mut.follows.holds (c.in-Some.count.now - 1)).0 c.remove.ensures.entries).without
    ∙ ap (without_instant c.args.instant) c.self.view_is

pub invariant_of-self-then-count-eq0 : goal.invariant_of-self-then-count-eq0
invariant_of-self-then-count-eq0 c =
    closes-counted c.args.instant c.in-Some.count.now c.self.inside.total c.self.inside.counts.entries _ c.self.invariant.0 (sym c.in-Some.ensures.value) c.self.invariant.1
    (closes-removed c.args.instant c.in-Some.count.now c.self.inside.counts.entries _ _ c.self.invariant.0 (sym c.in-Some.ensures.value) c.if-count-eq0.true (c.get_mut.follows.holds (c.in-Some.count.now - 1)).0 c.remove.ensures.entries)

pub returns-else-count-eq0-clause-was_open : goal.returns-else-count-eq0-clause-was_open
returns-else-count-eq0-clause-was_open c =
    ap is_some c.in-Some.ensures.value ∙ open-lookup c.args.instant c.self.inside.counts.entries c.self.invariant.0
    ∙ ap (is_open c.args.instant) c.self.view_is

pub returns-else-count-eq0-clause-removed : goal.returns-else-count-eq0-clause-removed
returns-else-count-eq0-clause-removed c =
    (closes-written c.args.instant c.in-Some.count.now c.self.inside.counts.entries _ c.self.invariant.0 (sym c.in-Some.ensures.value) c.if-count-eq0.false (c.get_mut.follows.holds (c.in-Some.count.now - 1)).0).without
    ∙ ap (without_instant c.args.instant) c.self.view_is

pub invariant_of-self-else-count-eq0 : goal.invariant_of-self-else-count-eq0
invariant_of-self-else-count-eq0 c =
    closes-counted c.args.instant c.in-Some.count.now c.self.inside.total c.self.inside.counts.entries _ c.self.invariant.0 (sym c.in-Some.ensures.value) c.self.invariant.1
    (closes-written c.args.instant c.in-Some.count.now c.self.inside.counts.entries _ c.self.invariant.0 (sym c.in-Some.ensures.value) c.if-count-eq0.false (c.get_mut.follows.holds (c.in-Some.count.now - 1)).0)
