use Rattle.std.proofs.Common.{[], ◌<◌, ℕ, length, IfSome, Option, ap, map, slice_set, subst, sym, ◌≡◌, ◌∙◌}
use Rattle.std.specs.Option.{option_map}
use Rattle.fjall_table.specs.Blocks.{seen}
use Rattle.fjall_memtable.specs.Sorted.{IsFirst}
use Rattle.fjall_cursors.proofs.Heads.{ahead_first, alone_first, got_at, has_one, headed_by, length_of, overtaken, turned}
use Rattle.fjall_cursors.proofs.run.next_two_of.Goals as goal

pub returns-in_default-clause-first : goal.returns-in_default-clause-first
returns-in_default-clause-first g c second =
    let left = g.R.Run.left in
    let runs = c.args.runs.now in
    let at = c.args.at in
    let run = left c.index-runs-at.result in
    let get = got_at left runs at c.index-runs-at.result c.requires.within c.index-runs-at.is in
    let head = headed_by run (λ none. absurd (cc (c.is_empty.ensures.1 none, c.if-is_empty.false))) in
    let none = subst (λ (other : Option ℕ). IsFirst c.args.back (slice_set (map left runs) at []) other) c.in_default.is second in
    alone_first c.args.back (map left runs) at run head.0 get head.1 none

pub returns-in_default-clause-left : goal.returns-in_default-clause-left
returns-in_default-clause-left g c =
    let left = g.R.Run.left in
    let runs = c.args.runs.now in
    let at = c.args.at in
    let run = left c.index-runs-at.result in
    let get = got_at left runs at c.index-runs-at.result c.requires.within c.index-runs-at.is in
    let head = headed_by run (λ none. absurd (cc (c.is_empty.ensures.1 none, c.if-is_empty.false))) in
    has_one (map left runs) at run head.0 get head.1

pub returns-then-comes_before-clause-first : goal.returns-then-comes_before-clause-first
returns-then-comes_before-clause-first g c second =
    let left = g.R.Run.left in
    let runs = c.args.runs.now in
    let at = c.args.at in
    let run = left c.index-runs-at-2.result in
    let v = seen c.in_ok-version.version in
    let get = got_at left runs at c.index-runs-at-2.result c.requires.within c.index-runs-at-2.is in
    let head = sym (ap (option_map seen) c.in_ok-version.was) ∙ c.first.ensures in
    let next = c.in-Some.next in
    let within : next < length runs = subst (λ (other : Option ℕ). IfSome other (λ other. other < length runs)) c.in-Some.is c.requires.other in
    let w = seen c.in_ok-head.head in
    let get_next = got_at left runs next c.index-runs-next.result within c.index-runs-next.is in
    let head_next = sym (ap (option_map seen) c.in_ok-head.was) ∙ c.first-2.ensures in
    let some = subst (λ (other : Option ℕ). IsFirst c.args.back (slice_set (map left runs) at []) other) c.in-Some.is second in
    ahead_first c.args.back (map left runs) at next run (left c.index-runs-next.result) v w get head get_next head_next (c.comes_before.ensures.0 c.if-comes_before.true) some

pub returns-then-comes_before-clause-left : goal.returns-then-comes_before-clause-left
returns-then-comes_before-clause-left g c =
    let left = g.R.Run.left in
    let runs = c.args.runs.now in
    let at = c.args.at in
    let run = left c.index-runs-at-2.result in
    let v = seen c.in_ok-version.version in
    let get = got_at left runs at c.index-runs-at-2.result c.requires.within c.index-runs-at-2.is in
    let head = sym (ap (option_map seen) c.in_ok-version.was) ∙ c.first.ensures in
    has_one (map left runs) at run v get head

pub returns-then-runs-eq2-clause-first : goal.returns-then-runs-eq2-clause-first
returns-then-runs-eq2-clause-first g c second =
    let left = g.R.Run.left in
    let runs = c.args.runs.now in
    let at = c.args.at in
    let run = left c.index-runs-at-2.result in
    let v = seen c.in_ok-version.version in
    let get = got_at left runs at c.index-runs-at-2.result c.requires.within c.index-runs-at-2.is in
    let head = sym (ap (option_map seen) c.in_ok-version.was) ∙ c.first.ensures in
    let next = c.in-Some.next in
    let within : next < length runs = subst (λ (other : Option ℕ). IfSome other (λ other. other < length runs)) c.in-Some.is c.requires.other in
    let w = seen c.in_ok-head.head in
    let get_next = got_at left runs next c.index-runs-next.result within c.index-runs-next.is in
    let head_next = sym (ap (option_map seen) c.in_ok-head.was) ∙ c.first-2.ensures in
    let some = subst (λ (other : Option ℕ). IsFirst c.args.back (slice_set (map left runs) at []) other) c.in-Some.is second in
    overtaken c.args.back (map left runs) at next run (left c.index-runs-next.result) v w get head get_next head_next (λ before. absurd (cc (c.comes_before.ensures.1 before, c.if-comes_before.false))) some

pub returns-then-runs-eq2-clause-second : goal.returns-then-runs-eq2-clause-second
returns-then-runs-eq2-clause-second g c second =
    let left = g.R.Run.left in
    let runs = c.args.runs.now in
    let at = c.args.at in
    let run = left c.index-runs-at-2.result in
    let v = seen c.in_ok-version.version in
    let get = got_at left runs at c.index-runs-at-2.result c.requires.within c.index-runs-at-2.is in
    let head = sym (ap (option_map seen) c.in_ok-version.was) ∙ c.first.ensures in
    let some = subst (λ (other : Option ℕ). IsFirst c.args.back (slice_set (map left runs) at []) other) c.in-Some.is second in
    let two : length runs ≡ 2 = c.if-runs-eq2.true in
    turned c.args.back (map left runs) at c.in-Some.next run v (length_of left runs ∙ two) get head some

pub returns-then-runs-eq2-clause-left : goal.returns-then-runs-eq2-clause-left
returns-then-runs-eq2-clause-left g c =
    let left = g.R.Run.left in
    let runs = c.args.runs.now in
    let at = c.args.at in
    let run = left c.index-runs-at-2.result in
    let v = seen c.in_ok-version.version in
    let get = got_at left runs at c.index-runs-at-2.result c.requires.within c.index-runs-at-2.is in
    let head = sym (ap (option_map seen) c.in_ok-version.was) ∙ c.first.ensures in
    has_one (map left runs) at run v get head
