use Rattle.std.proofs.Common.{◌≡◌, ℕ, List, [], Option, None, ap, arith, get_or, length, map, rules, slice_set, subst, sym, take, ◌∙◌, ◌<◌, ◌≤◌, position}
use Rattle.fjall_table.specs.Blocks.{Entry}
use Rattle.fjall_memtable.specs.Sorted.{IsFirst, flat, in_turn, sorted}
use Rattle.fjall_cursors.proofs.RunPaging.{fewer_left, got_run, set_run}
use Rattle.fjall_cursors.specs.Pages.{made, made_with}
use Rattle.fjall_cursors.specs.Runs.{ahead_of, all_behind, all_of, is_dry, left_in}
use Rattle.fjall_cursors.proofs.Paging.{IsNext, all_undry, flat_fewer, full, going_more, going_on, joined_all, leading, next_of, none_dry, passed_on, same_ahead}
use Rattle.fjall_cursors.proofs.page_maker.PageMaker.go_on.Goals as goal

pub returns-in_default-first_two_of-clause-done : goal.returns-in_default-first_two_of-clause-done
returns-in_default-first_two_of-clause-done c range tables whole is none =
    let undry : c.first_dry.result ≡ None = search rules in
    let runs = c.versions.runs in
    let page = c.versions.self in
    ap (take c.args.max) (joined_all c.args.back (map left_in runs) (all_behind range tables (map ahead_of runs)) whole (made_with page) (made page) c.args.max (c.versions.invariant.all range tables whole is) (none_dry range tables runs (sym c.first_dry.ensures ∙ undry)) c.in_default-first_two_of.ensures.first)

pub ahead-init : goal.ahead-init
ahead-init c =
    let two = c.in-Some-first_two_of in
    let len = c.len.ensures in
    let test = c.versions-test.true in
    let none : c.first_dry.result ≡ None = search rules in
    let undry : position is_dry c.versions.runs ≡ None = sym c.first_dry.ensures ∙ none in
    (c.versions.invariant, (leading c.args.back c.versions.runs two.two (all_undry c.versions.runs undry) two.ensures.first two.ensures.second two.ensures.within two.ensures.other, omega (arith, len, test), omega arith))

pub ahead-smaller : goal.ahead-smaller
ahead-smaller c =
    let runs = c.ahead.runs in
    let new = c.look_at.new.run in
    let at = c.in-Some-next.at in
    let run = get_or runs at c.index-runs-at.result in
    let now = subst (IsNext c.args.back c.args.max c.versions.runs c.ahead.self runs) c.in-Some-next.is c.ahead.invariant.1 in
    fewer_left c.args.back (map left_in runs) (map left_in (slice_set runs at new)) at (left_in run) (left_in new) now.0.first (got_run left_in runs at c.index-runs-at.result now.0.within) (set_run left_in runs at new) c.in_ok-look_at.ensures.left

pub ahead-preserved : goal.ahead-preserved
ahead-preserved c =
    let runs = c.ahead.runs in
    let new = c.look_at.new.run in
    let at = c.in-Some-next.at in
    let run = get_or runs at c.index-runs-at.result in
    let now = subst (IsNext c.args.back c.args.max c.versions.runs c.ahead.self runs) c.in-Some-next.is c.ahead.invariant.1 in
    let less = fewer_left c.args.back (map left_in runs) (map left_in (slice_set runs at new)) at (left_in run) (left_in new) now.0.first (got_run left_in runs at c.index-runs-at.result now.0.within) (set_run left_in runs at new) c.in_ok-look_at.ensures.left in
    let most = now.2 in
    let fewer : length (flat (map left_in (slice_set runs at new))) < length (flat (map left_in c.versions.runs)) = omega (arith, less, most) in
    let passed = passed_on c.args.back runs at c.in-Some-next.other new now.0 in
    let e = c.in_ok-look_at.ensures in
    let n = c.next_two-next.ensures in (
      going_more c.args.back c.args.max c.args.self.now c.ahead.self c.look_at.new.self c.args.runs.now runs at c.index-runs-at.result new c.ahead.invariant.0 now.1 now.0.undry now.0.first now.0.within e.ahead e.back e.left e.all e.few,
      next_of c.args.back c.args.max c.versions.runs c.look_at.new.self (slice_set runs at new) c.next_two-next.result fewer n.room (n.next passed.undry passed.second),
    )

pub versions-smaller-in-Continue-1 : goal.versions-smaller-in-Continue-1
versions-smaller-in-Continue-1 c =
    let runs = c.versions.runs in
    let at = c.in-Some-first_two_of.two.0 in
    let new = c.look_on.new.run in
    subst (λ (rs : List (List Entry)). length (flat rs) < length (flat (map left_in runs))) (sym (set_run left_in runs at new))
    (flat_fewer (map left_in runs) at (left_in (get_or runs at c.index-runs-two.result)) (left_in new) (got_run left_in runs at c.index-runs-two.result c.in-Some-first_two_of.ensures.within) c.in_ok-look_on.ensures.fewer)

pub versions-preserved-in-Continue-1 : goal.versions-preserved-in-Continue-1
versions-preserved-in-Continue-1 c =
    let runs = c.versions.runs in
    let two = c.in-Some-first_two_of in
    let len = c.len.ensures in
    let test = c.versions-test.true in
    let none : c.first_dry.result ≡ None = search rules in
    let single : two.two.1 ≡ None = search rules in
    let alone = subst (λ (other : Option ℕ). IsFirst c.args.back (slice_set (map left_in runs) two.two.0 []) other) single two.ensures.second in
    let e = c.in_ok-look_on.ensures in
    going_on c.args.back c.args.max c.args.self.now c.versions.self c.look_on.new.self c.args.runs.now runs two.two.0 c.index-runs-two.result c.look_on.new.run c.versions.invariant (omega (arith, len, test))
    (all_undry runs (sym c.first_dry.ensures ∙ none)) alone two.ensures.within e.ahead e.back e.looked e.few

pub returns-in_err-look_on-clause-ahead : goal.returns-in_err-look_on-clause-ahead
returns-in_err-look_on-clause-ahead c =
    same_ahead c.versions.runs c.in-Some-first_two_of.two.0 c.index-runs-two.result c.look_on.new.run c.in-Some-first_two_of.ensures.within c.in_err-look_on.ensures.ahead ∙ c.versions.invariant.ahead

pub returns-in_err-look_at-clause-ahead : goal.returns-in_err-look_at-clause-ahead
returns-in_err-look_at-clause-ahead c =
    let now = subst (IsNext c.args.back c.args.max c.versions.runs c.ahead.self c.ahead.runs) c.in-Some-next.is c.ahead.invariant.1 in
    same_ahead c.ahead.runs c.in-Some-next.at c.index-runs-at.result c.look_at.new.run now.0.within c.in_err-look_at.ensures.ahead ∙ c.ahead.invariant.0.ahead

pub returns-clause-done : goal.returns-clause-done
returns-clause-done c range tables whole is none =
    let page = c.versions.self in
    let len = c.len.ensures in
    let test = c.versions-test.false in
    let made_yet = c.versions.invariant.all range tables whole is in
    let le : c.args.max ≤ length (made page) = omega (arith, len, test) in
    full page c.args.max (in_turn c.args.back (sorted (flat (all_of range tables c.versions.runs)))) le ∙ ap (take c.args.max) made_yet.told
