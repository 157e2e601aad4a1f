use Rattle.std.proofs.Common.{rules, arith, ◌≡◌, length}
use Rattle.fjall_files.specs.Sought.{Is}
use Rattle.fjall_files.proofs.Collecting.{added, skipped, all_collected}
use Rattle.fjall_files.proofs.Refusing.{refused_at, refused_or_full, found_one, found_none}
use Rattle.fjall_files.proofs.lists.collect.Goals as goal
use Rattle.fjall_files.proofs.lists.collect.Goals.{in-Some+in_ok-push, in_default}

pub returns-in_err-id-clause-only : goal.returns-in_err-id-clause-only
returns-in_err-id-clause-only c =
    refused_or_full c.args.sought c.args.listed.now c.from_residual.result
    (refused_at c.args.sought c.args.listed.now c.loop-entry.entry-index c.entry-item.result c.in_err-id.field-0.0 c.from_residual.result c.loop-entry-test.true c.entry-item.is c.in_err-id.ensures.refused (search rules))

pub loop-entry-preserved : goal.loop-entry-preserved
loop-entry-preserved c =
    elim c.match-branch-2.branch [
      | in-Some+in_ok-push w ↦
          rw w.ids-is (rw w.in_ok-push.ensures.items (added (Is c.args.sought) c.args.listed.now c.loop-entry.entry-index c.loop-entry.ids.items c.entry-item.result w.in-Some.id c.loop-entry-test.true c.entry-item.is
          (rw w.in-Some.is at c.in_ok-id.ensures.spelled) (λ other is. found_one c.in_ok-id.field-0 w.in-Some.id other w.in-Some.is (c.in_ok-id.ensures.all_found other is)) c.loop-entry.invariant))
      | in_default w ↦
          rw w.ids-is (skipped (Is c.args.sought) c.args.listed.now c.loop-entry.entry-index c.loop-entry.ids.items c.entry-item.result c.loop-entry-test.true c.entry-item.is
          (λ other is. found_none c.in_ok-id.field-0 other w.in_default.is (c.in_ok-id.ensures.all_found other is)) c.loop-entry.invariant)
    ]

pub returns-clause-ids : goal.returns-clause-ids
returns-clause-ids c =
    let all : c.loop-entry.entry-index ≡ length c.args.listed.now = omega arith in
    all_collected (Is c.args.sought) c.args.listed.now c.loop-entry.ids.items (rw all at c.loop-entry.invariant)
