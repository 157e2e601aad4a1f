use Rattle.std.proofs.Common.{◌≡◌, ◌∙◌, ap, get_or, []}
use Rattle.fjall_files.specs.Journals.{Sealed}
use Rattle.fjall_files.specs.Marks.{JournalMarks}
use Rattle.fjall_recovery.proofs.Telling.{turn_ids}
use Rattle.fjall_opening.proofs.Counting.{empty_more}
use Rattle.fjall_opening.proofs.ready.empty_journals.Goals as goal

pub loop-id-preserved : goal.loop-id-preserved
loop-id-preserved c =
    let ids = c.args.ids.now in
    let n = c.loop-id.id-index in
    let journal : Sealed = c.in_ok-journal.journal in
    let pushed = c.in_ok-enqueue.ensures.ok in
    let is : journal ≡ record { id = get_or ids n 0; len = 0; watermarks = [] } =
    c.in_ok-journal.ensures.ok ∙ ap (λ (w : JournalMarks). let s : Sealed = record { id = get_or ids n 0; len = 0; watermarks = w } in s) c.new.ensures in
    record {
      tell = empty_more ids n c.loop-id.sealed c.enqueue.new.self journal c.loop-id-test.true c.loop-id.invariant.tell is pushed;
      ids = turn_ids ids n c.loop-id.sealed c.enqueue.new.self journal c.loop-id-test.true c.loop-id.invariant.ids (ap (λ (s : Sealed). s.id) is) pushed;
    }
