use Rattle.std.proofs.Common.{◌≡◌, ℕ, List, sym, ◌∙◌, ap}
use Rattle.fjall_meta.specs.Reading.{key_id, entries_at}
use Rattle.fjall_meta.proofs.Grouping.{put_own, skip_own}
use Rattle.fjall_meta.proofs.reading.groups_of.Goals as goal
use Rattle.fjall_meta.proofs.reading.groups_of.Goals.{in-Some+in_ok-put_entry, in_default}

pub loop-entry-preserved : goal.loop-entry-preserved
loop-entry-preserved c =
    let e = c.entry-item.result in
    let i = c.loop-entry.entry-index in
    let entries = c.args.entries.now in
    let read : key_id e.key ≡ c.key_id.result = ap (λ (k : List ℕ). key_id k) (sym c.deref.ensures) ∙ sym c.key_id.ensures in
    elim c.match-key_id.branch [
      | in-Some+in_ok-put_entry w ↦
          λ q. rw w.groups-is (put_own q i w.in-Some.id entries e (entries_at q c.loop-entry.groups) (entries_at q w.put_entry.new.groups) c.loop-entry-test.true c.entry-item.is (read ∙ w.in-Some.is) (c.loop-entry.invariant q) (w.in_ok-put_entry.ensures.ok q))
      | in_default w ↦ λ q. rw w.groups-is (skip_own q i entries e (entries_at q c.loop-entry.groups) c.loop-entry-test.true c.entry-item.is (read ∙ w.in_default.is) (c.loop-entry.invariant q))
    ]
