use Rattle.std.proofs.Common.{◌≡◌, false, ap, ◌∙◌, sym, subst, inl, inr}
use Rattle.fjall_journal.specs.Reader.{Reading, over_with, EndsAt}
use Rattle.fjall_journal.proofs.Readings.{told, next_stops}
use Rattle.fjall_journal.proofs.batch_reader.JournalBatchReaderIterator.next.Goals as goal
use Rattle.fjall_journal.proofs.batch_reader.JournalBatchReaderIterator.next.Goals.{in-Damaged, in-Clean}

pub returns-after-tail-clause-steps : goal.returns-after-tail-clause-steps
returns-after-tail-clause-steps c =
    let going : c.args.self.now.over ≡ false = ap (λ (s : Reading). s.over) (sym c.self.view_is) ∙ c.if-self.false in
    let h = rw c.in-Err-Tail.field-0-is at c.in-Err-Tail.ensures in
    let here = h.tail in
    next_stops c.args.self.now _ c.in-Err-Tail.tail c.match-tail.result going (ap (λ (s : Reading). over_with s c.in-Err-Tail.tail) c.self.view_is)
    (subst (λ (s : Reading). EndsAt s.rest c.in-Err-Tail.tail) c.self.view_is here)
    (elim c.match-tail.branch [ in-Damaged w ↦ w.result-is ∙ ap told (sym w.in-Damaged.is) | in-Clean w ↦ elim w.in-Clean.is [ inl e ↦ w.result-is ∙ ap told (sym e) | inr e ↦ w.result-is ∙ ap told (sym e) ] ])
