use Rattle.std.proofs.Common.{◌≡◌, length, ◌∙◌, arith}
use Rattle.std.proofs.lemmas.Bool.Decides.{nat_tests}
use Rattle.fjall_journal.proofs.Known.{known_is, known_there, none_in_nothing}
use Rattle.fjall_journal.proofs.known_batches.KnownBatches.next_batch.Goals as goal

pub returns-then-is_empty-clause-known : goal.returns-then-is_empty-clause-known
returns-then-is_empty-clause-known c = λ written more is text.
    let none : length c.self.inside.rest.now ≡ 0 = grind (arith, nat_tests) in
    none_in_nothing c.self.inside.rest.now written more none (c.self.view_is ∙ text)

pub returns-in-Ok-clause-known : goal.returns-in-Ok-clause-known
returns-in-Ok-clause-known c = λ written more is text. (known_is c.self.inside.rest.now c.in-Ok.batch c.in-Ok.after.now written more c.in-Ok.ensures.gives is (c.self.view_is ∙ text)).0

pub returns-in-Ok-clause-left : goal.returns-in-Ok-clause-left
returns-in-Ok-clause-left c = λ written more is text. (known_is c.self.inside.rest.now c.in-Ok.batch c.in-Ok.after.now written more c.in-Ok.ensures.gives is (c.self.view_is ∙ text)).1

pub returns-in-Err-Tail-clause-known : goal.returns-in-Err-Tail-clause-known
returns-in-Err-Tail-clause-known c = λ written more is text.
    let h = rw c.in-Err-Tail.field-0-is at c.in-Err-Tail.ensures in
    known_there c.self.inside.rest.now c.in-Err-Tail.field-0-0 written more h.gives is (c.self.view_is ∙ text)

pub returns-in-Err-Tail-clause-left : goal.returns-in-Err-Tail-clause-left
returns-in-Err-Tail-clause-left c = λ written more is text.
    let h = rw c.in-Err-Tail.field-0-is at c.in-Err-Tail.ensures in
    absurd (known_there c.self.inside.rest.now c.in-Err-Tail.field-0-0 written more h.gives is (c.self.view_is ∙ text))
