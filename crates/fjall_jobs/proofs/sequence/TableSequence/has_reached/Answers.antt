use Rattle.std.proofs.Common.{◌∙◌, ◌<◌, length, arith}
use Rattle.fjall_jobs.proofs.Dues.{due_told, not_due}
use Rattle.fjall_jobs.proofs.sequence.TableSequence.has_reached.Goals as goal

pub returns-then-self-target : goal.returns-then-self-target
returns-then-self-target c closed s =
    ((λ no_way. absurd (cc)), (λ due. absurd (not_due c.args.target c.args.self.now.size c.args.self.now.writer c.args.key.now (omega arith) s.size_is (omega (arith, c.if-self-target.true)) due)))

pub returns : goal.returns
returns c closed s =
    let some : 0 < length c.args.self.now.writer = omega (arith, c.if-entry_count-eq0.false, c.entry_count.ensures) in
    due_told c.args.target c.args.self.now.size c.args.self.now.writer c.as_slice.result.now c.args.key.now c.ne.result s.size_is
    (c.as_slice.ensures.value ∙ s.key_is) some (omega (arith, c.if-self-target.false)) c.ne.ensures
