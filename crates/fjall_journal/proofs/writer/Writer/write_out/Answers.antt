use Rattle.std.proofs.lemmas.Grind.{common_steps}
use Rattle.std.proofs.Common.{length, arith, ◌≡◌, ap, ◌∙◌, sym, subst}
use Rattle.std.proofs.lemmas.List.{nil_from_length}
use Rattle.fjall_journal.specs.Writer.{Journal, written_out}
use Rattle.fjall_journal.specs.contracts.writer.Writer.{the_view}
use Rattle.fjall_journal.proofs.Writing.{part_left, nothing_out}
use Rattle.fjall_journal.proofs.writer.Writer.write_out.Goals as goal

pub returns-then-is_empty-clause-ok : goal.returns-then-is_empty-clause-ok
returns-then-is_empty-clause-ok g c =
    let told = sym c.is_empty.ensures ∙ c.if-is_empty.true in
    let r = c.self.ranges in
    let len : length c.self.inside.buffer.items ≡ 0 = grind (arith, common_steps, told, r) in
    let empty = nil_from_length c.self.inside.buffer.items len in
    subst (λ (j : Journal). j ≡ written_out j) c.self.view_is (nothing_out (the_view c.self.inside) empty c.self.invariant)

pub returns-in_err-append-clause-part : goal.returns-in_err-append-clause-part
returns-in_err-append-clause-part g c = λ h.
    part_left c.from_residual.result (g.D.Disk.meaning c.args.disk.now) (g.D.Disk.meaning c.append.new.self) c.args.self.now c.deref.result.now c.deref-2.result.now
    (c.deref.ensures ∙ ap (λ (j : Journal). j.name) c.self.view_is) (c.deref-2.ensures.value ∙ ap (λ (j : Journal). j.buffer) c.self.view_is) (c.in_err-append.ensures.err h)
