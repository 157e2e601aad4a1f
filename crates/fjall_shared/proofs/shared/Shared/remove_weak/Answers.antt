use denote.Ref.{Bor}
use Rattle.std.proofs.Common.{◌∙◌, ap, refl, subst, ℕ, ◌∷◌, []}
use Rattle.fjall_base.specs.Pairs.{Bytes}
use Rattle.fjall_journal.specs.Changes.{Items, command_of}
use Rattle.fjall_journal.specs.declared.op.Op.TheVariants as ops
use Rattle.fjall_history.specs.Histories.{plain}
use Rattle.fjall_machine.specs.Shapes.{of_write}
use Rattle.fjall_core.specs.Holding.{Held}
use Rattle.fjall_core.specs.CoreStanding.{Owes, Serves, reply_of}
use Rattle.fjall_shared.specs.Locked.{Locked}
use Rattle.fjall_shared.proofs.Settled.{call_done, call_settles, grown_so, told_more}
use Rattle.fjall_shared.proofs.shared.Shared.remove_weak.Goals as goal

pub tell-requires-clause-more : goal.tell-requires-clause-more
tell-requires-clause-more g c =
    told_more c.self.inside.core.engine c.remove_weak-result.new.self (of_write (c.args.id, c.args.key.now, ops.RemoveWeak)) (reply_of c.remove_weak-result.result) c.visible_seqno-before.result c.visible_seqno-after.result
    (c.visible_seqno-before.ensures.held ∙ ap (λ (h : Held). h.memory.next) c.deref.ensures) (c.visible_seqno-after.ensures.held ∙ ap (λ (h : Held). h.memory.next) c.deref-2.ensures)
    (subst (λ (h : Held). Owes h (of_write (c.args.id, c.args.key.now, ops.RemoveWeak)) (reply_of c.remove_weak-result.result) c.remove_weak-result.new.self) c.deref_mut.ensures.value c.remove_weak-result.ensures.owes)

pub invariant_of-self : goal.invariant_of-self
invariant_of-self g c =
    let old : Locked = record { core = c.self.inside.core.engine; kept = c.self.inside.core.transactions; seat = c.self.inside.seat; flushes = c.self.inside.flushes.items; merges = c.self.inside.merges.items } in
    let told = grown_so _ (plain (command_of (Items ((c.args.id, c.args.key.now, ops.RemoveWeak) ∷ [])))) c.self.inside.core.engine.memory.next c.remove_weak-result.new.self.memory.next c.visible_seqno-before.result c.visible_seqno-after.result c.self.inside.seat.list c.tell.new.seat.list (ap (λ (v : ℕ × Bor Bytes). plain (command_of (Items ((v.0, v.1.now, ops.RemoveWeak) ∷ [])))) c.of-said.ensures)
    (c.visible_seqno-before.ensures.held ∙ ap (λ (h : Held). h.memory.next) c.deref.ensures) (c.visible_seqno-after.ensures.held ∙ ap (λ (h : Held). h.memory.next) c.deref-2.ensures) c.tell.ensures.told in (
      c.tell.ensures.table ∙ c.self.invariant.0,
      call_settles g.D.Disk.honest old c.remove_weak-result.new.self c.tell.new.seat (of_write (c.args.id, c.args.key.now, ops.RemoveWeak)) (reply_of c.remove_weak-result.result) (command_of (Items ((c.args.id, c.args.key.now, ops.RemoveWeak) ∷ []))) c.self.invariant.1 refl told
          (subst (λ (h : Held). Owes h (of_write (c.args.id, c.args.key.now, ops.RemoveWeak)) (reply_of c.remove_weak-result.result) c.remove_weak-result.new.self) c.deref_mut.ensures.value c.remove_weak-result.ensures.owes)
          (λ is. subst (λ (h : Held). Serves h (of_write (c.args.id, c.args.key.now, ops.RemoveWeak)) (reply_of c.remove_weak-result.result) c.remove_weak-result.new.self) c.deref_mut.ensures.value (c.remove_weak-result.ensures.serves is)),
    )

pub returns : goal.returns
returns g c =
    let old : Locked = record { core = c.self.inside.core.engine; kept = c.self.inside.core.transactions; seat = c.self.inside.seat; flushes = c.self.inside.flushes.items; merges = c.self.inside.merges.items } in
    let told = grown_so _ (plain (command_of (Items ((c.args.id, c.args.key.now, ops.RemoveWeak) ∷ [])))) c.self.inside.core.engine.memory.next c.remove_weak-result.new.self.memory.next c.visible_seqno-before.result c.visible_seqno-after.result c.self.inside.seat.list c.tell.new.seat.list (ap (λ (v : ℕ × Bor Bytes). plain (command_of (Items ((v.0, v.1.now, ops.RemoveWeak) ∷ [])))) c.of-said.ensures)
    (c.visible_seqno-before.ensures.held ∙ ap (λ (h : Held). h.memory.next) c.deref.ensures) (c.visible_seqno-after.ensures.held ∙ ap (λ (h : Held). h.memory.next) c.deref-2.ensures) c.tell.ensures.told in
    call_done g.D.Disk.honest old c.remove_weak-result.new.self c.tell.new.seat (of_write (c.args.id, c.args.key.now, ops.RemoveWeak)) (reply_of c.remove_weak-result.result) (command_of (Items ((c.args.id, c.args.key.now, ops.RemoveWeak) ∷ []))) c.self.invariant.1 refl told
    (subst (λ (h : Held). Owes h (of_write (c.args.id, c.args.key.now, ops.RemoveWeak)) (reply_of c.remove_weak-result.result) c.remove_weak-result.new.self) c.deref_mut.ensures.value c.remove_weak-result.ensures.owes)
    (λ is. subst (λ (h : Held). Serves h (of_write (c.args.id, c.args.key.now, ops.RemoveWeak)) (reply_of c.remove_weak-result.result) c.remove_weak-result.new.self) c.deref_mut.ensures.value (c.remove_weak-result.ensures.serves is)) _ c.self.view_is c.tell.ensures.table
