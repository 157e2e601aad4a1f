use Rattle.std.proofs.Common.{◌∙◌, ap, refl, subst, ℕ, List, Bor}
use Rattle.fjall_base.specs.Store.{Create}
use Rattle.fjall_meta.specs.Replays.{option_pairs}
use Rattle.fjall_history.specs.Histories.{plain}
use Rattle.fjall_machine.specs.Shapes.{OfCreation}
use Rattle.fjall_core.specs.Holding.{Held}
use Rattle.fjall_core.specs.CoreStanding.{Owes, Serves, number_reply}
use Rattle.fjall_shared.specs.Locked.{Locked}
use Rattle.fjall_shared.proofs.Settled.{call_done, call_settles, grown_so, told_more}
use Rattle.fjall_shared.proofs.shared.Shared.keyspace.Goals as goal

pub tell-requires-clause-more : goal.tell-requires-clause-more
tell-requires-clause-more g c =
    told_more c.self.inside.core.engine c.keyspace-result.new.self (OfCreation c.args.name.now c.args.options) (number_reply c.keyspace-result.result) c.visible_seqno-before.result c.visible_seqno-after.result
    (c.visible_seqno-before.ensures.held ∙ ap (λ (h : Held). h.memory.next) c.deref.ensures) (c.visible_seqno-after.ensures.held ∙ ap (λ (h : Held). h.memory.next) c.deref-2.ensures)
    (subst (λ (h : Held). Owes h (OfCreation c.args.name.now c.args.options) (number_reply c.keyspace-result.result) c.keyspace-result.new.self) c.deref_mut.ensures.value c.keyspace-result.ensures.owes)

pub invariant_of-self : goal.invariant_of-self
invariant_of-self g c =
    let old : Locked = record { core = c.self.inside.core.engine; kept = c.self.inside.core.transactions; seat = c.self.inside.seat; flushes = c.self.inside.flushes.items; merges = c.self.inside.merges.items } in
    let told = grown_so _ (plain (Create c.args.name.now (option_pairs c.args.options))) c.self.inside.core.engine.memory.next c.keyspace-result.new.self.memory.next c.visible_seqno-before.result c.visible_seqno-after.result c.self.inside.seat.list c.tell.new.seat.list (ap (λ (v : Bor (List ℕ) × List (List ℕ)). plain (Create v.0.now (option_pairs v.1))) c.of-said.ensures)
    (c.visible_seqno-before.ensures.held ∙ ap (λ (h : Held). h.memory.next) c.deref.ensures) (c.visible_seqno-after.ensures.held ∙ ap (λ (h : Held). h.memory.next) c.deref-2.ensures) c.tell.ensures.told in (
      c.tell.ensures.table ∙ c.self.invariant.0,
      call_settles g.D.Disk.honest old c.keyspace-result.new.self c.tell.new.seat (OfCreation c.args.name.now c.args.options) (number_reply c.keyspace-result.result) (Create c.args.name.now (option_pairs c.args.options)) c.self.invariant.1 refl told
          (subst (λ (h : Held). Owes h (OfCreation c.args.name.now c.args.options) (number_reply c.keyspace-result.result) c.keyspace-result.new.self) c.deref_mut.ensures.value c.keyspace-result.ensures.owes)
          (λ is. subst (λ (h : Held). Serves h (OfCreation c.args.name.now c.args.options) (number_reply c.keyspace-result.result) c.keyspace-result.new.self) c.deref_mut.ensures.value (c.keyspace-result.ensures.serves is)),
    )

pub returns : goal.returns
returns g c =
    let old : Locked = record { core = c.self.inside.core.engine; kept = c.self.inside.core.transactions; seat = c.self.inside.seat; flushes = c.self.inside.flushes.items; merges = c.self.inside.merges.items } in
    let told = grown_so _ (plain (Create c.args.name.now (option_pairs c.args.options))) c.self.inside.core.engine.memory.next c.keyspace-result.new.self.memory.next c.visible_seqno-before.result c.visible_seqno-after.result c.self.inside.seat.list c.tell.new.seat.list (ap (λ (v : Bor (List ℕ) × List (List ℕ)). plain (Create v.0.now (option_pairs v.1))) c.of-said.ensures)
    (c.visible_seqno-before.ensures.held ∙ ap (λ (h : Held). h.memory.next) c.deref.ensures) (c.visible_seqno-after.ensures.held ∙ ap (λ (h : Held). h.memory.next) c.deref-2.ensures) c.tell.ensures.told in
    call_done g.D.Disk.honest old c.keyspace-result.new.self c.tell.new.seat (OfCreation c.args.name.now c.args.options) (number_reply c.keyspace-result.result) (Create c.args.name.now (option_pairs c.args.options)) c.self.invariant.1 refl told
    (subst (λ (h : Held). Owes h (OfCreation c.args.name.now c.args.options) (number_reply c.keyspace-result.result) c.keyspace-result.new.self) c.deref_mut.ensures.value c.keyspace-result.ensures.owes)
    (λ is. subst (λ (h : Held). Serves h (OfCreation c.args.name.now c.args.options) (number_reply c.keyspace-result.result) c.keyspace-result.new.self) c.deref_mut.ensures.value (c.keyspace-result.ensures.serves is)) _ c.self.view_is c.tell.ensures.table
