use Rattle.std.proofs.Common.{refl, subst}
use Rattle.fjall_machine.specs.Shapes.{OfCount, ToFlush}
use Rattle.fjall_core.specs.Holding.{Held}
use Rattle.fjall_core.specs.CoreStanding.{Owes, Serves, ids_reply}
use Rattle.fjall_shared.specs.Locked.{Locked}
use Rattle.fjall_shared.proofs.Settled.{quiet_done, quiet_settles}
use Rattle.fjall_shared.proofs.shared.Shared.get_keyspaces_to_flush_for_oldest_journal_eviction.Goals as goal

pub invariant_of-self : goal.invariant_of-self
invariant_of-self g c =
    let old : Locked = record { core = c.self.inside.core.engine; kept = c.self.inside.core.transactions; seat = c.self.inside.seat; flushes = c.self.inside.flushes.items; merges = c.self.inside.merges.items } in (
      c.self.invariant.0,
      quiet_settles g.D.Disk.honest old c.get_keyspaces_to_flush_for_oldest_journal_eviction.new.self (OfCount ToFlush) (ids_reply c.get_keyspaces_to_flush_for_oldest_journal_eviction.result) refl c.self.invariant.1
          (subst (λ (h : Held). Owes h (OfCount ToFlush) (ids_reply c.get_keyspaces_to_flush_for_oldest_journal_eviction.result) c.get_keyspaces_to_flush_for_oldest_journal_eviction.new.self) c.deref_mut.ensures.value c.get_keyspaces_to_flush_for_oldest_journal_eviction.ensures.owes)
          (λ is. subst (λ (h : Held). Serves h (OfCount ToFlush) (ids_reply c.get_keyspaces_to_flush_for_oldest_journal_eviction.result) c.get_keyspaces_to_flush_for_oldest_journal_eviction.new.self) c.deref_mut.ensures.value (c.get_keyspaces_to_flush_for_oldest_journal_eviction.ensures.serves is)),
    )

pub returns : goal.returns
returns g c =
    let old : Locked = record { core = c.self.inside.core.engine; kept = c.self.inside.core.transactions; seat = c.self.inside.seat; flushes = c.self.inside.flushes.items; merges = c.self.inside.merges.items } in
    quiet_done g.D.Disk.honest old c.get_keyspaces_to_flush_for_oldest_journal_eviction.new.self (OfCount ToFlush) (ids_reply c.get_keyspaces_to_flush_for_oldest_journal_eviction.result) refl c.self.invariant.1
    (subst (λ (h : Held). Owes h (OfCount ToFlush) (ids_reply c.get_keyspaces_to_flush_for_oldest_journal_eviction.result) c.get_keyspaces_to_flush_for_oldest_journal_eviction.new.self) c.deref_mut.ensures.value c.get_keyspaces_to_flush_for_oldest_journal_eviction.ensures.owes)
    (λ is. subst (λ (h : Held). Serves h (OfCount ToFlush) (ids_reply c.get_keyspaces_to_flush_for_oldest_journal_eviction.result) c.get_keyspaces_to_flush_for_oldest_journal_eviction.new.self) c.deref_mut.ensures.value (c.get_keyspaces_to_flush_for_oldest_journal_eviction.ensures.serves is)) _ c.self.view_is
