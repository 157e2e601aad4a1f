use Rattle.std.proofs.Common.{◌∙◌, ap, subst, ℕ, Vec, Global}
use Rattle.fjall_reading.specs.Ingestions.{KeyOp}
use Rattle.fjall_compaction.specs.Ingests.{ingestion}
use Rattle.fjall_history.specs.Histories.{plain}
use Rattle.fjall_machine.specs.Shapes.{OfIngestion}
use Rattle.fjall_core.specs.Holding.{Held}
use Rattle.fjall_core.specs.CoreStanding.{Owes, Serves, reply_of}
use Rattle.fjall_shared.specs.Locked.{Locked}
use Rattle.fjall_shared.proofs.Settled.{call_done, call_settles, grown_so, says_ingested, told_more}
use Rattle.fjall_shared.proofs.shared.Shared.ingest.Goals as goal

pub tell-requires-clause-more : goal.tell-requires-clause-more
tell-requires-clause-more g c =
    told_more c.self.inside.core.engine c.ingest-result.new.self (OfIngestion c.args.id c.args.items.items) (reply_of c.ingest-result.result) c.visible_seqno-before.result c.visible_seqno-after.result
    (c.visible_seqno-before.ensures.held ∙ ap (λ (h : Held). h.memory.next) c.deref.ensures) (c.visible_seqno-after.ensures.held ∙ ap (λ (h : Held). h.memory.next) c.deref-2.ensures)
    (subst (λ (h : Held). Owes h (OfIngestion c.args.id c.args.items.items) (reply_of c.ingest-result.result) c.ingest-result.new.self) c.deref_mut.ensures.value c.ingest-result.ensures.owes)

pub invariant_of-self : goal.invariant_of-self
invariant_of-self g c =
    let old : Locked = record { core = c.self.inside.core.engine; kept = c.self.inside.core.transactions; seat = c.self.inside.seat; flushes = c.self.inside.flushes.items; merges = c.self.inside.merges.items } in
    let told = grown_so _ (plain (ingestion c.args.id c.args.items.items)) c.self.inside.core.engine.memory.next c.ingest-result.new.self.memory.next c.visible_seqno-before.result c.visible_seqno-after.result c.self.inside.seat.list c.tell.new.seat.list (ap (λ (v : ℕ × Vec KeyOp Global). plain (ingestion v.0 v.1.items)) c.of-said.ensures)
    (c.visible_seqno-before.ensures.held ∙ ap (λ (h : Held). h.memory.next) c.deref.ensures) (c.visible_seqno-after.ensures.held ∙ ap (λ (h : Held). h.memory.next) c.deref-2.ensures) c.tell.ensures.told in (
      c.tell.ensures.table ∙ c.self.invariant.0,
      call_settles g.D.Disk.honest old c.ingest-result.new.self c.tell.new.seat (OfIngestion c.args.id c.args.items.items) (reply_of c.ingest-result.result) (ingestion c.args.id c.args.items.items) c.self.invariant.1 (says_ingested c.args.id c.args.items.items) told
          (subst (λ (h : Held). Owes h (OfIngestion c.args.id c.args.items.items) (reply_of c.ingest-result.result) c.ingest-result.new.self) c.deref_mut.ensures.value c.ingest-result.ensures.owes)
          (λ is. subst (λ (h : Held). Serves h (OfIngestion c.args.id c.args.items.items) (reply_of c.ingest-result.result) c.ingest-result.new.self) c.deref_mut.ensures.value (c.ingest-result.ensures.serves is)),
    )

pub returns : goal.returns
returns g c =
    let old : Locked = record { core = c.self.inside.core.engine; kept = c.self.inside.core.transactions; seat = c.self.inside.seat; flushes = c.self.inside.flushes.items; merges = c.self.inside.merges.items } in
    let told = grown_so _ (plain (ingestion c.args.id c.args.items.items)) c.self.inside.core.engine.memory.next c.ingest-result.new.self.memory.next c.visible_seqno-before.result c.visible_seqno-after.result c.self.inside.seat.list c.tell.new.seat.list (ap (λ (v : ℕ × Vec KeyOp Global). plain (ingestion v.0 v.1.items)) c.of-said.ensures)
    (c.visible_seqno-before.ensures.held ∙ ap (λ (h : Held). h.memory.next) c.deref.ensures) (c.visible_seqno-after.ensures.held ∙ ap (λ (h : Held). h.memory.next) c.deref-2.ensures) c.tell.ensures.told in
    call_done g.D.Disk.honest old c.ingest-result.new.self c.tell.new.seat (OfIngestion c.args.id c.args.items.items) (reply_of c.ingest-result.result) (ingestion c.args.id c.args.items.items) c.self.invariant.1 (says_ingested c.args.id c.args.items.items) told
    (subst (λ (h : Held). Owes h (OfIngestion c.args.id c.args.items.items) (reply_of c.ingest-result.result) c.ingest-result.new.self) c.deref_mut.ensures.value c.ingest-result.ensures.owes)
    (λ is. subst (λ (h : Held). Serves h (OfIngestion c.args.id c.args.items.items) (reply_of c.ingest-result.result) c.ingest-result.new.self) c.deref_mut.ensures.value (c.ingest-result.ensures.serves is)) _ c.self.view_is c.tell.ensures.table
