use Rattle.std.proofs.Common.{◌≡◌, IsTrue, Err, Ok, ◌∙◌, ap, subst}
use Rattle.fjall_machine.specs.Ingesting.{with_tables}
use Rattle.fjall_machine.specs.Remembered.{Remembered}
use Rattle.fjall_engine.specs.Holding.{Held}
use Rattle.fjall_engine.specs.CallParts.{Evicts, SettlesIngestion}
use Rattle.fjall_engine.proofs.IngestionSettles.{back_in_memory, record_there}
use Rattle.fjall_engine.proofs.engine.Engine.settle_ingestion.Goals as goal

pub swap_record-requires-in-Err : goal.swap_record-requires-in-Err
swap_record-requires-in-Err g c =
    let m = g.D.Disk.meaning in
    let p = c.args.planned in
    let old : Held = record { disk = m c.self.inside.disk; journal = c.self.inside.journal; catalog = c.self.inside.catalog; memory = c.self.inside.memory } in
    let evicts = subst (λ (x : Remembered). Evicts (IsTrue g.D.Disk.honest) (record old { memory = x }) (Err c.in-Err.error) c.evict.new.self) c.swap_record.ensures.memory c.in-Err.ensures.evicts in
    record {
      kept = record_there (IsTrue g.D.Disk.honest) old c.evict.new.self p c.in-Err.error evicts c.swap_record.new.planned.id c.swap_record.ensures.planned.0 c.self-2.inside.memory
          (ap (λ (h : Held). h.memory) c.self-2.view_is);
    }

pub returns-in-Err : goal.returns-in-Err
returns-in-Err g c =
    let m = g.D.Disk.meaning in
    let p = c.args.planned in
    let error = c.in-Err.error in
    let after = c.evict.new.self in
    let old : Held = record { disk = m c.self.inside.disk; journal = c.self.inside.journal; catalog = c.self.inside.catalog; memory = c.self.inside.memory } in
    let new : Held = record { disk = m c.self-2.inside.disk; journal = c.self-2.inside.journal; catalog = c.self-2.inside.catalog; memory = c.swap_record-in-Err.new.self } in
    let evicts = subst (λ (x : Remembered). Evicts (IsTrue g.D.Disk.honest) (record old { memory = x }) (Err error) after) c.swap_record.ensures.memory c.in-Err.ensures.evicts in
    let back = back_in_memory (IsTrue g.D.Disk.honest) old after p error evicts c.swap_record.new.planned.id c.swap_record.ensures.planned.0 c.self-2.inside.memory
    (ap (λ (h : Held). h.memory) c.self-2.view_is) _ c.swap_record-in-Err.new.self c.swap_record.ensures.back c.swap_record-in-Err.ensures.memory in
    record {
      settles = subst (λ (h : Held). SettlesIngestion (IsTrue g.D.Disk.honest) h p (Err error) new) c.self.view_is
          (after, evicts, (λ i. record (c.self-2.view_is i) { memory = back i }));
    }

pub returns : goal.returns
returns g c =
    let m = g.D.Disk.meaning in
    let p = c.args.planned in
    let after = c.evict.new.self in
    let swapped = c.swap_record.ensures.planned in
    let old : Held = record { disk = m c.self.inside.disk; journal = c.self.inside.journal; catalog = c.self.inside.catalog; memory = c.self.inside.memory } in
    let new : Held = record { disk = m c.self-2.inside.disk; journal = c.self-2.inside.journal; catalog = c.self-2.inside.catalog; memory = c.put_ingestion.new.self } in
    let evicts = subst (λ (x : Remembered). Evicts (IsTrue g.D.Disk.honest) (record old { memory = x }) (Ok tt) after) c.swap_record.ensures.memory c.in_default.ensures.evicts in
    let memory : c.put_ingestion.new.self ≡ with_tables p.id p.readers.items after.memory =
    c.put_ingestion.ensures ∙ (λ i. with_tables (swapped.0 i) (swapped.3 i).items (c.self-2.view_is i).memory) in
    record {
      settles = subst (λ (h : Held). SettlesIngestion (IsTrue g.D.Disk.honest) h p (Ok tt) new) c.self.view_is
          (after, evicts, (λ i. record (c.self-2.view_is i) { memory = memory i }));
    }
