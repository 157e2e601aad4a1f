use Rattle.std.proofs.Common.{IsTrue, Err, Ok, refl, subst, sym}
use Rattle.fjall_machine.specs.Remembered.{Remembered}
use Rattle.fjall_engine.specs.Holding.{Held}
use Rattle.fjall_engine.specs.CallParts.{WritesIngestion}
use Rattle.fjall_engine.proofs.IngestionWrites.{write_failed}
use Rattle.fjall_engine.proofs.engine.Engine.write_ingestion.Goals as goal

pub returns-in-Err : goal.returns-in-Err
returns-in-Err g c =
    let m = g.D.Disk.meaning in
    let p = c.args.planned.now in
    let error = c.in-Err.error in
    let disk = m c.write_ingestion.new.disk in
    let old : Held = record { disk = m c.self.inside.disk; journal = c.self.inside.journal; catalog = c.self.inside.catalog; memory = c.self.inside.memory } in
    let ill = subst (λ (x : Remembered). WritesIngestion (IsTrue g.D.Disk.honest) old p (Err error) (record old { disk = disk; memory = x })) (sym c.poison.ensures)
    (write_failed (IsTrue g.D.Disk.honest) old disk p error c.in-Err.ensures.cause
    (λ h. record {
      within = c.in-Err.ensures.within h;
      leaves = c.in-Err.ensures.any_moment h;
      lies = λ e. let bad : ⊥ = cc in absurd bad;
      beside = c.in-Err.ensures.beside h;
      files = λ e. let bad : ⊥ = cc in absurd bad;
      served = c.in-Err.ensures.served h;
      kinds = c.in-Err.ensures.kinds h;
    })) in
    record { writes = subst (λ (h : Held). WritesIngestion (IsTrue g.D.Disk.honest) h p (Err error) (record old { disk = disk; memory = c.poison.new.self })) c.self.view_is ill }

pub returns : goal.returns
returns g c =
    let m = g.D.Disk.meaning in
    let p = c.args.planned.now in
    let disk = m c.write_ingestion.new.disk in
    let old : Held = record { disk = m c.self.inside.disk; journal = c.self.inside.journal; catalog = c.self.inside.catalog; memory = c.self.inside.memory } in
    record {
      writes = subst (λ (h : Held). WritesIngestion (IsTrue g.D.Disk.honest) h p (Ok tt) (record old { disk = disk })) c.self.view_is (
        refl,
        c.in_default.ensures.cause.later,
        λ h. record {
          within = c.in_default.ensures.within h;
          leaves = c.in_default.ensures.any_moment h;
          lies = λ e. c.in_default.ensures.ok h;
          beside = c.in_default.ensures.beside h;
          files = λ e. c.in_default.ensures.files h;
          served = c.in_default.ensures.served h;
          kinds = c.in_default.ensures.kinds h;
        },
      );
    }
