use Rattle.std.proofs.Common.{IsTrue, Err, Ok, ap, refl, subst}
use Rattle.fjall_changes.specs.Given.{meant}
use Rattle.fjall_engine.specs.Holding.{Held}
use Rattle.fjall_engine.specs.CallParts.{Writes}
use Rattle.fjall_engine.proofs.PartOutcomes.{write_done, write_failed}
use Rattle.fjall_engine.proofs.engine.Engine.write.Goals as goal

pub returns-in-Err : goal.returns-in-Err
returns-in-Err g c =
    let m = g.D.Disk.meaning in
    let old : Held = record { disk = m c.self.inside.disk; journal = c.self.inside.journal; catalog = c.self.inside.catalog; memory = c.self.inside.memory } in
    let mid : Held = record { disk = m c.change-written.new.disk; journal = c.change-written.new.journal; catalog = c.self.inside.catalog; memory = c.change-written.new.self } in
    record {
      writes = subst (λ (h : Held). Writes (IsTrue g.D.Disk.honest) h (meant c.args.change) c.args.mode (Err c.in-Err.error) c.poison_by.new.self) c.self.view_is
          (write_failed (IsTrue g.D.Disk.honest) old (meant c.args.change) c.args.mode old.memory.next refl mid c.poison_by.new.self c.in-Err.error
          (λ i. record { disk = mid.disk; journal = mid.journal; catalog = old.catalog; memory = c.in-Err.ensures.unchanged i }) c.poison_by.ensures c.in-Err.ensures.cause.cause (λ e. c.in-Err.ensures.memory (ap Err e)) (λ e. c.in-Err.ensures.untouched (ap Err e)) c.in-Err.ensures.part
          (λ h. record { leaves = c.in-Err.ensures.any_moment h; lies = λ e. let bad : ⊥ = cc in absurd bad; elsewhere = c.in-Err.ensures.elsewhere h; served = c.in-Err.ensures.served h }) c.in-Err.ensures.faultless);
    }

pub returns : goal.returns
returns g c =
    let m = g.D.Disk.meaning in
    let old : Held = record { disk = m c.self.inside.disk; journal = c.self.inside.journal; catalog = c.self.inside.catalog; memory = c.self.inside.memory } in
    let new : Held = record { disk = m c.change-written.new.disk; journal = c.change-written.new.journal; catalog = c.self.inside.catalog; memory = c.change-written.new.self } in
    record {
      writes = subst (λ (h : Held). Writes (IsTrue g.D.Disk.honest) h (meant c.args.change) c.args.mode (Ok tt) new) c.self.view_is
          (write_done (IsTrue g.D.Disk.honest) old (meant c.args.change) c.args.mode old.memory.next refl new
          (λ i. record { disk = new.disk; journal = c.in_default.ensures.journal i; catalog = old.catalog; memory = c.in_default.ensures.ok i }) c.in_default.ensures.cause.later c.in_default.ensures.took
          (λ h. record { leaves = c.in_default.ensures.any_moment h; lies = λ e. c.in_default.ensures.lies h; elsewhere = c.in_default.ensures.elsewhere h; served = c.in_default.ensures.served h }) c.in_default.ensures.waits);
    }
