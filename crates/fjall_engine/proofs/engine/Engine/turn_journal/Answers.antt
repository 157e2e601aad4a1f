use Rattle.std.proofs.Common.{◌≡◌, IsTrue, Err, Ok, refl, subst, sym}
use Rattle.fjall_base.specs.declared.error.Error.{Error}
use Rattle.fjall_base.specs.declared.error.Error.TheVariants.{OutOfMemory}
use Rattle.fjall_journal.specs.Writer.{IsIo}
use Rattle.fjall_engine.specs.Holding.{Held}
use Rattle.fjall_engine.specs.CallParts.{Turns}
use Rattle.fjall_engine.proofs.JournalRotations.{turn_failed}
use Rattle.fjall_engine.proofs.engine.Engine.turn_journal.Goals as goal

no_fault : (error : Error) → error ≡ OutOfMemory → IsIo error → ⊥
no_fault error is = subst (λ e. IsIo e → ⊥) (sym is) (λ io. io)

pub returns-in-Err : goal.returns-in-Err
returns-in-Err g c =
    let m = g.D.Disk.meaning in
    let error = c.in-Err.error in
    let old : Held = record { disk = m c.self.inside.disk; journal = c.self.inside.journal; catalog = c.self.inside.catalog; memory = c.self.inside.memory } in
    let mid : Held = record { disk = m c.rotate_journal-turned.new.disk; journal = c.rotate_journal-turned.new.journal; catalog = c.self.inside.catalog; memory = c.rotate_journal-turned.new.self } in
    record {
      turns = subst (λ (h : Held). Turns (IsTrue g.D.Disk.honest) h (Err error) c.poison_by.new.self) c.self.view_is
          (turn_failed (IsTrue g.D.Disk.honest) old mid c.poison_by.new.self error
          (λ i. record { disk = mid.disk; journal = mid.journal; catalog = old.catalog; memory = c.in-Err.ensures.unchanged i }) c.poison_by.ensures c.in-Err.ensures.cause.cause
          (λ e. (c.in-Err.ensures.untouched (no_fault error e)).0) (λ e. (c.in-Err.ensures.untouched (no_fault error e)).1) c.in-Err.ensures.part
          (λ h. record {
            leaves = c.in-Err.ensures.any_moment h;
            lies = λ e. let bad : ⊥ = cc in absurd bad;
            elsewhere = c.in-Err.ensures.elsewhere h;
            served = c.in-Err.ensures.served h;
            kinds = c.in-Err.ensures.kinds h;
          }));
    }

pub returns : goal.returns
returns g c =
    let m = g.D.Disk.meaning in
    let old : Held = record { disk = m c.self.inside.disk; journal = c.self.inside.journal; catalog = c.self.inside.catalog; memory = c.self.inside.memory } in
    let new : Held = record { disk = m c.rotate_journal-turned.new.disk; journal = c.rotate_journal-turned.new.journal; catalog = c.self.inside.catalog; memory = c.rotate_journal-turned.new.self } in
    record {
      turns = subst (λ (h : Held). Turns (IsTrue g.D.Disk.honest) h (Ok tt) new) c.self.view_is (
        record { memory_is = c.in_default.ensures.ok; catalog = refl; journal = c.in_default.ensures.begun; faults = c.in_default.ensures.cause.later },
        c.in_default.ensures.took,
        λ h. record {
          leaves = c.in_default.ensures.any_moment h;
          lies = λ e. c.in_default.ensures.lies h;
          elsewhere = c.in_default.ensures.elsewhere h;
          served = c.in_default.ensures.served h;
          kinds = c.in_default.ensures.kinds h;
        },
      );
    }
