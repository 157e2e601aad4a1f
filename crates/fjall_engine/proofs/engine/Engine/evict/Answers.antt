use Rattle.std.proofs.Common.{IsTrue, Err, Ok, refl, subst}
use Rattle.fjall_engine.specs.Holding.{Held}
use Rattle.fjall_engine.specs.CallParts.{Evicts}
use Rattle.fjall_engine.proofs.Evictions.{done_homes, eviction_failed, stopped_homes}
use Rattle.fjall_engine.proofs.engine.Engine.evict.Goals as goal

pub returns-in-Err : goal.returns-in-Err
returns-in-Err g c =
    let m = g.D.Disk.meaning in
    let error = c.in-Err.error in
    let old : Held = record { disk = m c.self.inside.disk; journal = c.self.inside.journal; catalog = c.self.inside.catalog; memory = c.self.inside.memory } in
    let new : Held = record { disk = m c.evict.new.disk; journal = c.self.inside.journal; catalog = c.self.inside.catalog; memory = c.poison.new.self } in
    record {
      evicts = subst (λ (h : Held). Evicts (IsTrue g.D.Disk.honest) h (Err error) new) c.self.view_is
          (eviction_failed (IsTrue g.D.Disk.honest) old new c.evict.new.self error c.in-Err.ensures.left c.poison.ensures c.in-Err.ensures.cause.cause c.in-Err.ensures.cause.later
          (λ h. record {
            leaves = c.in-Err.ensures.any_moment h;
            lies = λ e. let bad : ⊥ = cc in absurd bad;
            elsewhere = c.in-Err.ensures.elsewhere h;
            homes = let part = c.in-Err.ensures.part h in stopped_homes old.memory old.disk new.disk c.evict.new.self.journals.sealed part.0 part.1 part.2;
            served = c.in-Err.ensures.served h;
            kinds = c.in-Err.ensures.kinds h;
            stopped = λ _. let part = c.in-Err.ensures.part h in (c.evict.new.self.journals.sealed, part.0, part.1, part.2);
          }));
    }

pub returns : goal.returns
returns g c =
    let m = g.D.Disk.meaning in
    let old : Held = record { disk = m c.self.inside.disk; journal = c.self.inside.journal; catalog = c.self.inside.catalog; memory = c.self.inside.memory } in
    let new : Held = record { disk = m c.evict.new.disk; journal = c.self.inside.journal; catalog = c.self.inside.catalog; memory = c.evict.new.self } in
    record {
      evicts = subst (λ (h : Held). Evicts (IsTrue g.D.Disk.honest) h (Ok tt) new) c.self.view_is (
        record { memory_is = c.in_default.ensures.ok; catalog = refl; journal = refl; faults = c.in_default.ensures.cause.later },
        c.in_default.ensures.took,
        λ h. record {
          leaves = c.in_default.ensures.any_moment h;
          lies = λ e. c.in_default.ensures.lies h;
          elsewhere = c.in_default.ensures.elsewhere h;
          homes = done_homes old.memory old.disk new.disk (c.in_default.ensures.took h);
          served = c.in_default.ensures.served h;
          kinds = c.in_default.ensures.kinds h;
          stopped = λ e. let bad : ⊥ = cc in absurd bad;
        },
      );
    }
