-- proofs/engine/Engine/take_away/Answers.antt
use Rattle.std.proofs.Common.{IsTrue, Err, Ok, refl, subst}
use Rattle.fjall_engine.specs.Holding.{Held}
use Rattle.fjall_engine.specs.CallParts.{TakesAway}
use Rattle.fjall_engine.proofs.PutMerges.{take_failed}
use Rattle.fjall_engine.proofs.engine.Engine.take_away.Goals as goal

pub returns-in-Err : goal.returns-in-Err
returns-in-Err g c =
    let m = g.D.Disk.meaning in
    let taken = c.args.taken.now in
    let error = c.in-Err.error in
    let old : Held = record { disk = m c.self.inside.disk; journal = c.self.inside.journal; catalog = c.self.inside.catalog; memory = c.self.inside.memory } in
    let new : Held = record { disk = m c.remove_taken.new.disk; journal = c.self.inside.journal; catalog = c.self.inside.catalog; memory = c.poison.new.self } in
    record {
      takes = subst (λ (h : Held). TakesAway (IsTrue g.D.Disk.honest) h taken (Err error) new) c.self.view_is
          (take_failed (IsTrue g.D.Disk.honest) old new taken error (λ i. record { disk = new.disk; journal = old.journal; catalog = old.catalog; memory = c.poison.ensures i }) c.in-Err.ensures.cause.cause
          (λ h. record {
            within = c.in-Err.ensures.within h;
            leaves = c.in-Err.ensures.any_moment h;
            lies = c.in-Err.ensures.lies h;
            served = c.in-Err.ensures.served h;
            beside = c.in-Err.ensures.beside h;
            gone = λ e. let bad : ⊥ = cc in absurd bad;
            kinds = c.in-Err.ensures.kinds h;
          })
          c.in-Err.ensures.cause.later);
    }

pub returns : goal.returns
returns g c =
    let m = g.D.Disk.meaning in
    let taken = c.args.taken.now in
    let old : Held = record { disk = m c.self.inside.disk; journal = c.self.inside.journal; catalog = c.self.inside.catalog; memory = c.self.inside.memory } in
    let new : Held = record { disk = m c.remove_taken.new.disk; journal = c.self.inside.journal; catalog = c.self.inside.catalog; memory = c.self.inside.memory } in
    record {
      takes = subst (λ (h : Held). TakesAway (IsTrue g.D.Disk.honest) h taken (Ok tt) new) c.self.view_is (
        refl,
        c.in_default.ensures.cause.later,
        λ h. record {
          within = c.in_default.ensures.within h;
          leaves = c.in_default.ensures.any_moment h;
          lies = c.in_default.ensures.lies h;
          served = c.in_default.ensures.served h;
          beside = c.in_default.ensures.beside h;
          gone = λ e. c.in_default.ensures.gone h;
          kinds = c.in_default.ensures.kinds h;
        },
      );
    }
